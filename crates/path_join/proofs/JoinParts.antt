-- The theorem about the three parts of a join, and the worked examples of the separator.
use mathlib.Core.Path.{◌≡◌, refl}
use mathlib.Core.List.{◌++◌, append_assoc}
use Prim.Native.Nat.{ℕ, ◌+◌}
use native.Mathlib.Omega.{arith}
use lib.ListN.{length, take, drop}
use lib.Seq.{take-append_seam, drop-append_seam, drop-append-add, take_at, drop_at}
use Rattle.text.specs.Text.{Text, written}
use Rattle.path_grammar.specs.Legal.{legal}
use Rattle.path_join.specs.Join.{separator_len, separator, body, join, replace_prefix, SeparatorExamples}
use Rattle.path_join.specs.JoinParts.{JoinInParts}
use Rattle.path_join.proofs.SeparatorLaws.{separator_length, join_length}

-- In t, a, b and c, one after the other, each is found where the lengths of those before it end; k is the length of a.
module _ (t a b c : Text) (k : ℕ) (h : length a ≡ k) where
  second_part : take k (drop (length t) (t ++ (a ++ (b ++ c)))) ≡ a
  second_part = rw (drop-append_seam t (a ++ (b ++ c))) (take_at a (b ++ c) k h)

  third_part : take (length b) (drop (length t + k) (t ++ (a ++ (b ++ c)))) ≡ b
  third_part = rw (drop-append-add t (a ++ (b ++ c)) k, drop_at a (b ++ c) k h) (take-append_seam b c)

written_join : (s t r out : Text) → written (join s t r) out ≡ t ++ (separator s t r ++ (body s r ++ drop (length (join s t r)) out))
unfolding join
written_join s t r out =
    let c : Text = drop (length (join s t r)) out in
    rw (append_assoc t (separator s t r ++ body s r) c, append_assoc (separator s t r) (body s r) c)

pub join_in_parts : JoinInParts
join_in_parts s t r out =
    let a : Text = separator s t r in
    let b : Text = body s r in
    let c : Text = drop (length (join s t r)) out in
    rw (written_join s t r out) record {
      prefix_part = take-append_seam t (a ++ (b ++ c));
      separator_part = second_part t a b c (separator_len s t r) (separator_length s t r);
      body_part = third_part t a b c (separator_len s t r) (separator_length s t r);
      lengths = omega (arith, join_length s t r);
    }

pub separator_examples : SeparatorExamples
unfolding separator_len replace_prefix legal
separator_examples = record {
  exact_match = (refl, refl);
  below_root = (refl, refl);
  below_root_illegal = refl;
  property = (refl, refl);
  child_of_selection = (refl, refl);
  child_of_prim = (refl, refl);
  empty_prefix = (refl, refl);
}
