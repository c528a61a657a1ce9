-- Lemmas about the lengths of ends and of the texts made from them.
use Rattle.std.specs.Prelude.{Option}
use Rattle.std.specs.Option.{unwrap_or}
use mathlib.Core.Path.{◌≡◌, refl, ap}
use mathlib.Core.Bool.{Bool, true, false, ◌&&◌}
use mathlib.Core.List.{List, [], ◌∷◌, ◌++◌}
use Prim.Native.Nat.{ℕ, zero, suc, ◌+◌, ◌≤◌, ◌<◌}
use native.Mathlib.Omega.{arith}
use lib.ListN.{length, take, drop, length-append}
use borrow.Author.Tests.{leb-true, le-leb}
use Rattle.text.specs.Text.{Text, fit_of, written_if_fits}
use Rattle.text.proofs.BoolLaws.{and_l, and_r}
use Rattle.text.proofs.WriteLaws.{placed_first, read_back}
use Rattle.path_grammar.specs.Legal.{at_most255}
use Rattle.path_prefix.specs.Prefix.{has_prefix}
use Rattle.path_join.specs.Join.{join}
use Rattle.path_prefix.proofs.PrefixLaws.{prefix_rest}
use Rattle.path_join.proofs.ReplaceLaws.{replace_prefix_lem, replace_other}
use Rattle.path_join.proofs.SeparatorLaws.{separator_short_lem, join_length, body_short}
use Rattle.pair_list.specs.Pair.{Pair, source_at, target_at, every_end, all_short}
use Rattle.pair_list.specs.Places.{key_at, pairs_in}
use Rattle.pair_list.proofs.PlaceLaws.{pairs_in_source, pairs_in_target}
use Rattle.pair_buffer.specs.Ends.{at_most, replaced_or_same, written_length}

pub within_ends : (k : ℕ) (l : List Pair) → every_end (at_most k) l ≡ true → (i : ℕ) → (length (source_at l i) ≤ k) × (length (target_at l i) ≤ k)
unfolding every_end
within_ends k [] e i = (omega arith, omega arith)
within_ends k (x ∷ l) e zero =
    let a : (at_most k x.source && at_most k x.target) ≡ true = and_l (at_most k x.source && at_most k x.target) (every_end (at_most k) l) e in
    (leb-true (length x.source) k (and_l (at_most k x.source) (at_most k x.target) a), leb-true (length x.target) k (and_r (at_most k x.source) (at_most k x.target) a))
within_ends k (x ∷ l) e (suc i) = within_ends k l (and_r (at_most k x.source && at_most k x.target) (every_end (at_most k) l) e) i

pub within_keys : (k : ℕ) (store : Text) (places : List ℕ) (n i : ℕ) → every_end (at_most k) (pairs_in store places n) ≡ true → i < n
    → (length (key_at store places false i) ≤ k) × (length (key_at store places true i) ≤ k)
within_keys k store places n i e h =
    let z = within_ends k (pairs_in store places n) e i in
    (omega (arith, z.0, ap length (pairs_in_source store places n i h)), omega (arith, z.1, ap length (pairs_in_target store places n i h)))

-- The ends of a list that passed question 1.
module _ (store : Text) (places : List ℕ) (n i : ℕ) (h : i < n) (e : all_short (pairs_in store places n) ≡ true) where
  pub short_source : (s : Text) → s ≡ key_at store places false i → length s ≤ 255
  unfolding all_short at_most255
  short_source s f = omega (arith, (within_keys 255 store places n i e h).0, ap length f)

  pub short_target : (t : Text) → t ≡ key_at store places true i → length t ≤ 255
  unfolding all_short at_most255
  short_target t f = omega (arith, (within_keys 255 store places n i e h).1, ap length f)

-- A path with its prefix replaced is at most as long as the path, the new prefix and a slash together.
pub join_within : (p s t r : Text) → p ≡ s ++ r → length (join s t r) ≤ length t + 1 + length p
join_within p s t r e = omega (arith, join_length s t r, separator_short_lem s t r, body_short s r, ap length e, length-append s r)

pub replaced_short : (p s t : Text) → length p ≤ 255 → length t ≤ 255 → length (replaced_or_same p s t) ≤ 511
replaced_short p s t lp lt = go (has_prefix p s) refl
  where
    go : (b : Bool) → has_prefix p s ≡ b → length (replaced_or_same p s t) ≤ 511
    go true h =
        omega (
          arith,
          ap (λ (o : Option Text). length (unwrap_or o p)) (replace_prefix_lem p s t h),
          join_within p s t (drop (length s) p) (prefix_rest p s h).0,
        )
    go false h = omega (arith, ap (λ (o : Option Text). length (unwrap_or o p)) (replace_other p s t h))

-- A text written to a buffer that it fits in: the amount written is its length, and the text is read back.
pub placed_back : (q out : Text) (k : ℕ) (out' : Text) → (k ≡ written_length (fit_of q out)) × (out' ≡ written_if_fits 0 q out) → length q ≤ length out → (k ≡ length q) × (take k out' ≡ q)
unfolding fit_of
placed_back q out k out' w l =
    let z : k ≡ length q = rw (le-leb (length q) (length out) l) at w.0 in
    (z, rw (z, w.1, placed_first q out l) (read_back q out))

-- The text made is a part of the buffer.
module _ (q : Text) (k : ℕ) (e : k ≡ length q) where
  pub part_within : (most : ℕ) → length q ≤ most → k ≤ most
  part_within most l = omega arith

  pub part_is : (made : Text) → take k made ≡ q → k ≡ length (take k made)
  part_is made f = omega (arith, ap length f)
