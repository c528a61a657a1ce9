-- Lemmas about the branches of one replacement.
use Rattle.std.specs.Prelude.{Ok, Err, Option, Some, None}
use Rattle.std.specs.Option.{is_some}
use mathlib.Core.Path.{◌≡◌, refl, sym, ap, ◌∙◌}
use mathlib.Core.Bool.{Bool, true, false, not, cond, false≢true}
use mathlib.Core.List.{List}
use Prim.Native.Nat.{ℕ, ◌-◌, ◌≤◌}
use native.Mathlib.Omega.{arith}
use lib.ListN.{length, take, drop}
use borrow.Author.Tests.{le-leb, lt-leb}
use Rattle.text.specs.Text.{Text, is_nil, equal, written_if_fits, fit_of}
use Rattle.text.proofs.BoolLaws.{known_false, known_true}
use Rattle.text.proofs.WriteLaws.{rest_whole, fit_room, fit_over, fit_is, fit_back}
use Rattle.path_grammar.specs.Legal.{legal, at_most255}
use Rattle.path_prefix.specs.Prefix.{has_prefix}
use Rattle.path_join.specs.Join.{join, replace_prefix}
use Rattle.path_prefix.proofs.PrefixLaws.{prefix_long}
use Rattle.path_join.proofs.ReplaceLaws.{replace_prefix_lem, replace_other}
use Rattle.pair_list.specs.Pair.{Pair, pair, pair_at, source_at}
use Rattle.pair_list.specs.Places.{pairs_in, key_at}
use Rattle.pair_list.proofs.BestLaws.{Best, best_chosen}
use Rattle.pair_list.proofs.PlaceLaws.{pairs_in_at, pairs_in_length, pair_is}
use Rattle.refusal.specs.declared.Refusal.TheVariants.{MadeTooLong, MadeIllegal}
use Rattle.refusal.specs.Outcome.{checked}
use Rattle.relocate_chain.specs.declared.steps.Longest.{Longest}
use Rattle.relocate_chain.specs.Chain.{longest_source, replacement_at, longest_replacement, is_skipped, if_altered, replacement}
use Rattle.relocate_chain.specs.ChainStep.{longest_index, step_reply, step_buffer}

-- A pair that yields a path replaces a prefix.
all_none : (a b c : Bool) → is_some {T = Text} (cond a None (cond b None (cond c None None))) ≡ true → ⊥
all_none true b c h = false≢true h
all_none false true c h = false≢true h
all_none false false true h = false≢true h
all_none false false false h = false≢true h

all_some : (a b c d : Bool) (j : Text) → is_some (cond a None (cond b None (cond c (cond d None (Some j)) (Some j)))) ≡ true
    → cond a None (cond b None (cond c (cond d None (Some j)) (Some j))) ≡ Some j
all_some true b c d j h = absurd (false≢true h)
all_some false true c d j h = absurd (false≢true h)
all_some false false true true j h = absurd (false≢true h)
all_some false false true false j h = refl
all_some false false false d j h = refl

module _ (alters : Bool) (skip : Option Text) (p s t : Text) (h : is_some (replacement alters skip p (pair s t)) ≡ true) where
  replaced_prefix : has_prefix p s ≡ true
  unfolding replacement if_altered
  replaced_prefix = go (has_prefix p s) refl
    where
      go : (b : Bool) → has_prefix p s ≡ b → b ≡ true
      go true e = refl
      go false e = absurd (all_none (is_nil t) (is_skipped skip s) alters (rw (replace_other p s t e) at h))

  replaced_is : replacement alters skip p (pair s t) ≡ Some (join s t (take (length p - length s) (drop (length s) p)))
  unfolding replacement if_altered
  replaced_is =
      let j : Text = join s t (take (length p - length s) (drop (length s) p)) in
      let e : replace_prefix p s t ≡ Some j = rw (rest_whole p (length s)) (replace_prefix_lem p s t replaced_prefix) in
      rw e (all_some (is_nil t) (is_skipped skip s) alters (equal j p) j (rw e at h))

-- `replace_once`
module _ (alters : Bool) (skip : Option Text) (p store : Text) (places : List ℕ) (n : ℕ) (f : Option Longest)
    (h : longest_index f ≡ longest_source (replacement alters skip p) (pairs_in store places n) n) where
  nearest_is : longest_replacement (replacement alters skip p) (pairs_in store places n) ≡ replacement_at (replacement alters skip p) (pairs_in store places n) (longest_index f)
  unfolding longest_replacement
  nearest_is =
      let l : List Pair = pairs_in store places n in
      ap (λ (k : ℕ). replacement_at (replacement alters skip p) l (longest_source (replacement alters skip p) l k)) (pairs_in_length store places n)
      ∙ ap (λ (o : Option ℕ). replacement_at (replacement alters skip p) l o) (sym h)

  pub once_still : f ≡ None → (mem : Text)
      → ((Ok None) ≡ step_reply (longest_replacement (replacement alters skip p) (pairs_in store places n))) × (mem ≡ step_buffer (longest_replacement (replacement alters skip p) (pairs_in store places n)) mem)
  unfolding step_reply step_buffer
  once_still g mem = rw (nearest_is, g) (refl, refl)

  module _ (b : Longest) (g : f ≡ Some b) (s t : Text) (hs : s ≡ key_at store places false b.at) (ht : t ≡ key_at store places true b.at) where
    -- The selected pair is a pair of the list, and yields a path.
    chosen : Best (λ (i : ℕ). is_some (replacement alters skip p (pair_at (pairs_in store places n) i))) (λ (i : ℕ). length (source_at (pairs_in store places n) i)) n b.at
    unfolding longest_source
    chosen = best_chosen _ _ n b.at (sym h ∙ ap longest_index g)

    pair_here : pair_at (pairs_in store places n) b.at ≡ pair s t
    pair_here = pairs_in_at store places n b.at chosen.in_range_lem ∙ sym (pair_is store places b.at s t hs ht)

    gives : is_some (replacement alters skip p (pair s t)) ≡ true
    gives = rw pair_here at chosen.does_pass

    pub once_long : length s ≤ length p
    once_long = prefix_long p s (replaced_prefix alters skip p s t gives)

    pub once_text : longest_replacement (replacement alters skip p) (pairs_in store places n) ≡ Some (join s t (take (length p - length s) (drop (length s) p)))
    once_text = nearest_is ∙ rw (g, pair_here) (replaced_is alters skip p s t gives)

-- Questions 7 and 8 for the text j written to a buffer of 255 bytes.
module _ (o : Option Text) (j : Text) (e : o ≡ Some j) (buf : Text) (l : length buf ≡ 255) (f : Option ℕ) (h : f ≡ fit_of j buf) (mem : Text) (m : mem ≡ written_if_fits 0 j buf) where
  kept : mem ≡ step_buffer o buf
  unfolding step_buffer
  kept = rw e m

  pub once_over : f ≡ None → (Err MadeTooLong ≡ step_reply o) × (mem ≡ step_buffer o buf)
  unfolding step_reply checked at_most255
  once_over k = (rw (e, lt-leb (length j) 255 (omega (arith, fit_over j buf (sym h ∙ k)))) refl, kept)

  module _ (n : ℕ) (w : f ≡ Some n) where
    short : length j ≤ 255
    short = omega (arith, fit_room j buf n (sym h ∙ w))

    pub once_illegal : (x : Bool) → x ≡ legal (take n mem) → not x ≡ true → (Err MadeIllegal ≡ step_reply o) × (mem ≡ step_buffer o buf)
    unfolding step_reply checked at_most255
    once_illegal x g k =
        let b : legal j ≡ false = rw (fit_back j buf f h n w mem m) at (known_false g k) in
        (rw (e, le-leb (length j) 255 short, b) refl, kept)

    pub once_made : (x : Bool) → x ≡ legal (take n mem) → not x ≡ false → (Ok (Some n) ≡ step_reply o) × (mem ≡ step_buffer o buf)
    unfolding step_reply checked at_most255
    once_made x g k =
        let b : legal j ≡ true = rw (fit_back j buf f h n w mem m) at (known_true g k) in
        (rw (e, le-leb (length j) 255 short, b, fit_is j buf f h n w) refl, kept)
