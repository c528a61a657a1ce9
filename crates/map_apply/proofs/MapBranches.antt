-- Lemmas for the branches of `apply_pair` and `map_text_carried`.
use Rattle.std.specs.Prelude.{Result, Ok, Err, Option, Some, None}
use Rattle.std.specs.Option.{ok_or}
use mathlib.Core.Path.{◌≡◌, refl, sym, ap, ◌∙◌}
use mathlib.Core.Logic.{◌≢◌}
use mathlib.Core.Bool.{Bool, true, false, not, cond}
use mathlib.Core.List.{List}
use Prim.Native.Nat.{ℕ, ◌-◌, ◌≤◌, ◌<◌}
use native.Mathlib.Nat.{zero-add}
use native.Mathlib.Omega.{arith}
use lib.ListN.{length, take, drop}
use borrow.Author.Tests.{le-leb, lt-leb}
use Rattle.text.proofs.TextLaws.{nil_length, nil_not}
use Rattle.text.specs.Text.{Text, written_if_fits, fit_of}
use Rattle.text.proofs.BoolLaws.{told}
use Rattle.text.proofs.WriteLaws.{placed_first, rest_whole, fit_length, fit_room, fit_over}
use Rattle.path_grammar.specs.Legal.{at_most255}
use Rattle.path_join.specs.Join.{join, join_illegal}
use Rattle.pair_list.specs.Places.{key_at}
use Rattle.pair_list.specs.LongestMatch.{longest_match, matches}
use Rattle.pair_list.proofs.LongestMatchLaws.{chosen_best, served}
use Rattle.refusal.specs.declared.Refusal.TheVariants.{NoPath, MadeTooLong, MadeIllegal}
use Rattle.refusal.specs.Outcome.{Outcome, path, refused, outcome_reply, outcome_buffer}
use Rattle.map_spec.specs.Map.{Map, lent_map, map_source, map_target}
use Rattle.path_rest.specs.Rest.{rest_index}
use Rattle.path_rest.proofs.RestLaws.{rest_from}
use Rattle.map_rest.specs.MapRest.{rest_by, source_rest, target_rest}
use Rattle.map_spec.proofs.LentLaws.{matched_long, out_keys, home_keys, ends_by}
use Rattle.map_apply.specs.Fast.{join_checked, keep_path, map_fast_by, map_fast, plain_rest}
use Rattle.refusal.specs.declared.Refusal.{Refusal}

-- The buffer after writing a text that fits 255 bytes, and one that does not.
module _ (q out : Text) (f : Option ℕ) (h : f ≡ fit_of q out) (l : length out ≡ 255) where
  pub path_written : (n : ℕ) (out' : Text) → f ≡ Some n → out' ≡ written_if_fits 0 q out
      → (Ok n ≡ outcome_reply (cond (at_most255 q) (path q) (refused MadeTooLong))) × (out' ≡ outcome_buffer (cond (at_most255 q) (path q) (refused MadeTooLong)) out)
  unfolding at_most255 outcome_reply outcome_buffer
  path_written n out' e m =
      let r : length q ≤ length out = fit_room q out n (sym h ∙ e) in
      rw (le-leb (length q) 255 (omega arith)) (ap (λ (k : ℕ). Ok k) (fit_length q out n (sym h ∙ e)), m ∙ placed_first q out r)

  pub path_over : (out' : Text) → f ≡ None → out' ≡ written_if_fits 0 q out
      → (Err MadeTooLong ≡ outcome_reply (cond (at_most255 q) (path q) (refused MadeTooLong))) × (out' ≡ outcome_buffer (cond (at_most255 q) (path q) (refused MadeTooLong)) out)
  unfolding at_most255 outcome_reply outcome_buffer written_if_fits
  path_over out' e m =
      let r : length out < length q = fit_over q out (sym h ∙ e) in
      let o : out' ≡ out = rw (zero-add (length q), lt-leb (length q) (length out) r) at m in
      rw (lt-leb (length q) 255 (omega arith)) (refl, o)

pub path_fitted : (q out : Text) (f : Option ℕ) → f ≡ fit_of q out → length out ≡ 255 → (out' : Text) → out' ≡ written_if_fits 0 q out
    → (ok_or f MadeTooLong ≡ outcome_reply (cond (at_most255 q) (path q) (refused MadeTooLong))) × (out' ≡ outcome_buffer (cond (at_most255 q) (path q) (refused MadeTooLong)) out)
path_fitted q out (Some n) h l out' m = path_written q out (Some n) h l n out' refl m
path_fitted q out None h l out' m = path_over q out None h l out' refl m

-- Lemmas for `apply_pair`; the remainder as the code cuts it.
abbrev remainder_of : Text → Text → Text
remainder_of s p = take (length p - length s) (drop (length s) p)

module _ (s t p out : Text) (b : Bool) (h : b ≡ join_illegal t (remainder_of s p)) where
  pub apply_illegal : b ≡ true → (Err MadeIllegal ≡ outcome_reply (join_checked s t (drop (length s) p))) × (out ≡ outcome_buffer (join_checked s t (drop (length s) p)) out)
  unfolding join_checked outcome_reply outcome_buffer
  apply_illegal k = let e : join_illegal t (drop (length s) p) ≡ true = rw (rest_whole p (length s)) at (told h k) in rw e (refl, refl)

  module _ (k : b ≡ false) where
    unspoilt : join_illegal t (drop (length s) p) ≡ false
    unspoilt = rw (rest_whole p (length s)) at (told h k)

    pub apply_made : (r : Result ℕ Refusal) (out' : Text)
        → (r ≡ outcome_reply (cond (at_most255 (join s t (remainder_of s p))) (path (join s t (remainder_of s p))) (refused MadeTooLong)))
        × (out' ≡ outcome_buffer (cond (at_most255 (join s t (remainder_of s p))) (path (join s t (remainder_of s p))) (refused MadeTooLong)) out)
        → (r ≡ outcome_reply (join_checked s t (drop (length s) p))) × (out' ≡ outcome_buffer (join_checked s t (drop (length s) p)) out)
    unfolding join_checked
    apply_made r out' w = rw unspoilt (rw (rest_whole p (length s)) at w)

-- Lemmas for `map_text_carried`; the keys that the code reads are the ends of the map in lent memory.
module _ (mark : Bool) (p : Text) (a a' b b' t t' : ℕ → Text) where
  by_same : (o : Option ℕ) → ((i : ℕ) → o ≡ Some i → (a i ≡ a' i) × (b i ≡ b' i) × (t i ≡ t' i)) → map_fast_by mark a b t p o ≡ map_fast_by mark a' b' t' p o
  unfolding map_fast_by
  by_same None same = refl
  by_same (Some i) same = let e = same i refl in rw (e.0, e.1, e.2)

rest_by_same : (a a' : ℕ → Text) (p : Text) (o : Option ℕ) → ((i : ℕ) → o ≡ Some i → a i ≡ a' i) → rest_by a p o ≡ rest_by a' p o
unfolding rest_by
rest_by_same a a' p None same = refl
rest_by_same a a' p (Some i) same = rw (same i refl)

module _ (store : Text) (places : List ℕ) (n : ℕ) (mark : Bool) (p : Text) where
  abbrev key : Bool → ℕ → Text
  key b = key_at store places b

  abbrev lent : Map
  lent = lent_map store places n mark

  fast_by : (invert : Bool) → map_fast invert lent p ≡ map_fast_by mark (key invert) (key (not invert)) (key true) p (longest_match p (key invert) n)
  unfolding map_fast
  fast_by false =
      ap (map_fast_by mark (map_source lent) (map_target lent) (map_target lent) p) (out_keys store places n mark p)
      ∙ by_same mark p (map_source lent) (key false) (map_target lent) (key true) (map_target lent) (key true) (longest_match p (key false) n)
      (λ i e. let z = ends_by store places n mark p false i e in (z.0, z.1, z.1))
  fast_by true =
      ap (map_fast_by mark (map_target lent) (map_source lent) (map_target lent) p) (home_keys store places n mark p)
      ∙ by_same mark p (map_target lent) (key true) (map_source lent) (key false) (map_target lent) (key true) (longest_match p (key true) n)
      (λ i e. let z = ends_by store places n mark p true i e in (z.1, z.0, z.1))

  rest_by_lem : (invert : Bool) → plain_rest invert lent p ≡ rest_by (key invert) p (longest_match p (key invert) n)
  unfolding plain_rest source_rest target_rest
  rest_by_lem false =
      ap (rest_by (map_source lent) p) (out_keys store places n mark p)
      ∙ rest_by_same (map_source lent) (key false) p (longest_match p (key false) n) (λ i e. (ends_by store places n mark p false i e).0)
  rest_by_lem true =
      ap (rest_by (map_target lent) p) (home_keys store places n mark p)
      ∙ rest_by_same (map_target lent) (key true) p (longest_match p (key true) n) (λ i e. (ends_by store places n mark p true i e).1)

  module _ (invert : Bool) (f : Option ℕ) (h : f ≡ longest_match p (key invert) n) where
    -- With the mark only, the rest is the whole path.
    pub rest_none : f ≡ None → plain_rest invert lent p ≡ Some 0
    unfolding rest_by
    rest_none k = rest_by_lem invert ∙ ap (rest_by (key invert) p) (sym h ∙ k)

    pub map_none : f ≡ None → map_fast invert lent p ≡ keep_path mark p
    unfolding map_fast_by
    map_none k = fast_by invert ∙ ap (map_fast_by mark (key invert) (key (not invert)) (key true) p) (sym h ∙ k)

    module _ (idx : ℕ) (k : f ≡ Some idx) where
      chosen : longest_match p (key invert) n ≡ Some idx
      chosen = sym h ∙ k

      -- With a pair, the rest begins where the prefix test says: a key that is selected is a prefix of the path.
      pub rest_found : (s : Text) (j : ℕ) → s ≡ key invert idx → j ≡ rest_index p s → plain_rest invert lent p ≡ Some j
      unfolding rest_by longest_match
      rest_found s j e i =
          rw (i, e)
          (rest_by_lem invert ∙ ap (rest_by (key invert) p) chosen
          ∙ rest_from p (key invert idx) (served p (key invert idx) (chosen_best (matches p) (key invert) n idx chosen).does_pass))

      pub map_block : (b : Text) → b ≡ key true idx → length b ≡ 0 → map_fast invert lent p ≡ refused NoPath
      unfolding map_fast_by
      map_block b e l =
          fast_by invert ∙ ap (map_fast_by mark (key invert) (key (not invert)) (key true) p) chosen ∙ ap blocked (nil_length (key true idx) (rw e at l))
        where
          blocked : Bool → Outcome
          blocked c = cond c (refused NoPath) (join_checked (key invert idx) (key (not invert) idx) (drop (length (key invert idx)) p))

      pub map_apply : (b s t : Text) → b ≡ key true idx → length b ≢ 0 → s ≡ key invert idx → t ≡ key (not invert) idx
          → map_fast invert lent p ≡ join_checked s t (drop (length s) p)
      unfolding map_fast_by
      map_apply b s t e l es et =
          rw (es, et) (fast_by invert ∙ ap (map_fast_by mark (key invert) (key (not invert)) (key true) p) chosen ∙ ap blocked (nil_not (key true idx) (rw e at l)))
        where
          blocked : Bool → Outcome
          blocked c = cond c (refused NoPath) (join_checked (key invert idx) (key (not invert) idx) (drop (length (key invert idx)) p))

      pub map_inside : (s : Text) → s ≡ key invert idx → length s ≤ length p
      unfolding longest_match
      map_inside s e = rw e (matched_long p (key invert idx) (chosen_best (matches p) (key invert) n idx chosen).does_pass)
