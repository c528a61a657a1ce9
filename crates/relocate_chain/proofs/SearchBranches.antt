-- Lemmas about the branches of the search for the longest source.
use Rattle.std.specs.Prelude.{Option, Some, None}
use Rattle.std.specs.Option.{is_some}
use mathlib.Core.Path.{◌≡◌, refl, sym, ap, ◌∙◌}
use mathlib.Core.Logic.{◌≢◌}
use mathlib.Core.Bool.{Bool, true, false, not, cond}
use mathlib.Core.List.{List}
use Prim.Native.Nat.{ℕ, ◌+◌, ◌-◌, ◌≤◌, ◌<◌}
use lib.ListN.{length, take, drop}
use Rattle.text.specs.Text.{Text, equal}
use Rattle.text.proofs.BoolLaws.{told, known_false, known_true, not_true, not_false}
use Rattle.text.proofs.WriteLaws.{rest_whole}
use Rattle.path_prefix.specs.Prefix.{has_prefix}
use Rattle.path_join.specs.Join.{join, replace_prefix}
use Rattle.path_prefix.proofs.PrefixLaws.{prefix_long}
use Rattle.path_join.proofs.ReplaceLaws.{replace_prefix_lem, replace_other}
use Rattle.pair_list.specs.Pair.{Pair, pair, pair_at, source_at}
use Rattle.pair_list.specs.Places.{pairs_in, key_at}
use Rattle.pair_list.specs.BestStep.{consider_index, best_below}
use Rattle.pair_list.proofs.BestLaws.{search_on}
use Rattle.pair_list.proofs.PlaceLaws.{pairs_in_at, pair_is}
use Rattle.relocate_chain.specs.Chain.{is_skipped, if_altered, replacement}
use Rattle.text.proofs.TextLaws.{nil_length, nil_not}

-- `replaces`
module _ (alters : Bool) (p s t : Text) (x : Bool) (hx : x ≡ has_prefix p s) where
  pub replaces_not : not x ≡ true → false ≡ is_some (cond alters (if_altered p (replace_prefix p s t)) (replace_prefix p s t))
  unfolding if_altered
  replaces_not l = rw (replace_other p s t (known_false hx l)) (go alters)
    where
      go : (b : Bool) → false ≡ is_some {T = Text} (cond b None None)
      go true = refl
      go false = refl

  pub replaces_any : not x ≡ false → not alters ≡ true → true ≡ is_some (cond alters (if_altered p (replace_prefix p s t)) (replace_prefix p s t))
  replaces_any l a = rw (not_true alters a, replace_prefix_lem p s t (known_true hx l))

  pub replaces_long : not x ≡ false → length s ≤ length p
  replaces_long l = prefix_long p s (known_true hx l)

  pub replaces_other : not x ≡ false → not alters ≡ false → (y : Bool) → y ≡ equal (join s t (take (length p - length s) (drop (length s) p))) p
      → not y ≡ is_some (cond alters (if_altered p (replace_prefix p s t)) (replace_prefix p s t))
  unfolding if_altered
  replaces_other l a y e =
      rw (not_false alters a, replace_prefix_lem p s t (known_true hx l), ← (rest_whole p (length s)), ← e) (go y)
    where
      go : (y : Bool) → not y ≡ is_some (cond y None (Some (join s t (take (length p - length s) (drop (length s) p)))))
      go true = refl
      go false = refl

-- `is_candidate`
module _ (alters : Bool) (skip : Option Text) (p s t : Text) where
  pub tries_deleted : length t ≡ 0 → false ≡ is_some (replacement alters skip p (pair s t))
  unfolding replacement
  tries_deleted h = rw (nil_length t h)

  module _ (h : length t ≢ 0) (x : Bool) (hx : x ≡ is_skipped skip s) where
    pub tries_skipped : x ≡ true → false ≡ is_some (replacement alters skip p (pair s t))
    unfolding replacement
    tries_skipped l = rw (nil_not t h, told hx l)

    pub tries_replaced : x ≡ false → (r : Bool) → r ≡ is_some (cond alters (if_altered p (replace_prefix p s t)) (replace_prefix p s t))
        → r ≡ is_some (replacement alters skip p (pair s t))
    unfolding replacement
    tries_replaced l r e = rw (nil_not t h, told hx l) e

-- `longest_source`: of the first n pairs that yield a path, the one with the longest source, and its number of bytes.
unfoldable pub source_below : (Pair → Option Text) → List Pair → ℕ → Option (ℕ × ℕ)
source_below t l n = best_below (λ (i : ℕ). is_some (t (pair_at l i))) (λ (i : ℕ). length (source_at l i)) n

pub source_on : (t : Pair → Option Text) (store : Text) (places : List ℕ) (n i : ℕ) (a a' : Option (ℕ × ℕ)) (b : Bool) (s u : Text)
    → a ≡ source_below t (pairs_in store places n) i → i < n → s ≡ key_at store places false i → u ≡ key_at store places true i
    → b ≡ is_some (t (pair s u)) → a' ≡ consider_index a b i (length s) → a' ≡ source_below t (pairs_in store places n) (i + 1)
unfolding source_below
source_on t store places n i a a' b s u h m hs hu e c =
    let x : pair s u ≡ pair_at (pairs_in store places n) i = pair_is store places i s u hs hu ∙ sym (pairs_in_at store places n i m) in
    search_on _ _ i a a' b (length s) h (e ∙ ap (λ (y : Pair). is_some (t y)) x) (ap (λ (y : Pair). length y.source) x) c

pub ruleset searching = (replaces_not, replaces_any, replaces_long, replaces_other, tries_deleted, tries_skipped, tries_replaced)
