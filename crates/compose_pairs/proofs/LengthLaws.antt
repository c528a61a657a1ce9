-- Lemmas about the length of a composed end: at most two ends and a slash.
use Rattle.std.specs.Prelude.{Option, Some, None}
use Rattle.std.specs.Option.{unwrap_or}
use mathlib.Core.Path.{◌≡◌, refl}
use mathlib.Core.Bool.{Bool, true, false, cond, ◌&&◌}
use mathlib.Core.List.{List, [], ◌∷◌, ◌++◌}
use Prim.Native.Nat.{ℕ, ◌+◌, ◌*◌, ◌≤◌, ◌<◌}
use native.Mathlib.Omega.{arith}
use lib.ListN.{length}
use borrow.Author.Tests.{leb-true, le-leb}
use Rattle.text.specs.Text.{Text, is_nil, strip_prefix}
use Rattle.text.proofs.BoolLaws.{and_l, and_r}
use Rattle.text.proofs.TextLaws.{after_up}
use Rattle.path_grammar.specs.Legal.{at_most255}
use Rattle.path_prefix.specs.Prefix.{can_follow}
use Rattle.path_join.specs.Join.{join, replace_prefix}
use Rattle.pair_list.specs.Pair.{Pair, every_end, all_short}
use Rattle.pair_list.specs.Places.{key_at, pairs_in, end_bytes}
use Rattle.map_spec.specs.Compose.{composed_pairs}
use Rattle.map_spec.specs.Map.{Map, map_source, map_target, map_by, match_source, match_target, map_source_to_target, map_target_to_source}
use Rattle.pair_buffer.specs.Ends.{at_most}
use Rattle.pair_buffer.proofs.LengthLaws.{within_ends, within_keys, join_within}
use Rattle.compose_pairs.specs.ComposePairs.{map_plainly, image_length, composed_target, at_most511}
use Rattle.compose_pairs.proofs.EveryLaws.{composed_every}

pub bounded_keys : (store : Text) (places : List ℕ) (n i : ℕ) → every_end at_most511 (pairs_in store places n) ≡ true → i < n
    → (length (key_at store places false i) ≤ 511) × (length (key_at store places true i) ≤ 511)
bounded_keys store places n i e h = within_keys 511 store places n i e h

replace_length : (p s t : Text) → image_length (replace_prefix p s t) ≤ length t + 1 + length p
unfolding replace_prefix
replace_length p s t = go (strip_prefix s p) refl
  where
    some_is : (r : Text) (b : Bool) → p ≡ s ++ r → image_length (cond b (Some (join s t r)) None) ≤ length t + 1 + length p
    some_is r true e = join_within p s t r e
    some_is r false e = omega arith

    go : (o : Option Text) → strip_prefix s p ≡ o → image_length (replace_prefix p s t) ≤ length t + 1 + length p
    go None e = rw e (omega arith)
    go (Some r) e = rw e (some_is r (can_follow s r) (after_up s p r e))

by_length : (k : ℕ) (m : Map) (a b : ℕ → Text) (p : Text) (o : Option ℕ) → ((i : ℕ) → length (b i) ≤ k) → length p ≤ k → image_length (map_by m a b p o) ≤ 2 * k + 1
by_length k m a b p None h l = go m.mark
  where
    go : (c : Bool) → image_length (cond c (Some p) None) ≤ 2 * k + 1
    go true = omega arith
    go false = omega arith
by_length k m a b p (Some i) h l = go (is_nil (map_target m i))
  where
    go : (c : Bool) → image_length (cond c None (replace_prefix p (a i) (b i))) ≤ 2 * k + 1
    go true = omega arith
    go false = omega (arith, replace_length p (a i) (b i), h i)

pub plain_within : (k : ℕ) (invert : Bool) (m : Map) (p : Text) → every_end (at_most k) m.pairs ≡ true → length p ≤ k → image_length (map_plainly invert m p) ≤ 2 * k + 1
unfolding map_plainly map_source_to_target map_target_to_source
plain_within k false m p e l = by_length k m (map_source m) (map_target m) p (match_source m p) (λ i. (within_ends k m.pairs e i).1) l
plain_within k true m p e l = by_length k m (map_target m) (map_source m) p (match_target m p) (λ i. (within_ends k m.pairs e i).0) l

pub plain_length : (invert : Bool) (m : Map) (p : Text) → every_end at_most511 m.pairs ≡ true → length p ≤ 511 → image_length (map_plainly invert m p) ≤ 1023
plain_length invert m p e l = plain_within 511 invert m p e l

pub composed_length : (m : Map) (t : Text) → every_end at_most511 m.pairs ≡ true → length t ≤ 511 → length (composed_target m t) ≤ 1023
unfolding composed_target map_plainly
composed_length m t e l = go (is_nil t)
  where
    some_is : (o : Option Text) → image_length o ≤ 1023 → length (unwrap_or o []) ≤ 1023
    some_is None h = omega arith
    some_is (Some q) h = h

    go : (c : Bool) → length (cond c [] (unwrap_or (map_source_to_target m t) [])) ≤ 1023
    go true = omega arith
    go false = some_is (map_source_to_target m t) (plain_length false m t e l)

-- An end of at most 255 bytes has at most 511 bytes.
pub fits_bounded : (t : Text) → at_most255 t ≡ true → at_most511 t ≡ true
unfolding at_most255
fits_bounded t e = le-leb (length t) 511 (omega (arith, leb-true (length t) 255 e))

pub short_bounded : (l : List Pair) → all_short l ≡ true → every_end at_most511 l ≡ true
unfolding all_short every_end
short_bounded [] e = refl
short_bounded (x ∷ l) e =
    let a : (at_most255 x.source && at_most255 x.target) ≡ true = and_l (at_most255 x.source && at_most255 x.target) (all_short l) e in
    rw (fits_bounded x.source (and_l (at_most255 x.source) (at_most255 x.target) a), fits_bounded x.target (and_r (at_most255 x.source) (at_most255 x.target) a))
    (short_bounded l (and_r (at_most255 x.source && at_most255 x.target) (all_short l) e))

-- The ends of a list composed of ends of at most 255 bytes have at most 511 bytes.
short_needed : (q : Text) (o : Option Text) → o ≡ Some q → image_length o ≤ 511 → at_most511 q ≡ true
short_needed q o e h = le-leb (length q) 511 (rw e at h)

pub composed_bounded : (outer inner : Map) → all_short outer.pairs ≡ true → all_short inner.pairs ≡ true → every_end at_most511 (composed_pairs outer inner) ≡ true
unfolding all_short at_most255 map_plainly
composed_bounded outer inner eo ei =
    composed_every at_most255 at_most511 fits_bounded refl outer inner
    (λ t q h e. short_needed q (map_source_to_target outer t) e (plain_within 255 false outer t eo (leb-true (length t) 255 h)))
    (λ s q h e. short_needed q (map_target_to_source inner s) e (plain_within 255 true inner s ei (leb-true (length s) 255 h))) eo ei

-- The total length of a list whose ends have at most 511 bytes.
pub bounded_bytes : (l : List Pair) → every_end at_most511 l ≡ true → end_bytes l ≤ 1022 * length l
unfolding every_end end_bytes
bounded_bytes [] e = omega arith
bounded_bytes (x ∷ l) e =
    let a : (at_most511 x.source && at_most511 x.target) ≡ true = and_l (at_most511 x.source && at_most511 x.target) (every_end at_most511 l) e in
    omega (
      arith,
      leb-true (length x.source) 511 (and_l (at_most511 x.source) (at_most511 x.target) a),
      leb-true (length x.target) 511 (and_r (at_most511 x.source) (at_most511 x.target) a),
      bounded_bytes l (and_r (at_most511 x.source && at_most511 x.target) (every_end at_most511 l) e),
    )
