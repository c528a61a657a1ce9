-- Lemmas about one iteration and the end of `compose_all` and `pull_back_all`.
use Rattle.std.specs.Prelude.{Option, Some, None}
use mathlib.Core.Path.{◌≡◌, refl, sym, ap, ◌∙◌}
use mathlib.Core.Bool.{Bool, true, false, cond}
use mathlib.Core.List.{List, [], ◌∷◌, ◌++◌, map}
use Prim.Native.Nat.{ℕ, ◌+◌, ◌*◌, ◌≤◌, ◌<◌}
use native.Mathlib.Omega.{arith}
use native.Mathlib.Numerals.{add-one}
use lib.ListN.{length, length-append}
use Rattle.text.specs.Text.{Text}
use Rattle.pair_list.specs.Pair.{Pair, pair, every_end}
use Rattle.pair_list.specs.Places.{key_at, pair_in, pairs_in, end_bytes}
use Rattle.pair_list_write.specs.Packed.{PackedList, AppendedPair}
use Rattle.pair_list_write.proofs.RoomBranches.{end_snoc}
use Rattle.pair_list_write.proofs.PackedLaws.{holds_none, packed_list, packed_more}
use Rattle.map_spec.specs.Map.{Map, map_target_to_source}
use Rattle.map_spec.specs.Compose.{composed_pair, has_source, add_if_new_source, pulled_back, composed_pairs}
use Rattle.pair_buffer.proofs.PairBufferLaws.{map_snoc}
use Rattle.compose_pairs.specs.ComposePairs.{map_plainly, image_length, composed_target, at_most511}
use Rattle.compose_pairs.proofs.LengthLaws.{bounded_keys, plain_length, composed_length}
use Rattle.compose_pairs.proofs.PackLaws.{Longer, packed_on}

-- Pair i in lent memory, by its keys.
pair_keys : (store : Text) (places : List ℕ) (i : ℕ) → pair_in store places i ≡ record { source = key_at store places false i; target = key_at store places true i }
unfolding pair_in
pair_keys store places i = let z : 2 * i + 0 ≡ 2 * i = omega arith in rw z refl

-- `compose_all`: m is the outer map.
module _ (m : Map) (em : every_end at_most511 m.pairs ≡ true) (store : Text) (places : List ℕ) (n : ℕ) (el : every_end at_most511 (pairs_in store places n) ≡ true)
    (i at : ℕ) (h : i < n) (l : at ≤ 1534 * i) (s t : Text) (es : s ≡ key_at store places false i) (et : t ≡ key_at store places true i) where
  grows : length s + length (composed_target m t) ≤ 1534
  grows =
      let z = bounded_keys store places n i el h in
      omega (arith, z.0, ap length es, composed_length m t em (omega (arith, z.1, ap length et)))

  pub compose_room : (room : ℕ) → 1534 * n ≤ room → at + (length s + length (composed_target m t)) ≤ room
  compose_room room r = omega (arith, grows)

  pub compose_bound : (end : ℕ) → end ≡ at + (length s + length (composed_target m t)) → end ≤ 1534 * (i + 1)
  compose_bound end e = omega (arith, grows)

  composed_is : composed_pair m (pair_in store places i) ≡ pair s (composed_target m t)
  unfolding composed_target
  composed_is = ap (λ (x : Pair). composed_pair m x) (pair_keys store places i) ∙ rw (← es, ← et) refl

  pub compose_next : (o : Text) (p : List ℕ) (bytes bytes' : Text) (slots slots' : List ℕ) (end : ℕ) → PackedList (map (composed_pair m) (pairs_in store places i)) i at o p bytes slots
      → AppendedPair (pair s (composed_target m t)) i at bytes slots end bytes' slots'
      → PackedList (map (composed_pair m) (pairs_in store places (i + 1))) (i + 1) end o p bytes' slots'
  unfolding pairs_in
  compose_next o p bytes bytes' slots slots' end c a =
      let l : List Pair = map (composed_pair m) (pairs_in store places i) in
      let z : map (composed_pair m) (pairs_in store places i ++ pair_in store places i ∷ []) ≡ l ++ pair s (composed_target m t) ∷ []
      = map_snoc (composed_pair m) (pairs_in store places i) (pair_in store places i) ∙ ap (λ (x : Pair). l ++ x ∷ []) composed_is in
      rw (add-one i, z) (rw (add-one i) at (packed_more l i at o p bytes slots c (pair s (composed_target m t)) end bytes' slots' a))

pub compose_begin : (m : Map) (store : Text) (places : List ℕ) (bytes : Text) (slots : List ℕ) → PackedList (map (composed_pair m) (pairs_in store places 0)) 0 0 bytes slots bytes slots
unfolding pairs_in
compose_begin m store places bytes slots = holds_none bytes slots

pub compose_end : (m : Map) (store : Text) (places : List ℕ) (n i at : ℕ) (o : Text) (p : List ℕ) (bytes : Text) (slots : List ℕ) → n ≤ i → i ≤ n
    → PackedList (map (composed_pair m) (pairs_in store places i)) i at o p bytes slots → at ≤ 1534 * i
    → PackedList (map (composed_pair m) (pairs_in store places n)) n at o p bytes slots × (at ≤ 1534 * n)
compose_end m store places n i at o p bytes slots l k c h = let z : n ≡ i = omega arith in (rw z c, omega arith)

-- One more outer pair.
pulled_snoc : (m : Map) (l xs : List Pair) (x : Pair) → pulled_back m l (xs ++ x ∷ []) ≡ add_if_new_source (pulled_back m l xs) x.target (map_target_to_source m x.source)
unfolding pulled_back
pulled_snoc m l [] x = refl
pulled_snoc m l (y ∷ xs) x = pulled_snoc m (add_if_new_source l y.target (map_target_to_source m y.source)) xs x

added_length : (l : List Pair) (t : Text) (o : Option Text) → length (add_if_new_source l t o) ≤ length l + 1
unfolding add_if_new_source
added_length l t None = omega arith
added_length l t (Some s) = go (has_source l s)
  where
    go : (b : Bool) → length (cond b l (l ++ record { source = s; target = t } ∷ [])) ≤ length l + 1
    go true = omega arith
    go false = omega (arith, length-append l (record { source = s; target = t } ∷ []))

added_bytes : (l : List Pair) (t : Text) (o : Option Text) → end_bytes (add_if_new_source l t o) ≤ end_bytes l + (image_length o + length t)
unfolding add_if_new_source
added_bytes l t None = omega arith
added_bytes l t (Some s) = go (has_source l s)
  where
    go : (b : Bool) → end_bytes (cond b l (l ++ record { source = s; target = t } ∷ [])) ≤ end_bytes l + (length s + length t)
    go true = omega arith
    go false = omega (arith, end_snoc l (record { source = s; target = t }))

added_longer : (l : List Pair) (t : Text) (o : Option Text) → Longer l (add_if_new_source l t o)
unfolding add_if_new_source
added_longer l t None = (omega arith, omega arith)
added_longer l t (Some s) = go (has_source l s)
  where
    go : (b : Bool) → Longer l (cond b l (l ++ record { source = s; target = t } ∷ []))
    go true = (omega arith, omega arith)
    go false = (omega (arith, length-append l (record { source = s; target = t } ∷ [])), omega (arith, end_snoc l (record { source = s; target = t })))

pulled_longer : (m : Map) (l xs : List Pair) → Longer l (pulled_back m l xs)
unfolding pulled_back
pulled_longer m l [] = (omega arith, omega arith)
pulled_longer m l (x ∷ xs) =
    let h = added_longer l x.target (map_target_to_source m x.source) in
    let k = pulled_longer m (add_if_new_source l x.target (map_target_to_source m x.source)) xs in
    (omega (arith, h.0, k.0), omega (arith, h.1, k.1))

-- `pull_back_all`: m is the inner map, `base` the first half of the list.
module _ (m : Map) (em : every_end at_most511 m.pairs ≡ true) (base : List Pair) (store : Text) (places : List ℕ) (n : ℕ)
    (el : every_end at_most511 (pairs_in store places n) ≡ true) (inner i : ℕ) (h : i < n) (k at : ℕ) (kn : k ≤ inner + i) (ka : at ≤ 1534 * (inner + i))
    (s t : Text) (es : s ≡ key_at store places false i) (et : t ≡ key_at store places true i) where
  pulls : image_length (map_plainly true m s) + length t ≤ 1534
  pulls =
      let z = bounded_keys store places n i el h in
      omega (arith, z.1, ap length et, plain_length true m s em (omega (arith, z.0, ap length es)))

  pub pull_room : (room : ℕ) → 1534 * (inner + n) ≤ room → at + (image_length (map_plainly true m s) + length t) ≤ room
  pull_room room r = omega (arith, pulls)

  pub pull_slot : (room : ℕ) → 4 * (inner + n) ≤ room → 4 * k + 4 ≤ room
  pull_slot room r = omega arith

  module _ (o : Text) (p : List ℕ) (bytes : Text) (slots : List ℕ) (c : PackedList (pulled_back m base (pairs_in store places i)) k at o p bytes slots) (k' at' : ℕ)
      (bytes' : Text) (slots' : List ℕ) (d : PackedList (add_if_new_source (pairs_in bytes slots k) t (map_plainly true m s)) k' at' bytes slots bytes' slots') where
    same : pairs_in bytes slots k ≡ pulled_back m base (pairs_in store places i)
    same = packed_list (pulled_back m base (pairs_in store places i)) k at o p bytes slots c

    added_is : add_if_new_source (pairs_in bytes slots k) t (map_plainly true m s) ≡ pulled_back m base (pairs_in store places (i + 1))
    unfolding pairs_in map_plainly
    added_is =
        ap (λ (l : List Pair). add_if_new_source l t (map_target_to_source m s)) same
        ∙ sym (rw (add-one i)
        (pulled_snoc m base (pairs_in store places i) (pair_in store places i)
        ∙ ap (λ (x : Pair). add_if_new_source (pulled_back m base (pairs_in store places i)) x.target (map_target_to_source m x.source)) (pair_keys store places i)
        ∙ rw (← es, ← et) refl))

    longer : Longer (pulled_back m base (pairs_in store places i)) (add_if_new_source (pairs_in bytes slots k) t (map_plainly true m s))
    longer = rw same (added_longer (pulled_back m base (pairs_in store places i)) t (map_plainly true m s))

    pub pull_next : PackedList (pulled_back m base (pairs_in store places (i + 1))) k' at' o p bytes' slots'
    pull_next =
        rw added_is at (packed_on (pulled_back m base (pairs_in store places i)) k at o p bytes slots c (add_if_new_source (pairs_in bytes slots k) t (map_plainly true m s)) k' at' bytes' slots' d longer)

    pub pull_number : k' ≤ inner + (i + 1)
    pull_number = omega (arith, d.number, added_length (pairs_in bytes slots k) t (map_plainly true m s), ap length same, c.number)

    pub pull_bound : at' ≤ 1534 * (inner + (i + 1))
    pull_bound = omega (arith, d.end, added_bytes (pairs_in bytes slots k) t (map_plainly true m s), ap end_bytes same, c.end, pulls)

module _ (m : Map) (base : List Pair) (store : Text) (places : List ℕ) (n at : ℕ) (o : Text) (p : List ℕ) (bytes : Text) (slots : List ℕ) where
  pub pull_begin : PackedList base n at o p bytes slots → PackedList (pulled_back m base (pairs_in store places 0)) n at o p bytes slots
  unfolding pairs_in pulled_back
  pull_begin c = c

  pub pull_end : (j i : ℕ) → j ≤ i → i ≤ j → PackedList (pulled_back m base (pairs_in store places i)) n at o p bytes slots → PackedList (pulled_back m base (pairs_in store places j)) n at o p bytes slots
  pull_end j i l u c = let z : j ≡ i = omega arith in rw z c

-- Both halves of the composed list.
pub composed : (outer inner : Map) (n at : ℕ) (o : Text) (p : List ℕ) (bytes : Text) (slots : List ℕ) (k end : ℕ) (bytes' : Text) (slots' : List ℕ)
    → PackedList (map (composed_pair outer) inner.pairs) n at o p bytes slots → PackedList (pulled_back inner (pairs_in bytes slots n) outer.pairs) k end bytes slots bytes' slots'
    → PackedList (composed_pairs outer inner) k end o p bytes' slots'
unfolding composed_pairs
composed outer inner n at o p bytes slots k end bytes' slots' c d =
    let l : List Pair = map (composed_pair outer) inner.pairs in
    let z : pairs_in bytes slots n ≡ l = packed_list l n at o p bytes slots c in
    packed_on l n at o p bytes slots c (pulled_back inner l outer.pairs) k end bytes' slots' (rw z at d) (pulled_longer inner l outer.pairs)
