-- Lemmas about the leg store: the maps of the legs are read back from it.
use mathlib.Core.Path.{◌≡◌, refl, sym, ap, ◌∙◌}
use mathlib.Core.Bool.{Bool, true, false, cond}
use mathlib.Core.List.{List, [], ◌∷◌, ◌++◌}
use Prim.Native.Nat.{ℕ, zero, suc, ◌+◌, ◌*◌, ◌≤◌, ◌<◌}
use native.Mathlib.Nat.{zero-add}
use native.Mathlib.Omega.{arith}
use lib.Dec.{eqb}
use lib.ListN.{length, get_or, take, drop}
use lib.Seq.{ext_get_or, length-take-le, take-suc, take-length}
use Rattle.text.specs.Text.{Text}
use Rattle.pair_list.specs.Pair.{Pair, empty_pair, pair_at}
use Rattle.pair_list.specs.Places.{pairs_in, list_text, list_places}
use Rattle.pair_list.proofs.ListLaws.{read_pairs}
use Rattle.pair_list.proofs.PlaceLaws.{pairs_in_length, pairs_in_at}
use Rattle.validate.specs.Validate.{every}
use Rattle.map_spec.specs.Map.{Map}
use Rattle.map_spec.specs.New.{null_map}
use Rattle.route_legs.specs.LentRoute.{LentRoute, lent_route, kind_at, first_at, size_at, list_at, map_at}
use Rattle.route.specs.Fast.{maps_in}
use Rattle.route.proofs.FastLaws.{sound_map}
use Rattle.close_leg.specs.Close.{LegStore, leg_entry}
use Rattle.frames_memory.specs.Represents.{StoredAt, HoldsLeg, HoldsLegs}
use Rattle.frames_memory.proofs.PieceLaws.{stored_first, stored_split, stored_at}

-- A list whose bytes follow others, and whose places come first.
module _ (l : List Pair) (before after : Text) (later : List ℕ) where
  abbrev store : Text
  store = before ++ (list_text l ++ after)

  abbrev places : List ℕ
  places = list_places (length before) l ++ later

  read_after : pairs_in store places (length l) ≡ l
  read_after =
      ext_get_or empty_pair (pairs_in store places (length l)) l (pairs_in_length store places (length l))
      (λ i h. one i (rw (pairs_in_length store places (length l)) at h))
    where
      one : (i : ℕ) → i < length l → pair_at (pairs_in store places (length l)) i ≡ pair_at l i
      one i h = pairs_in_at store places (length l) i h ∙ rw (zero-add i) at (read_pairs l i 0 before after [] later refl h)

-- A list held in the buffers is read back.
pub read_standing : (l : List Pair) (store : Text) (slots : List ℕ) (at k : ℕ) → at ≤ length store → StoredAt store at (list_text l)
    → StoredAt slots k (list_places at l) → pairs_in store (drop k slots) (length l) ≡ l
read_standing l store slots at k h e f =
    let b : length (take at store) ≡ at = length-take-le at store h in
    let after : Text = drop (length (list_text l)) (drop at store) in
    let later : List ℕ = drop (length (list_places at l)) (drop k slots) in
    ap (λ (s : Text). pairs_in s (drop k slots) (length l)) (stored_split store (list_text l) at e)
    ∙ ap (λ (p : List ℕ). pairs_in (take at store ++ (list_text l ++ after)) p (length l)) (stored_first slots (list_places at l) k f)
    ∙ ap (λ (n : ℕ). pairs_in (take at store ++ (list_text l ++ after)) (list_places n l ++ later) (length l)) (sym b)
    ∙ read_after l (take at store) after later

abbrev pub maps_of : LegStore → LentRoute
maps_of v = lent_route v.store v.slots v.table v.legs.count

marked : (b : Bool) → eqb (cond b 1 0) 1 ≡ b
marked true = refl
marked false = refl

module _ (v : LegStore) (k : ℕ) (x : Map) (h : HoldsLeg v k x) (room : v.legs.bytes ≤ length v.store) where
  kind_is : kind_at v.table k ≡ cond x.mark 1 0
  kind_is =
      let z : 3 * k + 0 ≡ 3 * k = omega arith in
      ap (λ (n : ℕ). get_or v.table n 0) (sym z) ∙ stored_at v.table (leg_entry k x) (3 * k) h.numbers 0 (omega arith)

  pub first_is : first_at v.table k ≡ 64 * k
  first_is = stored_at v.table (leg_entry k x) (3 * k) h.numbers 1 (omega arith)

  pub size_is : size_at v.table k ≡ length x.pairs
  size_is = stored_at v.table (leg_entry k x) (3 * k) h.numbers 2 (omega arith)

  map_read : map_at (maps_of v) k ≡ x
  unfolding map_at list_at
  map_read =
      let z : 4 * (64 * k) ≡ 256 * k = omega arith in
      rw (kind_is, first_is, size_is, z, marked x.mark, read_standing x.pairs v.store v.slots h.at (256 * k) (omega (arith, h.inside)) h.text h.places)
      refl

  sound_leg : sound_map x ≡ true
  sound_leg = rw (h.ends, h.short)

every_each : {A : Type 0} (good : A → Bool) (d : A) (xs : List A) → ((k : ℕ) → k < length xs → good (get_or xs k d) ≡ true) → every good xs ≡ true
unfolding every
every_each good d [] f = refl
every_each good d (x ∷ xs) f = rw (f 0 (omega arith)) (every_each good d xs (λ k l. f (suc k) (omega arith)))

module _ (xs : List Map) (v : LegStore) (h : HoldsLegs xs v) (room : v.legs.bytes ≤ length v.store) where
  first_maps : (n : ℕ) → n ≤ length xs → maps_in (maps_of v) n ≡ take n xs
  unfolding maps_in
  first_maps zero l = refl
  first_maps (suc n) l =
      rw (take-suc xs n null_map (omega arith), first_maps n (omega arith), map_read v n (get_or xs n null_map) (h.each n (omega arith)) room) refl

  pub maps_read : maps_in (maps_of v) v.legs.count ≡ xs
  maps_read = ap (λ (n : ℕ). maps_in (maps_of v) n) h.count ∙ first_maps (length xs) (omega arith) ∙ take-length xs

  pub maps_sound : every sound_map xs ≡ true
  maps_sound = every_each sound_map null_map xs (λ k l. sound_leg v k (get_or xs k null_map) (h.each k l) room)
