-- Lemmas about the prepared maps: they are read back as the maps of the legs.
use mathlib.Core.Path.{◌≡◌, refl, sym, ap, ◌∙◌}
use mathlib.Core.Bool.{Bool, true, false, cond, ◌&&◌, false≢true}
use mathlib.Core.List.{List, [], ◌∷◌, map-append}
use Prim.Native.Nat.{ℕ, zero, suc, ◌+◌, ◌*◌, ◌/◌, ◌≤◌, ◌<◌}
use native.Mathlib.Omega.{arith}
use native.Mathlib.Decide.{ℕ_discrete}
use lib.Dec.{eqb, leb}
use lib.ListN.{length, get_or, take, drop, replicate, length-append, length-drop, length-replicate}
use lib.Seq.{length-take-le, get_or-drop}
use borrow.Author.Tests.{eqb-true, eq-eqb, ne_eqb, le-leb, leb-true, leb-false}
use Rattle.text.specs.Text.{Text, written_at}
use Rattle.text.proofs.BoolLaws.{and_l, and_r}
use Rattle.pair_list.specs.Pair.{Pair}
use Rattle.pair_list.specs.Places.{pair_in, pairs_in}
use Rattle.pair_list.proofs.PlaceLaws.{pairs_in_length}
use Rattle.pair_list_write.specs.Select.{indices_where, written_entries, selected_pairs}
use Rattle.pair_list_write.proofs.CopyLaws.{list_same, over_below, over_inside}
use Rattle.pair_list_write.proofs.SelectLaws.{selected_read, selected_length}
use Rattle.validate.specs.Validate.{LentList, lent_list, pairs_of, count_within_limit}
use Rattle.validate.specs.Select.{can_select, pairs_if_selectable}
use Rattle.validate.proofs.SelectLaws.{sound_select}
use Rattle.map_spec.specs.Map.{Map}
use Rattle.map_spec.specs.New.{without_root_pairs, canonicalize, from_parts}
use Rattle.map_canonical.specs.Canonical.{canonical_selection}
use Rattle.map_canonical.proofs.KeptLaws.{canonical_read}
use Rattle.relocates.specs.Status.{active_pairs, relocate_map}
use Rattle.relocates.specs.Select.{active_selection}
use Rattle.relocates.proofs.ActiveLaws.{active_read}
use Rattle.route_spec.specs.Leg.{leg_map}
use Rattle.route_spec.proofs.RelocateLaws.{active_few, relocate_parts, relocate_few}
use Rattle.route_legs.specs.LentRoute.{LentRoute, lent_route, kind_at, first_at, size_at, list_at, leg_of, leg_at, map_at}
use Rattle.route_legs.proofs.RouteLaws.{route_few, route_sound}
use Rattle.route_maps.specs.Prepared.{Prepared, PreparedIfPassed}
use Rattle.route_maps.specs.Prepare.{active_list, leg_source_list, leg_selection, leg_block, map_kind, prepared_entry, prepared_places, prepared_table, can_prepare, places_after_prepare, table_after_prepare}
use Rattle.route_maps.proofs.PreparedLaws.{plain_leg}
use Rattle.text.proofs.WriteLaws.{over_length}

-- The map that is prepared for leg k: without pairs if question 4 refuses its list.
unfoldable pub laid_map : LentRoute → ℕ → Map
unfolding pairs_if_selectable list_at leg_at leg_map
laid_map r k = record { pairs = pairs_if_selectable (list_at r k) 256 (leg_map (leg_at r k)).pairs; mark = (leg_map (leg_at r k)).mark }

-- The maps of the first n legs are prepared, each in its block.
unfoldable pub LaidTo : LentRoute → LentRoute → ℕ → Type 0
unfolding map_at laid_map
LaidTo r s n = (k : ℕ) → k < n → (first_at s.legs k ≡ 64 * k) × (size_at s.legs k ≤ 64) × (map_at s k ≡ laid_map r k)

-- The pairs made from a lent list: none from no pairs, and never more than 64.
made_nothing : (l : LentList) (room : ℕ) → pairs_if_selectable l room [] ≡ []
unfolding pairs_if_selectable
made_nothing l room = go (can_select l room)
  where
    go : (b : Bool) → cond {A = List Pair} b [] [] ≡ []
    go true = refl
    go false = refl

made_short : (l : LentList) (room : ℕ) (x : List Pair) → length x ≤ l.count → length (pairs_if_selectable l room x) ≤ 64
unfolding pairs_if_selectable can_select count_within_limit
made_short l room x h = go (can_select l room) refl
  where
    go : (b : Bool) → can_select l room ≡ b → length (cond b x []) ≤ 64
    go true e =
        let z : l.count ≤ 64 = leb-true l.count 64 (and_l (leb l.count 64) (leb l.count (length l.places / 4)) (and_l (count_within_limit l) (leb 256 room) e)) in
        omega arith
    go false e = omega arith

-- A relocate list's map.
module _ (store : Text) (places : List ℕ) (n : ℕ) where
  abbrev list : List Pair
  list = pairs_in store places n

  abbrev lent : LentList
  lent = lent_list store places n

  relocate_pairs : canonicalize true (without_root_pairs (active_pairs list n)) ≡ (relocate_map list).pairs
  unfolding from_parts
  relocate_pairs = rw (relocate_parts list, pairs_in_length store places n) refl

  module _ (act : List ℕ) (w : ℕ) (e : pairs_in store act w ≡ pairs_if_selectable lent 256 (active_pairs list n)) where
    few : w ≤ 64
    few = omega (arith, pairs_in_length store act w, ap length e, made_short lent 256 (active_pairs list n) (active_few list n))

    module _ (l : length act ≡ 256) where
      counts : count_within_limit (lent_list store act w) ≡ true
      unfolding count_within_limit
      counts = rw (le-leb w 64 few, l) (le-leb w 64 few)

      of_both : (room : ℕ) → pairs_if_selectable (lent_list store act w) room (canonicalize true (without_root_pairs (pairs_in store act w))) ≡ pairs_if_selectable lent room (relocate_map list).pairs
      unfolding pairs_if_selectable can_select canonicalize without_root_pairs
      of_both room = go (count_within_limit lent) refl
        where
          go : (b : Bool) → count_within_limit lent ≡ b → pairs_if_selectable (lent_list store act w) room (canonicalize true (without_root_pairs (pairs_in store act w))) ≡ pairs_if_selectable lent room (relocate_map list).pairs
          go true k = rw (counts, e, k, relocate_pairs) refl
          go false k = rw (e, k) (made_nothing (lent_list store act w) room)

  relocates_read : (room : ℕ) (block : List ℕ)
      → pairs_in store (written_entries (active_list lent).places (canonical_selection (active_list lent) true room) block) (length (canonical_selection (active_list lent) true room)) ≡ pairs_if_selectable lent room (relocate_map list).pairs
  unfolding active_list
  relocates_read room block =
      let zeros : List ℕ = replicate 256 0 in
      let act : List ℕ = written_entries places (active_selection lent 256) zeros in
      let w : ℕ = length (active_selection lent 256) in
      let e : pairs_in store act w ≡ pairs_if_selectable lent 256 (active_pairs list n) = active_read store places n 256 zeros act w (refl, refl) in
      let z : length zeros ≡ 256 = length-replicate {A = ℕ} 256 0 in
      let l : length act ≡ 256 = selected_length places (active_selection lent 256) zeros (omega (arith, few act w e, z)) ∙ z in
      let picks : List ℕ = canonical_selection (lent_list store act w) true room in
      canonical_read store act true w room block (written_entries act picks block) (length picks) (refl, refl) ∙ of_both act w e l room

-- A leg's map.
relocate_leg : (kind : ℕ) (l : List Pair) → 2 ≤ kind → leg_map (leg_of kind l) ≡ relocate_map l
unfolding leg_map leg_of
relocate_leg zero l h = absurd (omega arith)
relocate_leg (suc zero) l h = absurd (omega arith)
relocate_leg (suc (suc k)) l h = refl

-- All of the first n pairs.
pub all_length : (n : ℕ) → length (indices_where (λ (i : ℕ). true) n) ≡ n
unfolding indices_where
all_length zero = refl
all_length (suc n) = length-append (indices_where (λ (i : ℕ). true) n) (n ∷ []) ∙ omega (arith, all_length n)

all_read : (store : Text) (places : List ℕ) (n : ℕ) → selected_pairs store places (indices_where (λ (i : ℕ). true) n) ≡ pairs_in store places n
unfolding indices_where pairs_in
all_read store places zero = refl
all_read store places (suc n) = map-append (pair_in store places) (indices_where (λ (i : ℕ). true) n) (n ∷ []) ∙ rw (all_read store places n) refl

module _ (kind : ℕ) (l : LentList) where
  abbrev leg : Map
  leg = leg_map (leg_of kind (pairs_of l))

  leg_read : (block : List ℕ) → pairs_in l.store (leg_block kind l block) (length (leg_selection kind l (length block))) ≡ pairs_if_selectable l (length block) leg.pairs
  unfolding leg_block leg_selection leg_source_list pairs_if_selectable
  leg_read block = go (leb 2 kind) refl
    where
      go : (b : Bool) → leb 2 kind ≡ b
          → pairs_in l.store (written_entries (cond b (active_list l) l).places (cond b (canonical_selection (active_list l) true (length block)) (cond (can_select l (length block)) (indices_where (λ (i : ℕ). true) l.count) [])) block) (length (cond b (canonical_selection (active_list l) true (length block)) (cond (can_select l (length block)) (indices_where (λ (i : ℕ). true) l.count) [])))
          ≡ pairs_if_selectable l (length block) leg.pairs
      go true e = relocates_read l.store l.places l.count (length block) block ∙ rw (relocate_leg kind (pairs_of l) (leb-true 2 kind e)) refl
      go false e =
          let picks : List ℕ = cond (can_select l (length block)) (indices_where (λ (i : ℕ). true) l.count) [] in
          selected_read l.places l.store picks block (written_entries l.places picks block) (length picks) (refl, refl) ∙ copied (can_select l (length block))
        where
          copied : (c : Bool) → selected_pairs l.store l.places (cond c (indices_where (λ (i : ℕ). true) l.count) []) ≡ cond c leg.pairs []
          copied true = all_read l.store l.places l.count ∙ ap (λ (m : Map). m.pairs) (plain_leg kind (pairs_of l) (leb-false 2 kind e))
          copied false = refl

leg_few : (kind : ℕ) (l : List Pair) → length (leg_map (leg_of kind l)).pairs ≤ length l
unfolding leg_map leg_of
leg_few zero l = omega arith
leg_few (suc zero) l = omega arith
leg_few (suc (suc k)) l = relocate_few l

leg_mark : (kind : ℕ) (l : List Pair) → eqb (map_kind kind) 1 ≡ (leg_map (leg_of kind l)).mark
unfolding leg_map leg_of from_parts
leg_mark zero l = refl
leg_mark (suc zero) l = refl
leg_mark (suc (suc k)) l = rw (ne_eqb (suc (suc k)) 0 (λ (z : suc (suc k) ≡ 0). omega arith)) (sym (ap (λ (m : Map). m.mark) (relocate_parts l)))

-- The three numbers of leg k, in a table that has space for them.
module _ (table : List ℕ) (k a b c : ℕ) (h : 3 * k + 3 ≤ length table) where
  abbrev told : List ℕ
  told = written_at (3 * k) (a ∷ b ∷ c ∷ []) table

  known_before : (i : ℕ) → i < 3 * k → get_or told i 0 ≡ get_or table i 0
  known_before i l = over_below (3 * k) (a ∷ b ∷ c ∷ []) table i (omega arith) l

  known_kind : kind_at told k ≡ a
  known_kind = let z : 3 * k + 0 ≡ 3 * k = omega arith in rw z at (over_inside (3 * k) (a ∷ b ∷ c ∷ []) table 0 (omega arith) (omega arith))

  known_first : first_at told k ≡ b
  known_first = over_inside (3 * k) (a ∷ b ∷ c ∷ []) table 1 (omega arith) (omega arith)

  known_size : size_at told k ≡ c
  known_size = over_inside (3 * k) (a ∷ b ∷ c ∷ []) table 2 (omega arith) (omega arith)

-- A block of the buffer, and the blocks before it.
module _ (made : List ℕ) (k : ℕ) (block : List ℕ) (h : 256 * k + 256 ≤ length made) where
  block_kept : (store : Text) (j n : ℕ) → j < k → n ≤ 64 → pairs_in store (drop (4 * (64 * j)) (written_at (256 * k) block made)) n ≡ pairs_in store (drop (4 * (64 * j)) made) n
  block_kept store j n m o =
      list_same store (drop (4 * (64 * j)) (written_at (256 * k) block made)) (drop (4 * (64 * j)) made) n
      (λ i p.
      get_or-drop (4 * (64 * j)) (written_at (256 * k) block made) i 0
      ∙ over_below (256 * k) block made (4 * (64 * j) + i) (omega arith) (omega arith)
      ∙ sym (get_or-drop (4 * (64 * j)) made i 0))

  block_prepared : length block ≡ 256 → (store : Text) (n : ℕ) → n ≤ 64 → pairs_in store (drop (4 * (64 * k)) (written_at (256 * k) block made)) n ≡ pairs_in store block n
  block_prepared l store n o =
      list_same store (drop (4 * (64 * k)) (written_at (256 * k) block made)) block n
      (λ i p.
      let z : 4 * (64 * k) + i ≡ 256 * k + i = omega arith in
      get_or-drop (4 * (64 * k)) (written_at (256 * k) block made) i 0 ∙ rw z (over_inside (256 * k) block made i (omega arith) (rw l (omega arith))))

pub block_room : (k : ℕ) (made : List ℕ) → k < 16 → length made ≡ 4096 → length (take 256 (drop (256 * k) made)) ≡ 256
block_room k made h g = length-take-le 256 (drop (256 * k) made) (rw (length-drop (256 * k) made) (omega arith))

-- The map of leg k is added to those before it.
module _ (r : LentRoute) (k : ℕ) (made table : List ℕ) (h : k < 16) (g : length made ≡ 4096) (t : length table ≡ 48) where
  abbrev kind : ℕ
  kind = kind_at r.legs k

  abbrev given : LentList
  given = list_at r k

  abbrev old : List ℕ
  old = take 256 (drop (256 * k) made)

  abbrev block : List ℕ
  block = leg_block kind given old

  abbrev w : ℕ
  w = length (leg_selection kind given 256)

  block_read : pairs_in given.store block w ≡ pairs_if_selectable given 256 (leg_map (leg_of kind (pairs_of given))).pairs
  block_read = rw (block_room k made h g) at (leg_read kind given old)

  w_few : w ≤ 64
  w_few =
      omega (
        arith,
        pairs_in_length given.store block w,
        ap length block_read,
        made_short given 256 (leg_map (leg_of kind (pairs_of given))).pairs (omega (arith, leg_few kind (pairs_of given), pairs_in_length given.store given.places given.count)),
      )

  block_length : length block ≡ 256
  unfolding leg_block
  block_length =
      let z : length old ≡ 256 = block_room k made h g in
      selected_length (leg_source_list kind given).places (leg_selection kind given (length old)) old (rw z (omega (arith, w_few))) ∙ z

  abbrev made' : List ℕ
  made' = written_at (256 * k) block made

  abbrev table' : List ℕ
  table' = written_at (3 * k) (prepared_entry r k) table

  made_length : length made' ≡ 4096
  made_length = over_length (256 * k) block made (omega (arith, block_length)) ∙ g

  table_length : length table' ≡ 48
  unfolding prepared_entry
  table_length = over_length (3 * k) (prepared_entry r k) table (omega arith) ∙ t

  prepared_here : map_at (lent_route r.store made' table' r.count) k ≡ laid_map r k
  unfolding map_at laid_map list_at leg_at prepared_entry
  prepared_here =
      rw (
        known_kind table k (map_kind kind) (64 * k) w (omega arith),
        known_first table k (map_kind kind) (64 * k) w (omega arith),
        known_size table k (map_kind kind) (64 * k) w (omega arith),
        block_prepared made k block (omega arith) block_length r.store w w_few,
        block_read,
        leg_mark kind (pairs_of given),
      ) refl

  prepared_before : (j : ℕ) → j < k → first_at table j ≡ 64 * j → size_at table j ≤ 64
      → map_at (lent_route r.store made' table' r.count) j ≡ map_at (lent_route r.store made table r.count) j
  unfolding map_at list_at prepared_entry
  prepared_before j o f n =
      rw (
        known_before table k (map_kind kind) (64 * k) w (omega arith) (3 * j) (omega arith),
        known_before table k (map_kind kind) (64 * k) w (omega arith) (3 * j + 1) (omega arith),
        known_before table k (map_kind kind) (64 * k) w (omega arith) (3 * j + 2) (omega arith),
        f,
        block_kept made k block (omega arith) r.store j (size_at table j) o n,
      ) refl

  prepared_on : LaidTo r (lent_route r.store made table r.count) k → LaidTo r (lent_route r.store made' table' r.count) (suc k)
  unfolding LaidTo prepared_entry
  prepared_on s j o = elim (ℕ_discrete j k) [
    | yes z ↦ rw z (known_first table k (map_kind kind) (64 * k) w (omega arith), rw (known_size table k (map_kind kind) (64 * k) w (omega arith)) w_few, prepared_here)
    | no d ↦ before (omega arith)
  ]
    where
      before : j < k → (first_at table' j ≡ 64 * j) × (size_at table' j ≤ 64) × (map_at (lent_route r.store made' table' r.count) j ≡ laid_map r j)
      before p =
          let q = s j p in (
            known_before table k (map_kind kind) (64 * k) w (omega arith) (3 * j + 1) (omega arith) ∙ q.0,
            rw (known_before table k (map_kind kind) (64 * k) w (omega arith) (3 * j + 2) (omega arith)) q.1,
            prepared_before j p q.0 q.1 ∙ q.2,
          )

-- All maps.
module _ (r : LentRoute) (made table : List ℕ) (g : length made ≡ 4096) (t : length table ≡ 48) where
  prepared_all : (n : ℕ) → n ≤ 16
      → (length (prepared_places r n made) ≡ 4096) × (length (prepared_table r n table) ≡ 48) × LaidTo r (lent_route r.store (prepared_places r n made) (prepared_table r n table) r.count) n
  unfolding prepared_places prepared_table LaidTo
  prepared_all zero h = (g, t, λ k l. absurd (omega arith))
  prepared_all (suc n) h =
      let s = prepared_all n (omega arith) in
      let a : List ℕ = prepared_places r n made in
      let b : List ℕ = prepared_table r n table in
      (made_length r n a b (omega arith) s.0 s.1, table_length r n a b (omega arith) s.0 s.1, prepared_on r n a b (omega arith) s.0 s.1 s.2)

-- The buffers after `prepare_legs` are read as the maps of the legs.
module _ (r : LentRoute) (made table : List ℕ) where
  abbrev lays : Bool
  lays = can_prepare r.count made table

  prepares_few : lays ≡ true → r.count ≤ 16
  unfolding can_prepare
  prepares_few h = leb-true r.count 16 (and_l (leb r.count 16) (eqb (length made) 4096 && eqb (length table) 48) h)

  prepares_sizes : lays ≡ true → (length made ≡ 4096) × (length table ≡ 48)
  unfolding can_prepare
  prepares_sizes h =
      let k : (eqb (length made) 4096 && eqb (length table) 48) ≡ true = and_r (leb r.count 16) (eqb (length made) 4096 && eqb (length table) 48) h in
      (eqb-true (length made) 4096 (and_l (eqb (length made) 4096) (eqb (length table) 48) k), eqb-true (length table) 48 (and_r (eqb (length made) 4096) (eqb (length table) 48) k))

  pub prepared_read : (made' table' : List ℕ) → made' ≡ places_after_prepare r made table → table' ≡ table_after_prepare r made table → PreparedIfPassed r (lent_route r.store made' table' r.count) r.count
  unfolding PreparedIfPassed Prepared LaidTo laid_map places_after_prepare table_after_prepare can_prepare
  prepared_read made' table' e f p l m j o = go lays refl e f
    where
      go : (b : Bool) → lays ≡ b → made' ≡ cond b (prepared_places r r.count made) made → table' ≡ cond b (prepared_table r r.count table) table
          → map_at (lent_route r.store made' table' r.count) j ≡ leg_map (leg_at r j)
      go true k e f =
          let z = prepares_sizes k in
          rw (e, f) (((prepared_all r made table z.0 z.1 r.count (prepares_few k)).2 j o).2 ∙ rw (sound_select (list_at r j) 256 (leg_map (leg_at r j)).pairs (route_sound r [] p j o) (omega arith)) refl)
      go false k e f = absurd (false≢true (sym k ∙ can))
        where
          can : lays ≡ true
          can =
              rw (
                le-leb r.count 16 (route_few r [] p),
                eq-eqb (length made) 4096 (sym (ap length e) ∙ l),
                eq-eqb (length table) 48 (sym (ap length f) ∙ m),
              ) refl
