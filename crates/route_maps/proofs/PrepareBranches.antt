-- Lemmas about the branches of the functions that prepare maps.
use mathlib.Core.Path.{◌≡◌, refl, sym, ap, ◌∙◌}
use mathlib.Core.Logic.{◌≢◌}
use mathlib.Core.Bool.{Bool, true, false, not}
use mathlib.Core.List.{List, [], ◌∷◌, ◌++◌}
use Prim.Native.Nat.{ℕ, ◌+◌, ◌-◌, ◌*◌, ◌≤◌, ◌<◌}
use native.Mathlib.Omega.{arith}
use native.Mathlib.Numerals.{add-one}
use lib.Dec.{eqb, leb}
use lib.ListN.{length, take, drop, replicate}
use lib.Seq.{drop-drop}
use borrow.Rule.Slice.PartMut.{put_mid}
use borrow.Author.Tests.{eq-eqb, ne_eqb, le-leb, lt-leb}
use Rattle.text.specs.Text.{Text, written_at, written_if_fits}
use Rattle.text.proofs.BoolLaws.{known_false, known_true, and_no}
use Rattle.pair_list_write.specs.Lists.{copy_entry}
use Rattle.pair_list_write.specs.Select.{indices_where, written_entries, HoldsEntries}
use Rattle.route_legs.proofs.LegBranches.{leg_written}
use Rattle.pair_list_write.proofs.SelectLaws.{selected_none, selected_turn}
use Rattle.validate.specs.Validate.{LentList, lent_list, count_within_limit}
use Rattle.validate.specs.Select.{can_select}
use Rattle.map_canonical.specs.Canonical.{canonical_selection}
use Rattle.relocates.specs.Select.{active_selection}
use Rattle.route_legs.specs.LentRoute.{LentRoute, lent_route, kind_at, first_at, size_at, list_at}
use Rattle.route_maps.specs.Prepare.{active_list, leg_source_list, leg_selection, leg_block, map_kind, prepared_entry, prepared_places, prepared_table, can_prepare, places_after_prepare, table_after_prepare}
use Rattle.route_maps.proofs.ReadLaws.{all_length, block_room}

-- `copy_pairs`
module _ (places block₀ : List ℕ) where
  abbrev all : ℕ → List ℕ
  all n = indices_where (λ (i : ℕ). true) n

  pub copy_none : block₀ ≡ written_entries places (all 0) block₀
  unfolding indices_where
  copy_none = (selected_none places block₀).1

  pub copy_on : (i : ℕ) (block block' : List ℕ) → 4 * i + 4 ≤ length places → 4 * i + 4 ≤ length block → block ≡ written_entries places (all i) block₀ → block' ≡ copy_entry places i i block
      → block' ≡ written_entries places (all (i + 1)) block₀
  unfolding indices_where
  copy_on i block block' h k e f =
      rw (add-one i) (selected_turn places i (all i) block₀ block i h (sym (all_length i), e) true (λ _. k) (i + 1) block' refl f).1

  pub copy_end : (n i : ℕ) (block : List ℕ) → n ≤ i → i ≤ n → block ≡ written_entries places (all i) block₀ → block ≡ written_entries places (all n) block₀
  copy_end n i block h k e = let z : i ≡ n = omega arith in rw z at e

-- `prepare_relocates`
module _ (store : Text) (places : List ℕ) (n : ℕ) where
  abbrev lent : LentList
  lent = lent_list store places n

  pub relocates_prepared : (act : List ℕ) (w : ℕ) → HoldsEntries places (active_selection lent 256) (replicate 256 0) act w
      → (room : ℕ) (block block' : List ℕ) (r : ℕ)
      → HoldsEntries act (canonical_selection (lent_list store act w) true room) block block' r → HoldsEntries (active_list lent).places (canonical_selection (active_list lent) true room) block block' r
  unfolding active_list
  relocates_prepared act w e room block block' r h = rw (e.0, e.1) at h

-- `prepare_pairs`
module _ (store : Text) (places : List ℕ) (kind n : ℕ) (block : List ℕ) where
  abbrev from : LentList
  from = lent_list store places n

  abbrev Leaves : ℕ → List ℕ → Type 0
  Leaves r block' = (r ≡ length (leg_selection kind from (length block))) × (block' ≡ leg_block kind from block)

  pub leg_relocates : 2 ≤ kind → (r : ℕ) (block' : List ℕ)
      → HoldsEntries (active_list from).places (canonical_selection (active_list from) true (length block)) block block' r → Leaves r block'
  unfolding leg_selection leg_block leg_source_list
  leg_relocates h r block' e = rw (le-leb 2 kind h) e

  module _ (h : kind < 2) (b : Bool) (e : b ≡ can_select (lent_list [] places n) (length block)) where
    pub leg_none : not b ≡ true → Leaves 0 block
    unfolding leg_selection leg_block leg_source_list can_select count_within_limit
    leg_none k = rw (lt-leb 2 kind h, known_false e k) (selected_none places block)

    pub leg_copied : not b ≡ false → (block' : List ℕ) → block' ≡ written_entries places (indices_where (λ (i : ℕ). true) n) block → Leaves n block'
    unfolding leg_selection leg_block leg_source_list can_select count_within_limit
    leg_copied k block' f = rw (lt-leb 2 kind h, known_true e k) (sym (all_length n), f)

-- `prepare_leg`: the block of leg k, as a slice of the buffer.
pub part_room : (k : ℕ) (made : List ℕ) → k < 16 → length made ≡ 4096 → length (take (256 * k + 256 - 256 * k) (drop (256 * k) made)) ≡ 256
part_room k made h g = let z : 256 * k + 256 - 256 * k ≡ 256 = omega arith in rw z (block_room k made h g)

part_put : (at : ℕ) (made block : List ℕ) → length block ≡ 256 → put_mid at (at + 256 - at) made block ≡ written_at at block made
part_put at made block n =
    let z : at + 256 - at ≡ 256 = omega arith in
    rw (z, n) (ap (λ (rest : List ℕ). take at made ++ (block ++ rest)) (drop-drop 256 at made))

module _ (store : Text) (places legs : List ℕ) (k : ℕ) (kind size : ℕ) (part : List ℕ) (ek : kind ≡ kind_at legs k) (es : size ≡ size_at legs k) (ep : part ≡ drop (4 * first_at legs k) places) where
  abbrev one : LentRoute
  one = lent_route store places legs 0

  pub leg_placed : (made : List ℕ) → k < 16 → length made ≡ 4096 → (block : List ℕ)
      → block ≡ leg_block kind (lent_list store part size) (take (256 * k + 256 - 256 * k) (drop (256 * k) made)) → length block ≡ length (take (256 * k + 256 - 256 * k) (drop (256 * k) made))
      → put_mid (256 * k) (256 * k + 256 - 256 * k) made block ≡ written_at (256 * k) (leg_block (kind_at legs k) (list_at one k) (take 256 (drop (256 * k) made))) made
  unfolding list_at
  leg_placed made h g block e l =
      let z : 256 * k + 256 - 256 * k ≡ 256 = omega arith in
      let f : block ≡ leg_block (kind_at legs k) (list_at one k) (take 256 (drop (256 * k) made)) = e ∙ rw (z, ek, es, ep) refl in
      part_put (256 * k) made block (l ∙ part_room k made h g) ∙ ap (λ (x : List ℕ). written_at (256 * k) x made) f

  pub leg_known : (table : List ℕ) → k < 16 → length table ≡ 48 → (m : ℕ) → m ≡ map_kind kind → (w room : ℕ) → room ≡ 256 → w ≡ length (leg_selection kind (lent_list store part size) room)
      → (table' : List ℕ) → table' ≡ written_if_fits (3 * k) (m ∷ 64 * k ∷ w ∷ []) table → table' ≡ written_at (3 * k) (prepared_entry one k) table
  unfolding prepared_entry list_at
  leg_known table h t m em w room z ew table' e =
      let as_kind : m ≡ map_kind (kind_at legs k) = em ∙ ap map_kind ek in
      let list_is : lent_list store part size ≡ list_at one k
      = ap (λ (p : List ℕ). lent_list store p size) ep ∙ ap (λ (n : ℕ). lent_list store (drop (4 * first_at legs k) places) n) es in
      let as_size : w ≡ length (leg_selection (kind_at legs k) (list_at one k) 256)
      = ew
      ∙ ap (λ (l : LentList). length (leg_selection kind l room)) list_is
      ∙ ap (λ (x : ℕ). length (leg_selection x (list_at one k) room)) ek
      ∙ ap (λ (x : ℕ). length (leg_selection (kind_at legs k) (list_at one k) x)) z in
      leg_written k m (64 * k) w table (omega arith) table' e
      ∙ ap (λ (x : ℕ). written_at (3 * k) (x ∷ 64 * k ∷ w ∷ []) table) as_kind
      ∙ ap (λ (x : ℕ). written_at (3 * k) (map_kind (kind_at legs k) ∷ 64 * k ∷ x ∷ []) table) as_size

-- `prepare_legs`
pub places_none : (r : LentRoute) (made : List ℕ) → made ≡ prepared_places r 0 made
unfolding prepared_places
places_none r made = refl

pub table_none : (r : LentRoute) (table : List ℕ) → table ≡ prepared_table r 0 table
unfolding prepared_table
table_none r table = refl

module _ (r : LentRoute) (k : ℕ) where
  pub places_on : (made now made' : List ℕ) → now ≡ prepared_places r k made → made' ≡ written_at (256 * k) (leg_block (kind_at r.legs k) (list_at r k) (take 256 (drop (256 * k) now))) now
      → made' ≡ prepared_places r (k + 1) made
  unfolding prepared_places
  places_on made now made' e h = h ∙ rw (e, add-one k) refl

  pub table_on : (table now table' : List ℕ) → now ≡ prepared_table r k table → table' ≡ written_at (3 * k) (prepared_entry r k) now → table' ≡ prepared_table r (k + 1) table
  unfolding prepared_table
  table_on table now table' e h = h ∙ rw (e, add-one k) refl

module _ (r : LentRoute) (made table : List ℕ) where
  abbrev Leaves-legs : List ℕ → List ℕ → Type 0
  Leaves-legs made' table' = (made' ≡ places_after_prepare r made table) × (table' ≡ table_after_prepare r made table)

  pub legs_over : 16 < r.count → Leaves-legs made table
  unfolding places_after_prepare table_after_prepare can_prepare
  legs_over h = rw (lt-leb r.count 16 h) (refl, refl)

  pub legs_short : length made ≢ 4096 → Leaves-legs made table
  unfolding places_after_prepare table_after_prepare can_prepare
  legs_short h = rw (ne_eqb (length made) 4096 h, and_no (leb r.count 16)) (refl, refl)

  pub legs_small : length table ≢ 48 → Leaves-legs made table
  unfolding places_after_prepare table_after_prepare can_prepare
  legs_small h = rw (ne_eqb (length table) 48 h, and_no (eqb (length made) 4096), and_no (leb r.count 16)) (refl, refl)

  pub legs_end : r.count ≤ 16 → length made ≡ 4096 → length table ≡ 48 → (k : ℕ) → r.count ≤ k → k ≤ r.count → (made' table' : List ℕ) → made' ≡ prepared_places r k made → table' ≡ prepared_table r k table
      → Leaves-legs made' table'
  unfolding places_after_prepare table_after_prepare can_prepare
  legs_end h g t k l m made' table' e f =
      let z : k ≡ r.count = omega arith in
      rw (le-leb r.count 16 h, eq-eqb (length made) 4096 g, eq-eqb (length table) 48 t) (rw z at e, rw z at f)
