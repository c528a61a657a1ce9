-- Method: The lent buffers after `prepare_legs`: for each leg a block of 256 entries, the places of the pairs of its map, and three numbers in a table.
-- proofs/ReadLaws.antt proves that the maps prepared are those of the legs.
use Rattle.std.specs.Prelude.{ℕ, zero, suc, ◌*◌, Bool, true, cond, ◌&&◌, List, [], ◌∷◌, eqb, leb, length, take, drop, replicate}
use Rattle.text.specs.Text.{written_at}
use Rattle.pair_list_write.specs.Select.{indices_where, written_entries}
use Rattle.validate.specs.Validate.{LentList, lent_list}
use Rattle.validate.specs.Select.{can_select}
use Rattle.map_canonical.specs.Canonical.{kept_selection, canonical_selection}
use Rattle.relocates.specs.Select.{active_selection}
use Rattle.route_legs.specs.LentRoute.{LentRoute, kind_at, list_at}

-- The Active pairs of a lent list, their places in a block of 256 entries.
unfoldable pub active_list : LentList → LentList
unfolding written_entries active_selection
active_list l = lent_list l.store (written_entries l.places (active_selection l 256) (replicate 256 0)) (length (active_selection l 256))

-- The list from which the map of a leg of this kind selects its pairs: for a relocate list the Active pairs, otherwise the list itself.
unfoldable pub leg_source_list : ℕ → LentList → LentList
unfolding active_list
leg_source_list kind l = cond (leb 2 kind) (active_list l) l

-- The indices of the pairs selected: those that `new` keeps of a relocate list, all of a map; none if question 4 refuses the list or the
-- capacity is less than 64 pairs.
unfoldable pub leg_selection : ℕ → LentList → ℕ → List ℕ
unfolding kept_selection active_list can_select indices_where
leg_selection kind l room = cond (leb 2 kind) (canonical_selection (active_list l) true room) (cond (can_select l room) (indices_where (λ (i : ℕ). true) l.count) [])

-- The block of the leg: the places of the selected pairs over its beginning.
unfoldable pub leg_block : ℕ → LentList → List ℕ → List ℕ
unfolding written_entries leg_source_list leg_selection
leg_block kind l block = written_entries (leg_source_list kind l).places (leg_selection kind l (length block)) block

-- The kind of the prepared leg: 0 for a map without the mark; 1 otherwise, since a relocate list's map has the mark.
abbrev pub map_kind : ℕ → ℕ
map_kind kind = cond (eqb kind 0) 0 1

-- The three numbers of prepared leg k: its kind, the index of the first pair of its block, and its number of pairs.
unfoldable pub prepared_entry : LentRoute → ℕ → List ℕ
unfolding leg_selection list_at
prepared_entry r k = map_kind (kind_at r.legs k) ∷ 64 * k ∷ length (leg_selection (kind_at r.legs k) (list_at r k) 256) ∷ []

-- The place buffer after the first n legs are prepared.
unfoldable pub prepared_places : LentRoute → ℕ → List ℕ → List ℕ
unfolding leg_block list_at
prepared_places r zero made = made
prepared_places r (suc k) made = written_at (256 * k) (leg_block (kind_at r.legs k) (list_at r k) (take 256 (drop (256 * k) (prepared_places r k made)))) (prepared_places r k made)

-- The table after the first n legs are prepared.
unfoldable pub prepared_table : LentRoute → ℕ → List ℕ → List ℕ
unfolding prepared_entry
prepared_table r zero table = table
prepared_table r (suc k) table = written_at (3 * k) (prepared_entry r k) (prepared_table r k table)

-- Whether there are at most 16 legs and the buffers have their size.
unfoldable pub can_prepare : ℕ → List ℕ → List ℕ → Bool
can_prepare n made table = leb n 16 && (eqb (length made) 4096 && eqb (length table) 48)

-- The place buffer after the call; unchanged if the legs cannot be prepared.
unfoldable pub places_after_prepare : LentRoute → List ℕ → List ℕ → List ℕ
unfolding can_prepare prepared_places
places_after_prepare r made table = cond (can_prepare r.count made table) (prepared_places r r.count made) made

-- The table after the call; unchanged if the legs cannot be prepared.
unfoldable pub table_after_prepare : LentRoute → List ℕ → List ℕ → List ℕ
unfolding can_prepare prepared_table
table_after_prepare r made table = cond (can_prepare r.count made table) (prepared_table r r.count table) table
