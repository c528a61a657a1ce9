-- Meaning: Closing the open list as a leg, in lent memory: the reply, and every byte and entry after the call, for any contents of the buffers. All
-- legs share one byte store; each has a block of 256 place entries and three numbers in the table, in the layout of crates/route_legs.
use Rattle.std.specs.Prelude.{ℕ, suc, ◌+◌, ◌*◌, Bool, cond, ◌&&◌, List, [], ◌∷◌, leb, length, Result, Ok, Err, ⊤}
use Rattle.text.specs.Text.{Text, written_at}
use Rattle.pair_list.specs.Pair.{Pair}
use Rattle.pair_list.specs.Places.{pairs_in, list_text, list_places, end_bytes}
use Rattle.refusal.specs.declared.Refusal.{Refusal}
use Rattle.refusal.specs.declared.Refusal.TheVariants.{TooMany, NoRoom}
use Rattle.refusal.specs.Refusal.{refused_or}
use Rattle.validate.specs.Validate.{LentList, pairs_of, count_within_limit}
use Rattle.map_spec.specs.Map.{Map}
use Rattle.map_spec.specs.New.{from_parts}
use Rattle.route_spec.specs.Leg.{leg_map, closed_leg, counted_pairs}
use Rattle.close_leg.specs.declared.LegTotals.{LegTotals}

-- The leg's map.
abbrev pub closed_map : Bool → List Pair → Map
closed_map relocates l = leg_map (closed_leg relocates l)

-- The leg store: the closed legs in lent memory, as their number and bytes, the byte store, the places and the table.
pub record LegStore : Type 0 where
  pub legs : LegTotals
  pub store : Text
  pub slots : List ℕ
  pub table : List ℕ

-- A leg store from its parts.
abbrev pub leg_store : LegTotals → Text → List ℕ → List ℕ → LegStore
leg_store g store slots table = record { legs = g; store = store; slots = slots; table = table }

-- Question 4: "the route at most 16 legs". Place and table buffers that cannot hold one more leg count as full.
abbrev pub store_has_leg_room : LegStore → Bool
store_has_leg_room v = leb (suc v.legs.count) 16 && leb (256 * suc v.legs.count) (length v.slots) && leb (3 * suc v.legs.count) (length v.table)

-- Question 5: "in `frames` 32,768 over all legs", and the byte store is large enough.
abbrev pub store_has_byte_room : LegStore → ℕ → Bool
store_has_byte_room v n = leb (v.legs.bytes + n) 32768 && leb (v.legs.bytes + n) (length v.store)

-- Validation of a close: questions 4 and 5 for the list before redundant pairs are dropped.
unfoldable pub validate_close : LegStore → List Pair → Result ⊤ Refusal
unfolding end_bytes
validate_close v before =
    cond (store_has_leg_room v) (cond (store_has_byte_room v (end_bytes before)) (Ok tt) (Err NoRoom)) (Err TooMany)

-- The number of legs and bytes with the leg appended.
abbrev pub with_one_leg : LegTotals → ℕ → LegTotals
with_one_leg g n = record { count = g.count + 1; bytes = g.bytes + n }

-- The leg's three numbers: 1 if it has the mark and 0 otherwise, the index of the first pair of its block, and its number of pairs.
abbrev pub leg_entry : ℕ → Map → List ℕ
leg_entry k m = cond m.mark 1 0 ∷ 64 * k ∷ length m.pairs ∷ []

-- The leg store with a leg appended, whose ends had n bytes before redundant pairs were dropped: its bytes follow those of the other legs,
-- its places are in its own block.
unfoldable pub with_leg : LegStore → Map → ℕ → LegStore
unfolding list_text list_places
with_leg v m n = record {
  legs = with_one_leg v.legs n;
  store = written_at v.legs.bytes (list_text m.pairs) v.store;
  slots = written_at (256 * v.legs.count) (list_places v.legs.bytes m.pairs) v.slots;
  table = written_at (3 * v.legs.count) (leg_entry v.legs.count m) v.table;
}

-- The leg store after a close. Requirements: "An accepted close empties the open list; a refused one changes nothing."
unfoldable pub closed_store : Result ⊤ Refusal → LegStore → Map → ℕ → LegStore
unfolding with_leg
closed_store a v m n = refused_or a (λ (x : Refusal). v) (with_leg v m n)

-- The reply of a close: the new number of legs and bytes, or the refusal.
unfoldable pub closed_reply : Result ⊤ Refusal → LegTotals → ℕ → Result LegTotals Refusal
closed_reply a g n = refused_or a Err (Ok (with_one_leg g n))

-- The reply of closing a list of pairs as a leg.
unfoldable pub close_list_reply : List Pair → LegStore → Result LegTotals Refusal
unfolding validate_close closed_reply end_bytes
close_list_reply l v = closed_reply (validate_close v l) v.legs (end_bytes l)

-- The leg store after closing a list of pairs as a leg, with the mark or without.
unfoldable pub close_list_store : Bool → List Pair → LegStore → LegStore
unfolding validate_close closed_store from_parts end_bytes
close_list_store mark l v = closed_store (validate_close v l) v (from_parts l mark) (end_bytes l)

-- Validation of closing the open list: a number of pairs beyond its slice is refused by question 4.
unfoldable pub validate_close_of : Bool → LentList → LegStore → Result ⊤ Refusal
unfolding count_within_limit counted_pairs validate_close pairs_in
validate_close_of relocates l v = cond (count_within_limit l) (validate_close v (counted_pairs relocates (pairs_of l))) (Err TooMany)

-- The reply of a call that closes the open list.
unfoldable pub close_reply : Bool → LentList → LegStore → Result LegTotals Refusal
unfolding validate_close_of closed_reply end_bytes
close_reply relocates l v = closed_reply (validate_close_of relocates l v) v.legs (end_bytes (counted_pairs relocates (pairs_of l)))

-- The leg store after a call that closes the open list.
unfoldable pub close_store : Bool → LentList → LegStore → LegStore
unfolding validate_close_of closed_store leg_map closed_leg end_bytes
close_store relocates l v = closed_store (validate_close_of relocates l v) v (closed_map relocates (pairs_of l)) (end_bytes (counted_pairs relocates (pairs_of l)))
