-- Lemmas about the branches of the functions that close a list.
use Rattle.std.specs.Prelude.{Result, Ok, Err, Option, Some, None, ⊤}
use mathlib.Core.Path.{◌≡◌, refl, sym, ap, ◌∙◌}
use mathlib.Core.Bool.{Bool, true, false, not, cond, ◌&&◌, ◌||◌}
use mathlib.Core.List.{List, [], ◌∷◌, ◌++◌, append_assoc}
use Prim.Native.Nat.{ℕ, suc, ◌+◌, ◌*◌, ◌-◌, ◌/◌, ◌≤◌, ◌<◌}
use native.Mathlib.Omega.{arith}
use lib.Dec.{leb}
use lib.ListN.{length, take, drop, length-drop, take-append-drop}
use lib.Seq.{drop-append-le, drop-drop, length-take-le}
use borrow.Author.Tests.{le-leb, lt-leb, leb-true}
use Rattle.text.specs.Text.{Text, written, written_at, written_if_fits}
use Rattle.text.proofs.BoolLaws.{and_l, and_r, and_yes, known_false, known_true}
use Rattle.pair_list.specs.Pair.{Pair}
use Rattle.pair_list.specs.Places.{pairs_in, list_places, end_bytes}
use Rattle.pair_list_write.specs.Lists.{remaining_room, append_fits_buffers, append_list_bytes, append_list_slots}
use Rattle.pair_list.proofs.PlaceLaws.{pairs_in_length}
use Rattle.pair_list.proofs.ListLaws.{places_length}
use Rattle.pair_list_write.proofs.RoomBranches.{left_fits, over_full}
use Rattle.route_legs.proofs.LegBranches.{leg_written}
use Rattle.refusal.specs.declared.Refusal.{Refusal}
use Rattle.refusal.specs.declared.Refusal.TheVariants.{TooMany, NoRoom}
use Rattle.validate.specs.Validate.{LentList, lent_list, pairs_of, count_within_limit}
use Rattle.validate.specs.Select.{can_select, pairs_if_selectable}
use Rattle.validate.proofs.RefusalLaws.{never}
use Rattle.validate.proofs.SelectLaws.{select_all, select_few}
use Rattle.map_spec.specs.Map.{Map}
use Rattle.map_spec.specs.New.{any_root_pair, without_root_pairs, canonicalize, from_parts}
use Rattle.map_spec.proofs.EndLaws.{from_parts_length}
use Rattle.map_canonical.proofs.KeepBranches.{pairs_made}
use Rattle.map_function.proofs.NewBranches.{from_parts_bytes}
use Rattle.relocates.specs.Status.{active_pairs}
use Rattle.route_spec.specs.Leg.{counted_pairs}
use Rattle.route_spec.proofs.RelocateLaws.{active_few, closed_parts}
use Rattle.close_leg.specs.declared.LegTotals.{LegTotals}
use Rattle.close_leg.specs.Close.{LegStore, leg_store, store_has_leg_room, store_has_byte_room, validate_close, with_leg, closed_store, closed_reply, close_list_reply, close_list_store, validate_close_of, close_reply, close_store}

-- `has_leg_room`
module _ (g : LegTotals) (slots table : List ℕ) where
  abbrev takes : Bool
  takes = store_has_leg_room (leg_store g [] slots table)

  pub leg_many : 16 ≤ g.count → false ≡ takes
  leg_many h = rw (lt-leb (suc g.count) 16 (omega (arith, h))) refl

  module _ (h : g.count < 16) where
    pub leg_beyond : length slots / 256 ≤ g.count → false ≡ takes
    leg_beyond m = rw (le-leb (suc g.count) 16 (omega (arith, h)), lt-leb (256 * suc g.count) (length slots) (omega (arith, m))) refl

    module _ (m : g.count < length slots / 256) where
      pub leg_short : length table / 3 ≤ g.count → false ≡ takes
      leg_short o =
          rw (le-leb (suc g.count) 16 (omega (arith, h)), le-leb (256 * suc g.count) (length slots) (omega (arith, m)), lt-leb (3 * suc g.count) (length table) (omega (arith, o))) refl

      pub leg_more : g.count < length table / 3 → true ≡ takes
      leg_more o =
          rw (le-leb (suc g.count) 16 (omega (arith, h)), le-leb (256 * suc g.count) (length slots) (omega (arith, m)), le-leb (3 * suc g.count) (length table) (omega (arith, o))) refl

  -- The bounds that hold if it returns true.
  pub leg_fits : takes ≡ true → (g.count < 16) × (256 * g.count + 256 ≤ length slots) × (3 * g.count + 3 ≤ length table)
  leg_fits e =
      let a : Bool = leb (suc g.count) 16 in
      let b : Bool = leb (256 * suc g.count) (length slots) in
      let c : Bool = leb (3 * suc g.count) (length table) in (
        leb-true (suc g.count) 16 (and_l a b (and_l (a && b) c e)),
        omega (arith, leb-true (256 * suc g.count) (length slots) (and_r a b (and_l (a && b) c e))),
        omega (arith, leb-true (3 * suc g.count) (length table) (and_r (a && b) c e)),
      )

  pub leg_few : (b : Bool) → b ≡ takes → not b ≡ false → g.count < 16
  leg_few b e h = (leg_fits (known_true e h)).0

-- `validate_close`
module _ (l : List Pair) (g : LegTotals) (store : Text) (slots table : List ℕ) (b : Bool) (e : b ≡ store_has_leg_room (leg_store g [] slots table)) where
  abbrev v : LegStore
  v = leg_store g store slots table

  pub validate_many : not b ≡ true → Err TooMany ≡ close_list_reply l v
  unfolding close_list_reply validate_close closed_reply
  validate_many h = rw (known_false e h) refl

  module _ (h : not b ≡ false) where
    full : store_has_byte_room v (end_bytes l) ≡ false → Err NoRoom ≡ close_list_reply l v
    unfolding close_list_reply validate_close closed_reply
    full k = rw (known_true e h, k) refl

    over_limit : 32768 < g.bytes + end_bytes l → Err NoRoom ≡ close_list_reply l v
    over_limit k = full (rw (lt-leb (g.bytes + end_bytes l) 32768 k) refl)

    pub validate_start : 32768 < g.bytes → Err NoRoom ≡ close_list_reply l v
    validate_start k = over_limit (omega (arith, k))

    module _ (m : g.bytes ≤ 32768) (room : Option ℕ) (f : room ≡ remaining_room l (32768 - g.bytes)) where
      pub validate_over : room ≡ None → Err NoRoom ≡ close_list_reply l v
      validate_over k = over_limit (omega (arith, m, over_full l (32768 - g.bytes) room f k))

      module _ (left : ℕ) (k : room ≡ Some left) where
        total : end_bytes l + left ≡ 32768 - g.bytes
        total = left_fits l (32768 - g.bytes) room f left k

        pub validate_short : length store < 32768 - left → Err NoRoom ≡ close_list_reply l v
        validate_short o =
            full (rw (le-leb (g.bytes + end_bytes l) 32768 (omega (arith, m, total)), lt-leb (g.bytes + end_bytes l) (length store) (omega (arith, m, total, o))) refl)

        pub validate_done : 32768 - left ≤ length store → Ok (record { count = g.count + 1; bytes = 32768 - left }) ≡ close_list_reply l v
        unfolding close_list_reply validate_close closed_reply
        validate_done o =
            let z : 32768 - left ≡ g.bytes + end_bytes l = omega (arith, m, total) in
            rw (known_true e h, z, le-leb (g.bytes + end_bytes l) 32768 (omega (arith, m, total)), le-leb (g.bytes + end_bytes l) (length store) (omega (arith, m, total, o))) refl

-- `write_leg_entry`
pub entry_known : (l : List ℕ) (j m a b : ℕ) (mark : Bool) → m ≡ cond mark 1 0 → 3 * j + 3 ≤ length l
    → (l' : List ℕ) → l' ≡ written_if_fits (3 * j) (m ∷ a ∷ b ∷ []) l → l' ≡ written_at (3 * j) (cond mark 1 0 ∷ a ∷ b ∷ []) l
entry_known l j m a b mark e h l' w = rw (← e) (leg_written j m a b l h l' w)

-- `close_list`
reply_passed : (a : Result ⊤ Refusal) (g h : LegTotals) (n : ℕ) → closed_reply a g n ≡ Ok h → a ≡ Ok tt
unfolding closed_reply
reply_passed (Ok tt) g h n e = refl
reply_passed (Err x) g h n e = absurd (let z : ◌≡◌ {A = ℕ} 0 1 = cc in omega arith)

-- A refusal changes nothing.
reply_refused : (a : Result ⊤ Refusal) (g : LegTotals) (n : ℕ) (x : Refusal) (v : LegStore) (m : Map) → closed_reply a g n ≡ Err x → closed_store a v m n ≡ v
unfolding closed_reply closed_store
reply_refused (Ok tt) g n x v m e = absurd (let z : ◌≡◌ {A = ℕ} 0 1 = cc in omega arith)
reply_refused (Err y) g n x v m e = refl

validated_fits : (v : LegStore) (l : List Pair) → validate_close v l ≡ Ok tt
    → (v.legs.count < 16) × (256 * v.legs.count + 256 ≤ length v.slots) × (3 * v.legs.count + 3 ≤ length v.table) × (v.legs.bytes + end_bytes l ≤ length v.store)
unfolding validate_close
validated_fits v l e = go (store_has_leg_room v) refl (store_has_byte_room v (end_bytes l)) refl e
  where
    go : (a : Bool) → store_has_leg_room v ≡ a → (b : Bool) → store_has_byte_room v (end_bytes l) ≡ b → ◌≡◌ {A = Result ⊤ Refusal} (cond a (cond b (Ok tt) (Err NoRoom)) (Err TooMany)) (Ok tt)
        → (v.legs.count < 16) × (256 * v.legs.count + 256 ≤ length v.slots) × (3 * v.legs.count + 3 ≤ length v.table) × (v.legs.bytes + end_bytes l ≤ length v.store)
    go true h true k e =
        let f = leg_fits v.legs v.slots v.table h in
        let n : ℕ = v.legs.bytes + end_bytes l in
        (f.0, f.1, f.2, leb-true n (length v.store) (and_r (leb n 32768) (leb n (length v.store)) k))
    go true h false k e = absurd (never NoRoom e)
    go false h b k e = absurd (never TooMany e)

-- A slice of the buffer with a text over its beginning, put back.
module _ (at k : ℕ) (t s : List ℕ) (h : length t ≤ k) (f : at + k ≤ length s) where
  pub part_over : take at s ++ (written t (take (at + k - at) (drop at s)) ++ drop (at + k - at) (drop at s)) ≡ written_at at t s
  part_over =
      let z : at + k - at ≡ k = omega arith in
      let d : List ℕ = drop at s in
      let n : length (take k d) ≡ k = length-take-le k d (rw (length-drop at s) (omega (arith, f))) in
      let e : drop (length t) (take k d) ++ drop k d ≡ drop (at + length t) s
      = sym (drop-append-le (length t) (take k d) (drop k d) (omega (arith, h, n))) ∙ ap (drop (length t)) (take-append-drop k d) ∙ drop-drop (length t) at s in
      rw (z, append_assoc t (drop (length t) (take k d)) (drop k d), e) refl

module _ (mark : Bool) (l : List Pair) (g : LegTotals) (store : Text) (slots table : List ℕ) (r : Result LegTotals Refusal) (e : r ≡ close_list_reply l (leg_store g store slots table)) where
  abbrev before : LegStore
  before = leg_store g store slots table

  -- The reply and the buffers after the call.
  abbrev Closes : Result LegTotals Refusal → Text → List ℕ → List ℕ → Type 0
  Closes r' store' slots' table' = (r' ≡ close_list_reply l before)
      × ((store' ≡ (close_list_store mark l before).store) × ((slots' ≡ (close_list_store mark l before).slots) × (table' ≡ (close_list_store mark l before).table)))

  pub list_refused : (x : Refusal) → r ≡ Err x → Closes (Err x) store slots table
  unfolding close_list_reply close_list_store
  list_refused x h =
      let z : close_list_store mark l before ≡ before = reply_refused (validate_close before l) g (end_bytes l) x before (from_parts l mark) (sym e ∙ h) in
      (sym h ∙ e, (ap (λ (v : LegStore). v.store) (sym z), (ap (λ (v : LegStore). v.slots) (sym z), ap (λ (v : LegStore). v.table) (sym z))))

  module _ (legs : LegTotals) (h : r ≡ Ok legs) where
    passed : validate_close before l ≡ Ok tt
    unfolding close_list_reply
    passed = reply_passed (validate_close before l) g legs (end_bytes l) (sym e ∙ h)

    pub list_fits : (g.count < 16) × (256 * g.count + 256 ≤ length slots) × (3 * g.count + 3 ≤ length table) × (g.bytes + end_bytes l ≤ length store)
    list_fits = validated_fits before l passed

    module _ (bytes : Text) (places : List ℕ) (n : ℕ) (s : l ≡ pairs_in bytes places n) (few : n ≤ 64) (held : 4 * n ≤ length places)
        (marked : Bool) (f : marked ≡ (mark || any_root_pair l)) (room : ℕ) (enough : room ≡ 256) (kept : List ℕ) (w : ℕ)
        (c : pairs_in bytes kept w ≡ pairs_if_selectable (lent_list bytes places n) room (canonicalize marked (without_root_pairs l))) where
      abbrev m : Map
      m = from_parts l mark

      pairs_are : pairs_in bytes kept w ≡ m.pairs
      unfolding from_parts
      pairs_are = pairs_made canonicalize bytes places n l mark few (omega (arith, held)) marked f room enough kept w c

      count_is : w ≡ length m.pairs
      count_is = sym (pairs_in_length bytes kept w) ∙ ap length pairs_are

      pairs_few : length m.pairs ≤ 64
      pairs_few = omega (arith, from_parts_length l mark, ap length s, pairs_in_length bytes places n, few)

      room_still : (block : List ℕ) → length block ≡ 256 → append_fits_buffers g.bytes m.pairs store block ≡ true
      unfolding append_fits_buffers
      room_still block z =
          rw (
            le-leb (g.bytes + end_bytes m.pairs) (length store) (omega (arith, list_fits.3, from_parts_bytes l mark)),
            le-leb (length m.pairs) (length block / 4) (omega (arith, pairs_few, z)),
          ) refl

      after : close_list_store mark l before ≡ with_leg before m (end_bytes l)
      unfolding close_list_store closed_store
      after = rw passed refl

      block_long : length (take (256 * g.count + 256 - 256 * g.count) (drop (256 * g.count) slots)) ≡ 256
      block_long =
          let z : 256 * g.count + 256 - 256 * g.count ≡ 256 = omega arith in
          rw z (length-take-le 256 (drop (256 * g.count) slots) (rw (length-drop (256 * g.count) slots) (omega (arith, list_fits.1))))

      abbrev block : List ℕ
      block = take (256 * g.count + 256 - 256 * g.count) (drop (256 * g.count) slots)

      pub list_closed : (store' : Text) (block' table' : List ℕ) → store' ≡ append_list_bytes g.bytes (pairs_in bytes kept w) store block
          → block' ≡ append_list_slots g.bytes (pairs_in bytes kept w) store block → table' ≡ written_at (3 * g.count) (cond marked 1 0 ∷ 64 * g.count ∷ w ∷ []) table
          → Closes r store' (take (256 * g.count) slots ++ (block' ++ drop (256 * g.count + 256 - 256 * g.count) (drop (256 * g.count) slots))) table'
      unfolding append_list_bytes append_list_slots with_leg from_parts
      list_closed store' block' table' es eb et = (
        e,
        (
          es ∙ rw (after, pairs_are, room_still block block_long) refl,
          (
            rw (eb, after, pairs_are, room_still block block_long)
                (part_over (256 * g.count) 256 (list_places g.bytes m.pairs) slots (omega (arith, places_length g.bytes m.pairs, pairs_few)) list_fits.1),
            et ∙ rw (after, count_is, f) refl,
          ),
        ),
      )

-- `close`
module _ (relocates : Bool) (bytes : Text) (places : List ℕ) (n : ℕ) (v : LegStore) (b : Bool) (e : b ≡ can_select (lent_list [] places n) 256) where
  abbrev lent : LentList
  lent = lent_list bytes places n

  abbrev Shuts : Result LegTotals Refusal → Text → List ℕ → List ℕ → Type 0
  Shuts r store slots table = (r ≡ close_reply relocates lent v)
      × ((store ≡ (close_store relocates lent v).store) × ((slots ≡ (close_store relocates lent v).slots) × (table ≡ (close_store relocates lent v).table)))

  damaged : not b ≡ true → count_within_limit lent ≡ false
  unfolding can_select count_within_limit
  damaged h = sym (and_yes (count_within_limit lent)) ∙ known_false e h

  pub close_damaged : not b ≡ true → Shuts (Err TooMany) v.store v.slots v.table
  unfolding close_reply close_store validate_close_of closed_reply closed_store
  close_damaged h = rw (damaged h) (refl, (refl, (refl, refl)))

  module _ (h : not b ≡ false) where
    counts : count_within_limit lent ≡ true
    unfolding can_select count_within_limit
    counts = and_l (count_within_limit lent) (leb 256 256) (known_true e h)

    pub close_as : (mark : Bool) → relocates ≡ mark → (l : List Pair) → l ≡ counted_pairs mark (pairs_of lent) → (r : Result LegTotals Refusal) (store : Text) (slots table : List ℕ)
        → (r ≡ close_list_reply l v) × ((store ≡ (close_list_store mark l v).store) × ((slots ≡ (close_list_store mark l v).slots) × (table ≡ (close_list_store mark l v).table)))
        → Shuts r store slots table
    unfolding close_reply close_store validate_close_of close_list_reply close_list_store
    close_as mark k l f r store slots table g = rw (k, counts, closed_parts mark (pairs_of lent), ← f) g

-- The pairs of either kind of leg.
module _ (bytes : Text) (places : List ℕ) (n : ℕ) where
  pub all_counted : pairs_in bytes places n ≡ counted_pairs false (pairs_in bytes places n)
  unfolding counted_pairs
  all_counted = refl

  module _ (b : Bool) (e : b ≡ can_select (lent_list [] places n) 256) (h : not b ≡ false) (kept : List ℕ) (w room : ℕ) (z : room ≡ 256)
      (f : pairs_in bytes kept w ≡ pairs_if_selectable (lent_list bytes places n) room (active_pairs (pairs_in bytes places n) n)) where
    made : pairs_in bytes kept w ≡ active_pairs (pairs_in bytes places n) n
    made = f ∙ rw z (select_all places n 256 b e h bytes (active_pairs (pairs_in bytes places n) n))

    pub active_counted : pairs_in bytes kept w ≡ counted_pairs true (pairs_in bytes places n)
    unfolding counted_pairs
    active_counted = made ∙ ap (active_pairs (pairs_in bytes places n)) (sym (pairs_in_length bytes places n))

    pub active_held : w ≤ 64
    active_held = omega (arith, pairs_in_length bytes kept w, ap length made, active_few (pairs_in bytes places n) n, select_few places n 256 b e h)
