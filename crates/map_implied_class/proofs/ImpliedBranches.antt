-- Lemmas about the branches of `implied_class`.
use Rattle.std.specs.Prelude.{Result, Ok, Err, ⊤}
use mathlib.Core.Path.{◌≡◌, refl, sym, ap, ◌∙◌}
use mathlib.Core.Bool.{Bool, true, false, not, cond, ◌&&◌, ◌||◌, false≢true}
use mathlib.Core.List.{List, [], ◌∷◌, ◌++◌, map as mapped}
use Prim.Native.Nat.{ℕ, suc, ◌+◌, ◌*◌, ◌-◌, ◌/◌, ◌≤◌, ◌<◌}
use native.Mathlib.Omega.{arith}
use lib.Dec.{eqb, leb}
use lib.ListN.{length, length-append}
use borrow.Author.Tests.{le-leb, lt-leb, leb-true, leb-false}
use Rattle.text.specs.Text.{Text}
use Rattle.text.proofs.BoolLaws.{told, and_l, and_r, and_no, and_yes, known_true, known_false}
use Rattle.path_grammar.specs.Legal.{legal, at_most255}
use Rattle.layer_offset.specs.declared.LayerOffset.{LayerOffset}
use Rattle.layer_offset.specs.Offset.{identity_offset}
use Rattle.pair_list.specs.Pair.{Pair, every_end, all_short}
use Rattle.pair_list.specs.Places.{pairs_in, end_bytes}
use Rattle.pair_list_write.specs.Lists.{list_fits_buffers}
use Rattle.pair_list.proofs.PlaceLaws.{pairs_in_length}
use Rattle.pair_list.proofs.ListLaws.{read_back}
use Rattle.refusal.specs.declared.Refusal.{Refusal}
use Rattle.refusal.specs.declared.Refusal.TheVariants.{TooMany, NoRoom, MadeTooLong, MadeIllegal}
use Rattle.validate.specs.Validate.{lent_list, validate_call, ValidList}
use Rattle.validate.proofs.PassedLaws.{first_sound, second_sound}
use Rattle.map_spec.specs.Map.{Map, lent_map, map_size, map_source_to_target, match_source}
use Rattle.map_spec.specs.New.{from_parts}
use Rattle.map_spec.specs.Compose.{composed_pair, pulled_back, is_empty, is_path_identity, composed_pairs, compose}
use Rattle.map_spec.specs.Derive.{inverse, with_root_identity, implied_class}
use Rattle.map_spec.proofs.EndLaws.{from_parts_length, from_parts_every}
use Rattle.map_function.specs.declared.MapFunction.{MapFunction}
use Rattle.map_function.specs.MapFunction.{is_identity_map, path_is_identity, list_of, map_of}
use Rattle.map_function.specs.MapOutcome.{MapOutcome, map, refused, map_function, map_reply, map_bytes, map_slots, require_list_room, within_limits, without_dropping, from_parts_outcome, count_in_slice}
use Rattle.pair_list_write.specs.Packed.{HoldsList}
use Rattle.pair_buffer.specs.Ends.{require_short, require_legal}
use Rattle.pair_list_write.proofs.PackedLaws.{holds_list}
use Rattle.pair_buffer.proofs.MapLaws.{identity_lent, held_all, no_map}
use Rattle.compose_pairs.specs.ComposePairs.{at_most511, CanCompose}
use Rattle.compose_pairs.proofs.LengthLaws.{short_bounded, composed_bounded, bounded_bytes}
use Rattle.map_compose.specs.Calls.{composed_time}
use Rattle.map_implied_class.specs.Implied.{swapped_pairs, composed_from, inverse_list, class_list, implied_list, implied_lists, all_within64, implied_outcome, ImpliesTo, implied_time, implied_class_call}
use Rattle.map_implied_class.specs.Finish.{finished_map, composed_map, map_of_reply, room_beside_transfer, implied_after_class}
use Rattle.map_implied_class.proofs.ImpliedEnds.{every_append, implied_legal}

-- The list with exchanged ends has the same lengths.
swapped_bytes : (l : List Pair) → end_bytes (swapped_pairs l) ≡ end_bytes l
unfolding end_bytes
swapped_bytes [] = refl
swapped_bytes (x ∷ l) = omega (arith, swapped_bytes l)

swapped_number : (l : List Pair) → length (swapped_pairs l) ≡ length l
swapped_number [] = refl
swapped_number (x ∷ l) = ap suc (swapped_number l)

swapped_short : (l : List Pair) → all_short l ≡ true → all_short (swapped_pairs l) ≡ true
unfolding all_short every_end
swapped_short [] e = refl
swapped_short (x ∷ l) e =
    let s : at_most255 x.source ≡ true = search (and_l, and_r) in
    let t : at_most255 x.target ≡ true = search (and_l, and_r) in
    rw (s, t) (swapped_short l (search (and_l, and_r)))

-- `finish_map`: with sufficient capacity nothing is refused.
module _ (store : Text) (places : List ℕ) (n : ℕ) (mark : Bool) (out : Text) (slots : List ℕ) (few : n ≤ 64) (there : 4 * n ≤ length places)
    (room : list_fits_buffers (pairs_in store places n) out slots ≡ true) (whole : Bool) where
  finished_limited : (m : Map) → count_in_slice (lent_list store places n) (within_limits (pairs_in store places n) m identity_offset out slots) ≡ map m identity_offset
  unfolding count_in_slice within_limits require_list_room
  finished_limited m = rw (room, le-leb n (length places / 4) (omega arith), pairs_in_length store places n, le-leb n 64 few) refl

  pub finished_whole : whole ≡ true → count_in_slice (lent_list store places n) (without_dropping (pairs_in store places n) mark identity_offset out slots) ≡ map (finished_map whole (pairs_in store places n) mark) identity_offset
  unfolding without_dropping finished_map
  finished_whole e = finished_limited (record { pairs = pairs_in store places n; mark = mark }) ∙ rw e refl

  pub finished_parts : whole ≡ false → count_in_slice (lent_list store places n) (from_parts_outcome (pairs_in store places n) mark identity_offset out slots) ≡ map (finished_map whole (pairs_in store places n) mark) identity_offset
  unfolding from_parts_outcome finished_map
  finished_parts e = finished_limited (from_parts (pairs_in store places n) mark) ∙ rw e refl

pub finish_done : (o : MapOutcome) (m : Map) → o ≡ map m identity_offset → (reply : Result MapFunction Refusal) (r : MapFunction) (out out' : Text) (slots slots' : List ℕ)
    → (reply ≡ map_reply o) × ((out' ≡ map_bytes o out) × (slots' ≡ map_slots o slots)) → r ≡ map_of_reply reply
    → (r ≡ map_function m identity_offset) × ((out' ≡ map_bytes (map m identity_offset) out) × (slots' ≡ map_slots (map m identity_offset) slots))
unfolding map_reply
finish_done o m e reply r out out' slots slots' w f =
    let v : (reply ≡ map_reply (map m identity_offset)) × ((out' ≡ map_bytes (map m identity_offset) out) × (slots' ≡ map_slots (map m identity_offset) slots)) = rw e at w in
    (f ∙ ap map_of_reply v.0, v.1)

-- A written map is read back.
pub lent_back : (m : Map) (r : MapFunction) (out out' : Text) (slots slots' : List ℕ) → r ≡ map_function m identity_offset → out' ≡ map_bytes (map m identity_offset) out
    → slots' ≡ map_slots (map m identity_offset) slots → map_of out' slots' r ≡ m
unfolding map_bytes map_slots
lent_back m r out out' slots slots' e f g = rw (e, f, g, read_back m.pairs out slots) refl

-- `invert`
module _ (store : Text) (places own : List ℕ) (n : ℕ) (c : pairs_in store own n ≡ swapped_pairs (pairs_in store places n)) where
  pub invert_room : (out : Text) (slots : List ℕ) → n ≤ 64 → all_short (pairs_in store places n) ≡ true → 65408 ≤ length out → 256 ≤ length slots
      → list_fits_buffers (pairs_in store own n) out slots ≡ true
  unfolding list_fits_buffers
  invert_room out slots few e h k =
      let b : end_bytes (pairs_in store places n) ≤ 1022 * n = rw (pairs_in_length store places n) at (bounded_bytes (pairs_in store places n) (short_bounded (pairs_in store places n) e)) in
      rw (
        c,
        swapped_bytes (pairs_in store places n),
        swapped_number (pairs_in store places n),
        pairs_in_length store places n,
        le-leb (end_bytes (pairs_in store places n)) (length out) (omega arith),
        le-leb n (length slots / 4) (omega arith),
      ) refl

  pub inverted : (mark : Bool) (r : MapFunction) (out out' : Text) (slots slots' : List ℕ)
      → (r ≡ map_function (finished_map false (pairs_in store own n) mark) identity_offset)
      × ((out' ≡ map_bytes (map (finished_map false (pairs_in store own n) mark) identity_offset) out) × (slots' ≡ map_slots (map (finished_map false (pairs_in store own n) mark) identity_offset) slots))
      → map_of out' slots' r ≡ inverse (lent_map store places n mark)
  unfolding finished_map inverse
  inverted mark r out out' slots slots' w =
      lent_back (from_parts (pairs_in store own n) mark) r out out' slots slots' w.0 w.1.0 w.1.1 ∙ ap (λ (l : List Pair). from_parts l mark) c

-- `compose_list`
pub leaves_lent : (store : Text) (places : List ℕ) (f : MapFunction) → is_path_identity (map_of store places f) ≡ path_is_identity f
unfolding path_is_identity
leaves_lent store places f = identity_lent store places f.count f.has_root_identity

-- The identity on paths maps every pair to itself.
abbrev mark_alone : Map
mark_alone = record { pairs = []; mark = true }

copied_pair : (s t : Text) → composed_pair mark_alone (record { source = s; target = t }) ≡ record { source = s; target = t }
unfolding composed_pair map_source_to_target match_source
copied_pair s [] = refl
copied_pair s (a ∷ t) = refl

copied_list : (l : List Pair) → mapped (composed_pair mark_alone) l ≡ l
copied_list [] = refl
copied_list (x ∷ l) = rw (copied_pair x.source x.target, copied_list l) refl

copied_pairs : (l : List Pair) (mark : Bool) (inner : Map) → is_path_identity (record { pairs = l; mark = mark }) ≡ true
    → composed_pairs (record { pairs = l; mark = mark }) inner ≡ inner.pairs
unfolding composed_pairs pulled_back
copied_pairs [] true inner e = copied_list inner.pairs
copied_pairs [] false inner e = absurd (false≢true e)
copied_pairs (x ∷ l) mark inner e = absurd (false≢true e)

no_pairs : (l : List Pair) (mark : Bool) → (is_empty l && mark) ≡ true → l ≡ []
no_pairs [] mark e = refl
no_pairs (x ∷ l) mark e = absurd (false≢true e)

module _ (store : Text) (places : List ℕ) (outer : MapFunction) (istore : Text) (iplaces : List ℕ) (inner : MapFunction) (n at : ℕ) (bytes : Text) (own : List ℕ)
    (b : Bool) (h : b ≡ path_is_identity inner) where
  abbrev o : Map
  o = map_of store places outer

  abbrev i : Map
  i = map_of istore iplaces inner

  is_identity_lem : is_path_identity i ≡ b
  is_identity_lem = leaves_lent istore iplaces inner ∙ sym h

  from_other : b ≡ true → composed_from o i ≡ composed_pairs i o
  unfolding composed_from
  from_other k =
      let e : is_path_identity i ≡ true = is_identity_lem ∙ k in
      rw (e, copied_pairs i.pairs i.mark o e) (go (is_path_identity o) refl e)
    where
      go : (c : Bool) → is_path_identity o ≡ c → is_path_identity i ≡ true → cond c i.pairs o.pairs ≡ o.pairs
      go true f e = no_pairs i.pairs i.mark e ∙ sym (no_pairs o.pairs o.mark f)
      go false f e = refl

  from_both : b ≡ false → composed_from o i ≡ composed_pairs o i
  unfolding composed_from
  from_both k = rw (is_identity_lem, k) (go (is_path_identity o) refl)
    where
      go : (c : Bool) → is_path_identity o ≡ c → cond c i.pairs (composed_pairs o i) ≡ composed_pairs o i
      go true f = sym (copied_pairs o.pairs o.mark i f)
      go false f = refl

  pub build_other : b ≡ true → HoldsList (composed_pairs i o) n at bytes own → HoldsList (composed_from o i) n at bytes own
  build_other k c = rw (from_other k) c

  pub build_both : b ≡ false → HoldsList (composed_pairs o i) n at bytes own → HoldsList (composed_from o i) n at bytes own
  build_both k c = rw (from_both k) c

-- `either_is_identity`
-- `finish_composed`
pub composed_finished : (outer inner : MapFunction) (l : List Pair) (whole mark : Bool) → whole ≡ (path_is_identity outer || path_is_identity inner)
    → mark ≡ (outer.has_root_identity && inner.has_root_identity) → (r : MapFunction) (out out' : Text) (slots slots' : List ℕ)
    → (r ≡ map_function (finished_map whole l mark) identity_offset) × ((out' ≡ map_bytes (map (finished_map whole l mark) identity_offset) out) × (slots' ≡ map_slots (map (finished_map whole l mark) identity_offset) slots))
    → (r ≡ map_function (composed_map outer inner l) identity_offset)
    × ((out' ≡ map_bytes (map (composed_map outer inner l) identity_offset) out) × (slots' ≡ map_slots (map (composed_map outer inner l) identity_offset) slots))
unfolding composed_map
composed_finished outer inner l whole mark e f r out out' slots slots' w = rw (← e, ← f) w

identity_mark : (f : MapFunction) → path_is_identity f ≡ true → f.has_root_identity ≡ true
unfolding path_is_identity
identity_mark f e = and_r (eqb f.count 0) f.has_root_identity e

-- The composed map is built from the list that composing starts from.
composed_of : (store : Text) (places : List ℕ) (outer : MapFunction) (istore : Text) (iplaces : List ℕ) (inner : MapFunction)
    → compose (map_of store places outer) (map_of istore iplaces inner)
    ≡ composed_map outer inner (composed_from (map_of store places outer) (map_of istore iplaces inner))
unfolding compose composed_map composed_from finished_map
composed_of store places outer istore iplaces inner =
    rw (leaves_lent store places outer, leaves_lent istore iplaces inner) (go (path_is_identity outer) (path_is_identity inner) refl refl)
  where
    o : Map
    o = map_of store places outer

    i : Map
    i = map_of istore iplaces inner

    go : (a b : Bool) → path_is_identity outer ≡ a → path_is_identity inner ≡ b
        → cond a i (cond b o (from_parts (composed_pairs o i) (o.mark && i.mark)))
        ≡ cond (a || b) (record { pairs = cond a i.pairs (cond b o.pairs (composed_pairs o i)); mark = o.mark && i.mark })
        (from_parts (cond a i.pairs (cond b o.pairs (composed_pairs o i))) (o.mark && i.mark))
    go true b e f = rw (identity_mark outer e) refl
    go false true e f = rw (identity_mark inner f, and_yes outer.has_root_identity) refl
    go false false e f = refl

-- `has_room_beside`
module _ (l : List Pair) (n k k' at at' room slots : ℕ) (e : length l ≡ n) where
  abbrev beside : Bool
  beside = room_beside_transfer l (k + k') (at + at') room slots

  over_room : room < end_bytes l + (at + at') → false ≡ beside
  unfolding room_beside_transfer
  over_room h = rw (lt-leb (end_bytes l + (at + at')) room h) refl

  pub place_slots : slots / 4 < n + (k + k') → false ≡ beside
  unfolding room_beside_transfer
  place_slots h = rw (e, lt-leb (n + (k + k')) (slots / 4) h) (sym (and_no (leb (end_bytes l + (at + at')) room)))

  pub place_first : room < at → false ≡ beside
  place_first h = over_room (omega arith)

  pub place_second : at ≤ room → room - at < at' → false ≡ beside
  place_second h g = over_room (omega arith)

  pub place_rest : n + (k + k') ≤ slots / 4 → at ≤ room → at' ≤ room - at → (r : Bool) → r ≡ leb (end_bytes l) (room - at - at') → r ≡ beside
  unfolding room_beside_transfer
  place_rest h g f r q = q ∙ go (leb (end_bytes l) (room - at - at')) refl
    where
      go : (b : Bool) → leb (end_bytes l) (room - at - at') ≡ b → b ≡ (leb (end_bytes l + (at + at')) room && leb (length l + (k + k')) (slots / 4))
      go true z = rw (e, le-leb (n + (k + k')) (slots / 4) h, le-leb (end_bytes l + (at + at')) room (omega (arith, leb-true (end_bytes l) (room - at - at') z))) refl
      go false z = rw (lt-leb (end_bytes l + (at + at')) room (omega (arith, leb-false (end_bytes l) (room - at - at') z))) refl

-- `finish`
module _ (store : Text) (places : List ℕ) (transfer : MapFunction) (mid : Text) (mids : List ℕ) (class : MapFunction) (n at : ℕ) (short : Bool) (time : LayerOffset)
    (out : Text) (slots : List ℕ) (k end : ℕ) (bytes : Text) (own : List ℕ) where
  abbrev t : Map
  t = map_of store places transfer

  abbrev m : Map
  m = map_of mid mids class

  abbrev all : MapOutcome
  all = implied_after_class t m n at short time out slots

  module _ (c : HoldsList (composed_from t m) k end bytes own) where
    pub finish_many : 64 < k → all ≡ refused TooMany
    unfolding implied_after_class
    finish_many h = rw (← c.number, lt-leb k 64 h) refl

    module _ (few : k ≤ 64) (b : Bool) (e : b ≡ room_beside_transfer t.pairs (n + k) (at + end) (length out) (length slots)) where
      there : b ≡ room_beside_transfer t.pairs (n + length (composed_from t m)) (at + end_bytes (composed_from t m)) (length out) (length slots)
      there = rw (← c.number, ← c.end) e

      pub finish_room : not b ≡ true → all ≡ refused NoRoom
      unfolding implied_after_class
      finish_room h = rw (known_false there h, ← c.number, le-leb k 64 few) refl

      module _ (h : not b ≡ false) where
        shorts : (short && all_short (pairs_in bytes own k)) ≡ (short && all_short (composed_from t m))
        shorts = ap (λ (x : List Pair). short && all_short x) (holds_list (composed_from t m) k end bytes own c)

        pub finish_long : (short && all_short (pairs_in bytes own k)) ≡ false → all ≡ refused MadeTooLong
        unfolding implied_after_class
        finish_long l = rw (told shorts l, known_true there h, ← c.number, le-leb k 64 few) refl

        pub finish_fits : list_fits_buffers (pairs_in bytes own k) out slots ≡ true
        unfolding list_fits_buffers room_beside_transfer
        finish_fits =
            let z : pairs_in bytes own k ≡ composed_from t m = holds_list (composed_from t m) k end bytes own c in
            let w : (leb (end_bytes t.pairs + (at + end)) (length out) && leb (length t.pairs + (n + k)) (length slots / 4)) ≡ true = known_true e h in
            let x : end_bytes t.pairs + (at + end) ≤ length out = leb-true (end_bytes t.pairs + (at + end)) (length out) (and_l (leb (end_bytes t.pairs + (at + end)) (length out)) (leb (length t.pairs + (n + k)) (length slots / 4)) w) in
            let y : length t.pairs + (n + k) ≤ length slots / 4 = leb-true (length t.pairs + (n + k)) (length slots / 4) (and_r (leb (end_bytes t.pairs + (at + end)) (length out)) (leb (length t.pairs + (n + k)) (length slots / 4)) w) in
            rw (
              z,
              le-leb (end_bytes (composed_from t m)) (length out) (omega (arith, c.end, x)),
              le-leb (length (composed_from t m)) (length slots / 4) (omega (arith, c.number, y)),
            ) refl

        pub finish_made : (short && all_short (pairs_in bytes own k)) ≡ true → (r : MapFunction) (out' : Text) (slots' : List ℕ)
            → (r ≡ map_function (composed_map transfer class (pairs_in bytes own k)) identity_offset)
            × ((out' ≡ map_bytes (map (composed_map transfer class (pairs_in bytes own k)) identity_offset) out) × (slots' ≡ map_slots (map (composed_map transfer class (pairs_in bytes own k)) identity_offset) slots))
            → (Ok (record { count = r.count; has_root_identity = true; time_offset = time }) ≡ map_reply all) × ((out' ≡ map_bytes all out) × (slots' ≡ map_slots all slots))
        unfolding implied_after_class map_reply map_bytes map_slots with_root_identity
        finish_made l r out' slots' w =
            let y : compose t m ≡ composed_map transfer class (pairs_in bytes own k)
            = composed_of store places transfer mid mids class ∙ ap (λ (x : List Pair). composed_map transfer class x) (sym (holds_list (composed_from t m) k end bytes own c)) in
            let z : all ≡ map (with_root_identity (composed_map transfer class (pairs_in bytes own k))) time
            = rw (told shorts l, known_true there h, ← c.number, le-leb k 64 few, y) refl in
            rw z (rw w.0 refl, (w.1.0, w.1.1))

pub time_twice : (t c a b : LayerOffset) → a ≡ composed_time c identity_offset → b ≡ composed_time t a → b ≡ composed_time t (composed_time c identity_offset)
time_twice t c a b e f = f ∙ ap (λ (x : LayerOffset). composed_time t x) e

-- A list appended to another.
end_append : (a b : List Pair) → end_bytes (a ++ b) ≡ end_bytes a + end_bytes b
unfolding end_bytes
end_append [] b = omega arith
end_append (x ∷ a) b = omega (arith, end_append a b)

short_append : (a b : List Pair) → all_short (a ++ b) ≡ (all_short a && all_short b)
unfolding all_short
short_append = every_append at_most255

-- Building the map adds no pair and no end.
finished_few : (whole : Bool) (l : List Pair) (mark : Bool) → length (finished_map whole l mark).pairs ≤ length l
unfolding finished_map
finished_few true l mark = omega arith
finished_few false l mark = from_parts_length l mark

finished_every : (passes : Text → Bool) (whole : Bool) (l : List Pair) (mark : Bool) → every_end passes l ≡ true → every_end passes (finished_map whole l mark).pairs ≡ true
unfolding finished_map
finished_every passes true l mark e = e
finished_every passes false l mark e = from_parts_every passes l mark e

-- `implied_in`
module _ (store : Text) (places : List ℕ) (transfer : MapFunction) (cstore : Text) (cplaces : List ℕ) (class : MapFunction)
    (vt : ValidList (list_of store places transfer)) (vc : ValidList (list_of cstore cplaces class))
    (mid : Text) (mids : List ℕ) (back : MapFunction) (e : map_of mid mids back ≡ inverse (map_of store places transfer)) where
  abbrev tr : Map
  tr = map_of store places transfer

  abbrev cl : Map
  cl = map_of cstore cplaces class

  abbrev bk : Map
  bk = map_of mid mids back

  back_few : back.count ≤ 64
  unfolding inverse
  back_few =
      omega (
        arith,
        vt.few,
        pairs_in_length mid mids back.count,
        ap map_size e,
        from_parts_length (swapped_pairs tr.pairs) tr.mark,
        swapped_number tr.pairs,
        pairs_in_length store places transfer.count,
      )

  back_short : all_short bk.pairs ≡ true
  unfolding inverse all_short
  back_short = ap (λ (x : Map). all_short x.pairs) e ∙ from_parts_every at_most255 (swapped_pairs tr.pairs) tr.mark (swapped_short tr.pairs vt.shorts)

  back_bounded : every_end at_most511 bk.pairs ≡ true
  back_bounded = short_bounded bk.pairs back_short

  pub back_composes : (bytes : Text) (own : List ℕ) → 196352 ≤ length bytes → 512 ≤ length own → CanCompose cl.pairs bk.pairs (back.count + class.count) bytes own
  back_composes bytes own h g = record {
    outer_ends = short_bounded cl.pairs vc.shorts;
    inner_ends = back_bounded;
    scratch = record { room = omega (arith, back_few, vc.few); entries = omega (arith, back_few, vc.few) };
  }

  module _ (k end : ℕ) (bytes : Text) (own : List ℕ) (c : HoldsList (composed_from cl bk) k end bytes own) where
    list_is : class_list tr cl ≡ composed_from cl bk
    unfolding class_list
    list_is = ap (λ (x : Map). composed_from cl x) (sym e)

    class_bounded : every_end at_most511 (composed_from cl bk) ≡ true
    unfolding composed_from
    class_bounded = go (is_path_identity cl) (is_path_identity bk)
      where
        go : (a b : Bool) → every_end at_most511 (cond a bk.pairs (cond b cl.pairs (composed_pairs cl bk))) ≡ true
        go true b = back_bounded
        go false true = short_bounded cl.pairs vc.shorts
        go false false = composed_bounded cl bk vc.shorts back_short

    built : pairs_in bytes own k ≡ composed_from cl bk
    built = holds_list (composed_from cl bk) k end bytes own c

    pub implied_many : (time : LayerOffset) (out : Text) (slots : List ℕ) → 64 < k → implied_outcome tr cl time out slots ≡ refused TooMany
    unfolding implied_outcome
    implied_many time out slots h = rw (list_is, ← c.number, lt-leb k 64 h, and_no (leb (length (inverse_list tr)) 64)) refl

    module _ (small : k ≤ 64) where
      pub class_room : 65408 ≤ length mid → 256 ≤ length mids → list_fits_buffers (pairs_in bytes own k) mid mids ≡ true
      unfolding list_fits_buffers
      class_room h g =
          rw (
            built,
            ← c.number,
            le-leb (end_bytes (composed_from cl bk)) (length mid) (omega (arith, bounded_bytes (composed_from cl bk) class_bounded, c.number)),
            le-leb k (length mids / 4) (omega arith),
          ) refl

      module _ (part : MapFunction) (mid' : Text) (mids' : List ℕ)
          (w : (part ≡ map_function (composed_map class back (pairs_in bytes own k)) identity_offset)
          × ((mid' ≡ map_bytes (map (composed_map class back (pairs_in bytes own k)) identity_offset) mid) × (mids' ≡ map_slots (map (composed_map class back (pairs_in bytes own k)) identity_offset) mids))) where
        part_of : map_of mid' mids' part ≡ composed_map class back (composed_from cl bk)
        part_of =
            lent_back (composed_map class back (pairs_in bytes own k)) part mid mid' mids mids' w.0 w.1.0 w.1.1 ∙ ap (λ (x : List Pair). composed_map class back x) built

        part_is : map_of mid' mids' part ≡ compose cl (inverse tr)
        part_is = part_of ∙ sym (composed_of cstore cplaces class mid mids back) ∙ ap (λ (x : Map). compose cl x) e

        part_few : part.count ≤ 64
        unfolding composed_map
        part_few =
            omega (
              arith,
              pairs_in_length mid' mids' part.count,
              ap map_size part_of,
              finished_few (path_is_identity class || path_is_identity back) (composed_from cl bk) (class.has_root_identity && back.has_root_identity),
              c.number,
            )

        part_bounded : every_end at_most511 (pairs_in mid' mids' part.count) ≡ true
        unfolding composed_map
        part_bounded =
            ap (λ (x : Map). every_end at_most511 x.pairs) part_of
            ∙ finished_every at_most511 (path_is_identity class || path_is_identity back) (composed_from cl bk) (class.has_root_identity && back.has_root_identity) class_bounded

        pub part_composes : (bytes : Text) (own : List ℕ) → 196352 ≤ length bytes → 512 ≤ length own
            → CanCompose tr.pairs (pairs_in mid' mids' part.count) (part.count + transfer.count) bytes own
        part_composes bytes own h g = record {
          outer_ends = short_bounded tr.pairs vt.shorts;
          inner_ends = part_bounded;
          scratch = record { room = omega (arith, part_few, vt.few); entries = omega (arith, part_few, vt.few) };
        }

        abbrev last : List Pair
        last = composed_from tr (compose cl (inverse tr))

        all_bytes : end_bytes (inverse_list tr ++ (composed_from cl bk ++ last)) ≡ end_bytes tr.pairs + (end + end_bytes last)
        all_bytes =
            omega (
              arith,
              end_append (inverse_list tr) (composed_from cl bk ++ last),
              end_append (composed_from cl bk) last,
              swapped_bytes tr.pairs,
              c.end,
            )

        all_number : length (inverse_list tr ++ (composed_from cl bk ++ last)) ≡ length tr.pairs + (k + length last)
        all_number =
            omega (
              arith,
              length-append (inverse_list tr) (composed_from cl bk ++ last),
              length-append (composed_from cl bk) last,
              swapped_number tr.pairs,
              c.number,
            )

        first_few : leb (length (inverse_list tr)) 64 ≡ true
        first_few = le-leb (length (inverse_list tr)) 64 (omega (arith, vt.few, swapped_number tr.pairs, pairs_in_length store places transfer.count))

        implied_last : (time : LayerOffset) (out : Text) (slots : List ℕ)
            → implied_outcome tr cl time out slots ≡ implied_after_class tr (compose cl (inverse tr)) k end (all_short (composed_from cl bk)) time out slots
        unfolding implied_outcome implied_after_class require_list_room list_fits_buffers require_short require_legal room_beside_transfer implied_class implied_list
        implied_last time out slots =
            rw (implied_legal tr cl vt.ends vc.ends, list_is, all_bytes, all_number, short_append (composed_from cl bk) last, first_few, ← c.number, le-leb k 64 small) refl

        pub implied_rest : (short : Bool) → short ≡ all_short (pairs_in bytes own k)
            → (time : LayerOffset) → time ≡ implied_time transfer class → (out : Text) (slots : List ℕ)
            → implied_outcome tr cl (implied_time transfer class) out slots ≡ implied_after_class tr (map_of mid' mids' part) k end short time out slots
        implied_rest short f time g out slots =
            implied_last (implied_time transfer class) out slots
            ∙ ap (λ (x : Map). implied_after_class tr x k end (all_short (composed_from cl bk)) (implied_time transfer class) out slots) (sym part_is)
            ∙ ap (λ (x : Bool). implied_after_class tr (map_of mid' mids' part) k end x (implied_time transfer class) out slots) (sym (f ∙ ap all_short built))
            ∙ ap (λ (x : LayerOffset). implied_after_class tr (map_of mid' mids' part) k end short x out slots) (sym g)

-- `implied_class`
module _ (store : Text) (places : List ℕ) (transfer : MapFunction) (cstore : Text) (cplaces : List ℕ) (class : MapFunction) (out : Text) (slots : List ℕ)
    (q : Result ⊤ Refusal) (h : q ≡ validate_call (list_of store places transfer ∷ list_of cstore cplaces class ∷ []) [] []) where
  abbrev call : MapOutcome
  call = implied_class_call store places transfer cstore cplaces class out slots

  pub implied_refused : (x : Refusal) → q ≡ Err x → call ≡ refused x
  unfolding implied_class_call
  implied_refused x k = rw (← h, k) refl

  module _ (k : q ≡ Ok tt) where
    pub transfer_sound : ValidList (list_of store places transfer)
    transfer_sound = first_sound (list_of store places transfer) (list_of cstore cplaces class ∷ []) [] [] (sym h ∙ k)

    pub class_sound : ValidList (list_of cstore cplaces class)
    class_sound = second_sound (list_of store places transfer) (list_of cstore cplaces class) [] [] [] (sym h ∙ k)

    module _ (b : Bool) (e : b ≡ is_identity_map transfer) where
      pub implied_same : b ≡ true
          → call ≡ count_in_slice (list_of cstore cplaces class) (without_dropping (pairs_in cstore cplaces class.count) class.has_root_identity class.time_offset out slots)
      unfolding implied_class_call
      implied_same g =
          rw (← h, k, ← e, g)
          (sym (held_all cstore cplaces class.count (without_dropping (pairs_in cstore cplaces class.count) class.has_root_identity class.time_offset out slots) class_sound.held))

      pub implied_other : b ≡ false → call ≡ implied_outcome (map_of store places transfer) (map_of cstore cplaces class) (implied_time transfer class) out slots
      unfolding implied_class_call
      implied_other g = rw (← h, k, ← e, g) refl

-- A map that the call returns is the implied class map.
pub implies_to : ImpliesTo
unfolding implied_outcome require_list_room require_short require_legal
implies_to transfer class m time t out slots e =
    go (all_within64 (implied_lists transfer class)) (list_fits_buffers (inverse_list transfer ++ (class_list transfer class ++ implied_list transfer class)) out slots)
    (all_short (class_list transfer class ++ implied_list transfer class)) (every_end legal (class_list transfer class ++ implied_list transfer class)) e
  where
    go : (a b c d : Bool)
        → cond a (cond b (cond c (cond d (map (implied_class transfer class) time) (refused MadeIllegal)) (refused MadeTooLong)) (refused NoRoom)) (refused TooMany) ≡ map m t
        → m ≡ implied_class transfer class
    go true true true true e = cc
    go true true true false e = absurd (no_map m t MadeIllegal e)
    go true true false d e = absurd (no_map m t MadeTooLong e)
    go true false c d e = absurd (no_map m t NoRoom e)
    go false b c d e = absurd (no_map m t TooMany e)
