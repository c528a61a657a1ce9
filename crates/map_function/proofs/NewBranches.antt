-- Lemmas for the branches of `from_parts` and `without_dropping`.
use Rattle.std.specs.Prelude.{Result, Ok, Err, Option, Some, None}
use mathlib.Core.Path.{◌≡◌, refl, sym, ap, ◌∙◌}
use mathlib.Core.Bool.{Bool, true, false, not, cond, ◌||◌}
use mathlib.Core.List.{List, [], ◌∷◌}
use Prim.Native.Nat.{ℕ, ◌+◌, ◌/◌, ◌≤◌, ◌<◌}
use native.Mathlib.Omega.{arith}
use lib.Dec.{leb}
use lib.ListN.{length}
use borrow.Author.Tests.{le-leb, lt-leb, leb-true}
use Rattle.text.specs.Text.{Text}
use Rattle.text.proofs.BoolLaws.{and_no, known_false, known_true}
use Rattle.layer_offset.specs.declared.LayerOffset.{LayerOffset}
use Rattle.pair_list.specs.Pair.{Pair}
use Rattle.pair_list.specs.Places.{pairs_in, end_bytes}
use Rattle.pair_list_write.specs.Lists.{list_fits_buffers, write_list_reply, write_list_bytes, write_list_slots}
use Rattle.pair_list.proofs.PlaceLaws.{pairs_in_length}
use Rattle.refusal.specs.declared.Refusal.{Refusal}
use Rattle.refusal.specs.declared.Refusal.TheVariants.{TooMany, NoRoom}
use Rattle.validate.specs.Validate.{lent_list}
use Rattle.map_spec.specs.New.{without_root_pairs, any_root_pair, canonicalize, from_parts}
use Rattle.map_spec.proofs.WeightLaws.{weight, from_parts_weight}
use Rattle.map_spec.proofs.EndLaws.{from_parts_length}
use Rattle.validate.specs.Select.{pairs_if_selectable}
use Rattle.map_function.specs.MapOutcome.{MapOutcome, map, refused, map_reply, map_bytes, map_slots, require_list_room, within_limits, count_in_slice, without_dropping, from_parts_outcome, ReturnsMap}
use Rattle.map_canonical.proofs.KeepBranches.{pairs_made}
use Rattle.map_function.specs.declared.MapFunction.{MapFunction}

-- The reply of a call that builds a map and the contents of the buffers, once its outcome is known.
pub refusing_map : (o : MapOutcome) (x : Refusal) → o ≡ refused x → (out : Text) (slots : List ℕ)
    → (Err x ≡ map_reply o) × ((out ≡ map_bytes o out) × (slots ≡ map_slots o slots))
unfolding map_reply map_bytes map_slots
refusing_map o x e out slots = rw e (refl, (refl, refl))

-- Lemmas for `from_parts`.
end_bytes_weight : (l : List Pair) → end_bytes l ≡ weight (λ (x : Pair). length x.source + length x.target) l
unfolding end_bytes weight
end_bytes_weight [] = refl
end_bytes_weight (x ∷ l) = ap (λ (k : ℕ). length x.source + length x.target + k) (end_bytes_weight l)

pub from_parts_bytes : (l : List Pair) (mark : Bool) → end_bytes (from_parts l mark).pairs ≤ end_bytes l
from_parts_bytes l mark =
    omega (arith, end_bytes_weight l, end_bytes_weight (from_parts l mark).pairs, from_parts_weight (λ (x : Pair). length x.source + length x.target) l mark)

module _ (store : Text) (places : List ℕ) (n : ℕ) (mark : Bool) (time : LayerOffset) (out : Text) (slots : List ℕ) where
  abbrev list : List Pair
  list = pairs_in store places n

  abbrev call : MapOutcome
  call = count_in_slice (lent_list store places n) (from_parts_outcome list mark time out slots)

  abbrev copy : MapOutcome
  copy = count_in_slice (lent_list store places n) (without_dropping list mark time out slots)

  -- A list that is too long is refused, whatever the outcome otherwise.
  many : (o : MapOutcome) → 64 < n → count_in_slice (lent_list store places n) (cond (leb (length list) 64) o (refused TooMany)) ≡ refused TooMany
  unfolding count_in_slice
  many o h = rw (pairs_in_length store places n, lt-leb n 64 h) (same (leb n (length places / 4)))
    where
      same : (b : Bool) → cond b (refused TooMany) (refused TooMany) ≡ refused TooMany
      same true = refl
      same false = refl

  pub parts_many : 64 < n → call ≡ refused TooMany
  unfolding from_parts_outcome within_limits
  parts_many h = many (require_list_room list out slots (map (from_parts list mark) time)) h

  pub copy_many : 64 < n → copy ≡ refused TooMany
  unfolding without_dropping within_limits
  copy_many h = many (require_list_room list out slots (map (record { pairs = list; mark = mark }) time)) h

  pub parts_beyond : length places / 4 < n → call ≡ refused TooMany
  unfolding count_in_slice
  parts_beyond h = rw (lt-leb n (length places / 4) h) refl

  pub copy_beyond : length places / 4 < n → copy ≡ refused TooMany
  unfolding count_in_slice
  copy_beyond h = rw (lt-leb n (length places / 4) h) refl

  module _ (few : n ≤ 64) (h : n ≤ length places / 4) where
    copy_room : copy ≡ cond (list_fits_buffers list out slots) (map (record { pairs = list; mark = mark }) time) (refused NoRoom)
    unfolding count_in_slice without_dropping within_limits require_list_room
    copy_room = rw (le-leb n (length places / 4) h, pairs_in_length store places n, le-leb n 64 few) refl

    module _ (f : Option ℕ) (e : f ≡ write_list_reply list out slots) where
      pub copy_over : (out' : Text) (slots' : List ℕ) → f ≡ None → out' ≡ write_list_bytes list out slots → slots' ≡ write_list_slots list out slots
          → (Err NoRoom ≡ map_reply copy) × ((out' ≡ map_bytes copy out) × (slots' ≡ map_slots copy slots))
      unfolding write_list_reply write_list_bytes write_list_slots map_reply map_bytes map_slots
      copy_over out' slots' o p q = go (list_fits_buffers list out slots) refl
        where
          go : (b : Bool) → list_fits_buffers list out slots ≡ b → (Err NoRoom ≡ map_reply copy) × ((out' ≡ map_bytes copy out) × (slots' ≡ map_slots copy slots))
          go true z = absurd (let y : None ≡ Some (length list) = sym o ∙ e ∙ rw z refl in let x : ◌≡◌ {A = ℕ} 0 1 = cc in omega arith)
          go false z = rw (copy_room, z) (refl, (p ∙ rw z refl, q ∙ rw z refl))

      pub copy_made : (w : ℕ) (out' : Text) (slots' : List ℕ) → f ≡ Some w → out' ≡ write_list_bytes list out slots → slots' ≡ write_list_slots list out slots
          → (Ok (record { count = w; has_root_identity = mark; time_offset = time }) ≡ map_reply copy) × ((out' ≡ map_bytes copy out) × (slots' ≡ map_slots copy slots))
      unfolding write_list_reply write_list_bytes write_list_slots map_reply map_bytes map_slots
      copy_made w out' slots' o p q = go (list_fits_buffers list out slots) refl
        where
          go : (b : Bool) → list_fits_buffers list out slots ≡ b
              → (Ok (record { count = w; has_root_identity = mark; time_offset = time }) ≡ map_reply copy) × ((out' ≡ map_bytes copy out) × (slots' ≡ map_slots copy slots))
          go true z =
              let y : Some w ≡ Some (length list) = sym o ∙ e ∙ rw z refl in
              let x : w ≡ length list = cc in
              rw (copy_room, z) (rw x refl, (p ∙ rw z refl, q ∙ rw z refl))
          go false z = absurd (let y : Some w ≡ None = sym o ∙ e ∙ rw z refl in let x : ◌≡◌ {A = ℕ} 0 1 = cc in omega arith)

    validated_room : call ≡ cond (list_fits_buffers list out slots) (map (from_parts list mark) time) (refused NoRoom)
    unfolding count_in_slice from_parts_outcome within_limits require_list_room
    validated_room = rw (le-leb n (length places / 4) h, pairs_in_length store places n, le-leb n 64 few) refl

    pub parts_slots : length slots / 4 < n → call ≡ refused NoRoom
    unfolding list_fits_buffers
    parts_slots h = validated_room ∙ rw (pairs_in_length store places n, lt-leb n (length slots / 4) h, and_no (leb (end_bytes list) (length out))) refl

    module _ (fit : n ≤ length slots / 4) (b : Bool) (e : b ≡ leb (end_bytes list) (length out)) where
      pub parts_bytes : not b ≡ true → call ≡ refused NoRoom
      unfolding list_fits_buffers
      parts_bytes k = validated_room ∙ rw (known_false e k) refl

      module _ (k : not b ≡ false) (marked : Bool) (f : marked ≡ (mark || any_root_pair list)) (room : ℕ) (enough : room ≡ 256) (kept : List ℕ) (w : ℕ)
          (c : pairs_in store kept w ≡ pairs_if_selectable (lent_list store places n) room (canonicalize marked (without_root_pairs list))) where
        has_room : list_fits_buffers list out slots ≡ true
        unfolding list_fits_buffers
        has_room = rw (known_true e k, pairs_in_length store places n, le-leb n (length slots / 4) fit) refl

        mark_is : marked ≡ (from_parts list mark).mark
        unfolding from_parts
        mark_is = f

        pairs_are : pairs_in store kept w ≡ (from_parts list mark).pairs
        unfolding from_parts
        pairs_are = pairs_made canonicalize store places n list mark few h marked f room enough kept w c

        count_is : w ≡ length (from_parts list mark).pairs
        count_is = sym (pairs_in_length store kept w) ∙ ap length pairs_are

        room_still : list_fits_buffers (pairs_in store kept w) out slots ≡ true
        unfolding list_fits_buffers
        room_still =
            let r : end_bytes list ≤ length out = leb-true (end_bytes list) (length out) (known_true e k) in
            let d : length (from_parts list mark).pairs ≤ length list = from_parts_length list mark in
            rw (
              pairs_are,
              le-leb (end_bytes (from_parts list mark).pairs) (length out) (omega (arith, r, from_parts_bytes list mark)),
              le-leb (length (from_parts list mark).pairs) (length slots / 4) (omega (arith, d, pairs_in_length store places n, fit)),
            ) refl

        pub parts_made : (out' : Text) (slots' : List ℕ) → out' ≡ write_list_bytes (pairs_in store kept w) out slots → slots' ≡ write_list_slots (pairs_in store kept w) out slots
            → (Ok (record { count = w; has_root_identity = marked; time_offset = time }) ≡ map_reply call) × ((out' ≡ map_bytes call out) × (slots' ≡ map_slots call slots))
        unfolding map_reply map_bytes map_slots write_list_bytes write_list_slots
        parts_made out' slots' p q =
            let z : call ≡ map (from_parts list mark) time = validated_room ∙ rw has_room refl in
            rw z (rw (count_is, mark_is) refl, (p ∙ rw (room_still, pairs_are) refl, q ∙ rw (room_still, pairs_are) refl))

-- The reply of a function that builds a map and the contents of the buffers, for an equal outcome.
pub gives_map : (o m : MapOutcome) → o ≡ m → (r : Result MapFunction Refusal) (out out' : Text) (slots slots' : List ℕ)
    → ReturnsMap m r out out' slots slots' → ReturnsMap o r out out' slots slots'
gives_map o m e r out out' slots slots' w = rw e w
