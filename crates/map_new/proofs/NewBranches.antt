-- Lemmas for the branches of the calls that build a map from pairs.
use Rattle.std.specs.Prelude.{Result, Ok, ⊤}
use mathlib.Core.Path.{◌≡◌, refl}
use mathlib.Core.Bool.{Bool, true, false}
use mathlib.Core.List.{List, [], ◌∷◌}
use Prim.Native.Nat.{ℕ, ◌/◌, ◌≤◌}
use lib.ListN.{length}
use borrow.Author.Tests.{le-leb}
use Rattle.text.specs.Text.{Text}
use Rattle.layer_offset.specs.declared.LayerOffset.{LayerOffset}
use Rattle.pair_list.specs.Pair.{Pair, pair}
use Rattle.pair_list.specs.Places.{pairs_in}
use Rattle.refusal.specs.declared.Refusal.{Refusal}
use Rattle.validate.specs.Validate.{LentList, lent_list, pairs_of, validate_call}
use Rattle.validate.proofs.PassedLaws.{first_sound}
use Rattle.map_spec.specs.Map.{Map}
use Rattle.map_spec.specs.New.{from_parts, new, from_pair, from_pair_identity}
use Rattle.map_function.specs.MapOutcome.{MapOutcome, within_limits, count_in_slice, without_dropping, from_parts_outcome}
use Rattle.layer_offset.specs.Offset.{identity_offset}
use Rattle.map_new.specs.Calls.{make_map, map_new_call, from_pair_call, from_pair_identity_call}

-- A call whose validation passed yields the map.
module _ (a : Result ⊤ Refusal) (l : List Pair) (m : Map) (time : LayerOffset) (out : Text) (slots : List ℕ) (q : Result ⊤ Refusal) (h : q ≡ a) where
  pub made_passed : q ≡ Ok tt → make_map a l m time out slots ≡ within_limits l m time out slots
  made_passed k = rw (← h, k) refl

-- The slice of a lent list that passed holds its pairs.
pub held_passed : (l : LentList) (ts es : List Text) → validate_call (l ∷ []) ts es ≡ Ok tt → (o : MapOutcome) → count_in_slice l o ≡ o
unfolding count_in_slice
held_passed l ts es h o = rw (le-leb l.count (length l.places / 4) (first_sound l [] ts es h).held) refl

-- The maps as the code builds them.
module _ (l : List Pair) (time : LayerOffset) (out : Text) (slots : List ℕ) where
  pub new_parts : within_limits l (new l) time out slots ≡ from_parts_outcome l false time out slots
  unfolding new from_parts_outcome
  new_parts = refl

-- A list in scratch buffers.
module _ (l : List Pair) (mark : Bool) (time : LayerOffset) (out : Text) (slots : List ℕ) (store : Text) (places : List ℕ) (n : ℕ) (e : pairs_in store places n ≡ l) (h : n ≤ length places / 4) where
  pub own_parts : within_limits l (from_parts l mark) time out slots ≡ count_in_slice (lent_list store places n) (from_parts_outcome (pairs_in store places n) mark time out slots)
  unfolding count_in_slice from_parts_outcome
  own_parts = rw (le-leb n (length places / 4) h, e) refl

  pub own_copy : within_limits l (record { pairs = l; mark = mark }) time out slots ≡ count_in_slice (lent_list store places n) (without_dropping (pairs_in store places n) mark time out slots)
  unfolding count_in_slice without_dropping
  own_copy = rw (le-leb n (length places / 4) h, e) refl

-- The calls, unfolded.
module _ (store : Text) (places : List ℕ) (out : Text) (slots : List ℕ) where
  pub new_unfolded : (count : ℕ)
      → map_new_call store places count out slots
      ≡ make_map (validate_call (lent_list store places count ∷ []) [] []) (pairs_of (lent_list store places count)) (new (pairs_of (lent_list store places count))) identity_offset out slots
  unfolding map_new_call
  new_unfolded count = refl

module _ (s t out : Text) (slots : List ℕ) where
  pub pair_unfolded : from_pair_call s t out slots ≡ make_map (validate_call [] (s ∷ t ∷ []) (s ∷ t ∷ [])) (pair s t ∷ []) (record { pairs = pair s t ∷ []; mark = false }) identity_offset out slots
  unfolding from_pair_call from_pair
  pair_unfolded = refl

  pub pair_identity_unfolded : from_pair_identity_call s t out slots ≡ make_map (validate_call [] (s ∷ t ∷ []) (s ∷ t ∷ [])) (pair s t ∷ []) (from_parts (pair s t ∷ []) true) identity_offset out slots
  unfolding from_pair_identity_call from_pair_identity
  pair_identity_unfolded = refl
