-- Lemmas for the branches of the calls that build a map from one map.
use mathlib.Core.Path.{◌≡◌, refl}
use mathlib.Core.Bool.{Bool, true, false, cond}
use mathlib.Core.List.{List, [], ◌∷◌, map as mapped}
use Prim.Native.Nat.{ℕ}
use lib.ListN.{length}
use Rattle.text.specs.Text.{Text}
use Rattle.layer_offset.specs.declared.LayerOffset.{LayerOffset}
use Rattle.path_grammar.specs.Legal.{legal, at_most255, is_end}
use Rattle.pair_list.specs.Pair.{Pair}
use Rattle.validate.specs.Validate.{LentList, pairs_of, every, validate_call}
use Rattle.map_spec.specs.New.{from_parts}
use Rattle.map_spec.specs.Derive.{without_source, dropping_source, swapped_pair, inverse, with_root_identity}
use Rattle.map_spec.specs.Compose.{has_source}
use Rattle.map_function.specs.MapFunction.{list_of, map_of}
use Rattle.map_function.specs.MapOutcome.{MapOutcome, within_limits, without_dropping}
use Rattle.layer_offset.specs.Offset.{identity_offset}
use Rattle.map_function.specs.declared.MapFunction.{MapFunction}
use Rattle.map_new.specs.Calls.{make_map}
use Rattle.map_derive.specs.Calls.{inverse_call, with_root_identity_call, dropping_source_call}
use Rattle.map_derive.proofs.ListBranches.{whole_without, without_all}

-- The map with its mark set, as the code builds it.
module _ (l : List Pair) (mark : Bool) (time : LayerOffset) (out : Text) (slots : List ℕ) where
  pub marked_copy : within_limits l (with_root_identity (record { pairs = l; mark = mark })) time out slots ≡ without_dropping l true time out slots
  unfolding with_root_identity without_dropping
  marked_copy = refl

-- The pairs without a source, if no pair has it and if one does.
module _ (l : List Pair) (mark : Bool) (s : Text) (time : LayerOffset) (out : Text) (slots : List ℕ) where
  abbrev dropped : MapOutcome
  dropped = within_limits (without_source s l) (dropping_source (record { pairs = l; mark = mark }) s) time out slots

  pub dropped_none : length (without_source s l) ≡ length l → dropped ≡ without_dropping l mark time out slots
  unfolding dropping_source without_dropping
  dropped_none h = let z = whole_without s l h in rw (z.0, z.1) refl

  pub dropped_some : (length (without_source s l) ≡ length l → ⊥) → dropped ≡ within_limits (without_source s l) (from_parts (without_source s l) mark) time out slots
  unfolding dropping_source
  dropped_some h = go (has_source l s) refl
    where
      go : (b : Bool) → has_source l s ≡ b → within_limits (without_source s l) (cond b (from_parts (without_source s l) mark) (record { pairs = l; mark = mark })) time out slots
          ≡ within_limits (without_source s l) (from_parts (without_source s l) mark) time out slots
      go true k = refl
      go false k = absurd (h (without_all s l k))

-- Validation of a list and an end.
pub end_validated : (l : LentList) (s e : Text) → e ≡ [] → validate_call (l ∷ []) (s ∷ e ∷ []) (s ∷ e ∷ []) ≡ validate_call (l ∷ []) (s ∷ []) (s ∷ [])
unfolding validate_call every at_most255 legal is_end
end_validated l s e h = rw h refl

-- The calls, unfolded.
module _ (store : Text) (places : List ℕ) (f : MapFunction) (out : Text) (slots : List ℕ) where
  pub marked_unfolded : with_root_identity_call store places f out slots
      ≡ make_map (validate_call (list_of store places f ∷ []) [] []) (pairs_of (list_of store places f)) (with_root_identity (map_of store places f)) f.time_offset out slots
  unfolding with_root_identity_call
  marked_unfolded = refl

  pub inverse_unfolded : inverse_call store places f out slots
      ≡ make_map (validate_call (list_of store places f ∷ []) [] []) (mapped (λ (x : Pair). swapped_pair x) (pairs_of (list_of store places f)))
      (from_parts (mapped (λ (x : Pair). swapped_pair x) (pairs_of (list_of store places f))) f.has_root_identity) identity_offset out slots
  unfolding inverse_call inverse
  inverse_unfolded = refl

  pub dropping_unfolded : (s : Text) → dropping_source_call store places f s out slots
      ≡ make_map (validate_call (list_of store places f ∷ []) (s ∷ []) (s ∷ [])) (without_source s (pairs_of (list_of store places f))) (dropping_source (map_of store places f) s) f.time_offset out slots
  unfolding dropping_source_call
  dropping_unfolded s = refl
