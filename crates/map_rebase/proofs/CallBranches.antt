-- Lemmas about the branches of the call.
use Rattle.std.specs.Prelude.{Result, Ok, Err, ⊤}
use mathlib.Core.Path.{◌≡◌, refl, sym, ◌∙◌}
use mathlib.Core.Bool.{Bool, true, false, not, cond, ◌&&◌}
use mathlib.Core.List.{List, [], ◌∷◌}
use Prim.Native.Nat.{ℕ, ◌≤◌}
use native.Mathlib.Omega.{arith}
use lib.Dec.{eqb}
use lib.ListN.{length}
use Rattle.text.specs.Text.{Text}
use Rattle.text.proofs.BoolLaws.{known_true, known_false}
use Rattle.layer_offset.specs.declared.LayerOffset.{LayerOffset}
use Rattle.pair_list.specs.Pair.{pair}
use Rattle.pair_list.specs.Places.{pairs_in}
use Rattle.refusal.specs.declared.Refusal.{Refusal}
use Rattle.validate.specs.Validate.{lent_list, validate_call, ValidList}
use Rattle.validate.proofs.PassedLaws.{first_sound, text_short, second_short}
use Rattle.map_spec.specs.Map.{Map}
use Rattle.map_spec.specs.New.{from_parts, from_pair_identity}
use Rattle.map_spec.specs.Compose.{is_path_identity}
use Rattle.map_spec.specs.Derive.{any_target_below, rebase_target}
use Rattle.map_function.specs.declared.MapFunction.{MapFunction}
use Rattle.map_function.specs.MapFunction.{list_of, map_of}
use Rattle.map_function.specs.MapOutcome.{map, refused, within_limits, without_dropping, from_parts_outcome, count_in_slice}
use Rattle.pair_list_write.specs.Packed.{HoldsList, AppendedPair}
use Rattle.pair_buffer.specs.Ends.{from_ends}
use Rattle.pair_list_write.proofs.PackedLaws.{holds_none, holds_list, holds_inside, holds_more}
use Rattle.pair_buffer.proofs.MapLaws.{identity_lent, held_all, limited_map, from_ends_map}
use Rattle.map_rebase.specs.Calls.{rebased_pairs, rebased_map, rebase_outcome, RebasesTo, rebase_target_call}

-- `from_pair_identity`: the single pair in a buffer.
pub one_pair : (s t : Text) (time : LayerOffset) (out : Text) (slots : List ℕ) (bytes bytes' : Text) (own own' : List ℕ) (end : ℕ)
    → AppendedPair (pair s t) 0 0 bytes own end bytes' own'
    → within_limits (pair s t ∷ []) (from_pair_identity (pair s t)) time out slots
    ≡ count_in_slice (lent_list bytes' own' 1) (from_parts_outcome (pairs_in bytes' own' 1) true time out slots)
unfolding from_pair_identity from_parts_outcome
one_pair s t time out slots bytes bytes' own own' end a =
    let c : HoldsList (pair s t ∷ []) 1 end bytes' own' = holds_more [] 0 0 bytes own (holds_none bytes own) (pair s t) end bytes' own' a in
    sym (held_all bytes' own' 1 (from_parts_outcome (pairs_in bytes' own' 1) true time out slots) (omega (arith, holds_inside (pair s t ∷ []) 1 end bytes' own' c))
    ∙ rw (holds_list (pair s t ∷ []) 1 end bytes' own' c) refl)

-- `rebase_target`
module _ (store : Text) (places : List ℕ) (f : MapFunction) (from to : Text) (out : Text) (slots : List ℕ)
    (q : Result ⊤ Refusal) (h : q ≡ validate_call (list_of store places f ∷ []) (from ∷ to ∷ []) (from ∷ to ∷ [])) where
  abbrev m : Map
  m = map_of store places f

  pub rebase_refused : (x : Refusal) → q ≡ Err x → rebase_target_call store places f from to out slots ≡ refused x
  unfolding rebase_target_call
  rebase_refused x k = rw (← h, k)

  module _ (k : q ≡ Ok tt) where
    pub sound : ValidList (list_of store places f)
    sound = first_sound (list_of store places f) [] (from ∷ to ∷ []) (from ∷ to ∷ []) (sym h ∙ k)

    passed : rebase_target_call store places f from to out slots ≡ rebase_outcome m from to f.time_offset out slots
    unfolding rebase_target_call
    passed = rw (← h, k)

    pub rebase_from : length from ≤ 255
    rebase_from = text_short (list_of store places f ∷ []) from (to ∷ []) (from ∷ to ∷ []) (sym h ∙ k)

    pub rebase_to : length to ≤ 255
    rebase_to = second_short (list_of store places f ∷ []) from to [] (from ∷ to ∷ []) (sym h ∙ k)

    module _ (b : Bool) (g : (eqb f.count 0 && f.has_root_identity) ≡ b) where
      identity_is : is_path_identity m ≡ b
      identity_is = identity_lent store places f.count f.has_root_identity ∙ g

      pub rebase_identity : b ≡ true
          → rebase_target_call store places f from to out slots ≡ within_limits (pair from to ∷ []) (from_pair_identity (pair from to)) f.time_offset out slots
      unfolding rebase_outcome
      rebase_identity l = passed ∙ rw (identity_is, l)

      module _ (l : b ≡ false) (c : Bool) (i : c ≡ any_target_below from (pairs_in store places f.count)) where
        pub rebase_same : not c ≡ true
            → rebase_target_call store places f from to out slots
            ≡ count_in_slice (list_of store places f) (without_dropping (pairs_in store places f.count) f.has_root_identity f.time_offset out slots)
        unfolding rebase_outcome
        rebase_same o =
            passed
            ∙ rw (identity_is, l, known_false i o)
            (sym (held_all store places f.count (without_dropping (pairs_in store places f.count) f.has_root_identity f.time_offset out slots) sound.held))

        pub rebase_made : not c ≡ false
            → rebase_target_call store places f from to out slots
            ≡ rebased_map m from to f.time_offset out slots
        unfolding rebase_outcome
        rebase_made o = passed ∙ rw (identity_is, l, known_true i o)

-- A map that the call returns is the rebased one.
pub rebases_to : RebasesTo
unfolding rebase_outcome rebase_target without_dropping
rebases_to m n from to time t out slots e = go (is_path_identity m) (any_target_below from m.pairs) e
  where
    go : (a b : Bool)
        → cond a (within_limits (pair from to ∷ []) (from_pair_identity (pair from to)) time out slots)
        (cond b (from_ends (rebased_pairs from to m.pairs) m.mark time out slots) (within_limits m.pairs m time out slots)) ≡ map n t
        → n ≡ cond a (from_pair_identity (pair from to)) (cond b (from_parts (rebased_pairs from to m.pairs) m.mark) m)
    go true b e = limited_map n t (pair from to ∷ []) (from_pair_identity (pair from to)) time out slots e
    go false true e = from_ends_map n t (rebased_pairs from to m.pairs) m.mark time out slots e
    go false false e = limited_map n t m.pairs m time out slots e
