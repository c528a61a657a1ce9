-- Lemmas about the branches of the calls.
use Rattle.std.specs.Prelude.{Result, Ok, Err, ⊤}
use mathlib.Core.Path.{◌≡◌, refl, sym, ◌∙◌}
use mathlib.Core.Bool.{Bool, true, false, cond, ◌&&◌}
use mathlib.Core.List.{List, [], ◌∷◌}
use Prim.Native.Nat.{ℕ, ◌+◌}
use native.Mathlib.Omega.{arith}
use lib.Dec.{eqb}
use lib.ListN.{length}
use Rattle.text.specs.Text.{Text}
use Rattle.layer_offset.specs.declared.LayerOffset.{LayerOffset}
use Rattle.layer_offset.specs.Offset.{identity_offset, is_identity, concatenate_offsets}
use Rattle.pair_list.specs.Pair.{all_ends}
use Rattle.pair_list.specs.Places.{pairs_in}
use Rattle.refusal.specs.declared.Refusal.{Refusal}
use Rattle.validate.specs.Validate.{lent_list, validate_call, ValidList}
use Rattle.validate.proofs.PassedLaws.{first_sound, second_sound}
use Rattle.map_spec.specs.Map.{Map}
use Rattle.map_spec.specs.New.{from_parts}
use Rattle.map_spec.specs.Compose.{is_path_identity, composed_pairs, compose}
use Rattle.map_function.specs.declared.MapFunction.{MapFunction}
use Rattle.map_function.specs.MapFunction.{list_of, map_of}
use Rattle.map_function.specs.MapOutcome.{map, refused, within_limits, without_dropping, count_in_slice}
use Rattle.pair_list_write.specs.Packed.{HoldsList, ScratchRoom}
use Rattle.pair_buffer.specs.Ends.{from_ends_given, from_ends}
use Rattle.pair_list_write.proofs.PackedLaws.{holds_list, holds_inside}
use Rattle.pair_buffer.proofs.MapLaws.{identity_lent, held_all, limited_map, from_ends_map}
use Rattle.compose_pairs.specs.ComposePairs.{compose_fits}
use Rattle.compose_pairs.proofs.ComposeFitsBranches.{enough_yes}
use Rattle.compose_pairs.proofs.LengthLaws.{short_bounded}
use Rattle.map_compose.specs.Calls.{composed_time, composed_time_of, compose_lists, compose_outcome, compose_call, ComposesTo}
use Rattle.map_compose.proofs.ComposedEnds.{composed_ends, ends_legal}

-- `composed_time`
module _ (outer inner : LayerOffset) where
  pub time_identity : (is_identity outer && is_identity inner) ≡ true → identity_offset ≡ composed_time outer inner
  unfolding composed_time
  time_identity k = rw k

  pub time_other : (is_identity outer && is_identity inner) ≡ false → (r : LayerOffset) → r ≡ concatenate_offsets outer inner → r ≡ composed_time outer inner
  unfolding composed_time
  time_other k r f = rw k f

-- Two maps, neither the identity: the map is built from the composed list, with the composed mark.
pub composed_made : (outer inner : Map) (time : LayerOffset) (out : Text) (slots : List ℕ)
    → compose_lists outer inner time out slots ≡ from_ends (composed_pairs outer inner) (outer.mark && inner.mark) time out slots
unfolding compose_lists
composed_made outer inner time out slots = refl

-- `compose_in`: the buffers are large enough for two validated maps.
pub compose_fits_lem : (store : Text) (places : List ℕ) (outer : MapFunction) (istore : Text) (iplaces : List ℕ) (inner : MapFunction) (bytes : Text) (own : List ℕ)
    → ValidList (list_of store places outer) → ValidList (list_of istore iplaces inner) → ScratchRoom 1534 (inner.count + outer.count) bytes own
    → compose_fits (pairs_in store places outer.count) (pairs_in istore iplaces inner.count) (length bytes) (length own) ≡ true
compose_fits_lem store places outer istore iplaces inner bytes own vo vi r =
    enough_yes store places outer.count istore iplaces inner.count bytes own record {
      outer_ends = short_bounded (pairs_in store places outer.count) vo.shorts;
      inner_ends = short_bounded (pairs_in istore iplaces inner.count) vi.shorts;
      scratch = r;
    }

-- The list that was built, with the composed mark; its ends are legal.
pub built_map : (outer inner : Map) → all_ends outer.pairs ≡ true → all_ends inner.pairs ≡ true
    → (time : LayerOffset) (out : Text) (slots : List ℕ) (n at : ℕ) (bytes : Text) (own : List ℕ)
    → HoldsList (composed_pairs outer inner) n at bytes own → (mark : Bool) → mark ≡ (outer.mark && inner.mark)
    → compose_lists outer inner time out slots ≡ count_in_slice (lent_list bytes own n) (from_ends_given true (pairs_in bytes own n) mark time out slots)
unfolding compose_lists from_ends
built_map outer inner eo ei time out slots n at bytes own c mark e =
    rw (
      held_all bytes own n (from_ends_given true (pairs_in bytes own n) mark time out slots) (omega (arith, holds_inside (composed_pairs outer inner) n at bytes own c)),
      holds_list (composed_pairs outer inner) n at bytes own c,
      ends_legal (composed_pairs outer inner) (composed_ends outer inner eo ei),
      e,
    ) refl

-- `compose`
module _ (store : Text) (places : List ℕ) (outer : MapFunction) (istore : Text) (iplaces : List ℕ) (inner : MapFunction) (out : Text) (slots : List ℕ)
    (q : Result ⊤ Refusal) (h : q ≡ validate_call (list_of store places outer ∷ list_of istore iplaces inner ∷ []) [] []) where
  abbrev o : Map
  o = map_of store places outer

  abbrev i : Map
  i = map_of istore iplaces inner

  pub call_refused : (x : Refusal) → q ≡ Err x → compose_call store places outer istore iplaces inner out slots ≡ refused x
  unfolding compose_call
  call_refused x k = rw (← h, k)

  module _ (k : q ≡ Ok tt) where
    pub outer_sound : ValidList (list_of store places outer)
    outer_sound = first_sound (list_of store places outer) (list_of istore iplaces inner ∷ []) [] [] (sym h ∙ k)

    pub inner_sound : ValidList (list_of istore iplaces inner)
    inner_sound = second_sound (list_of store places outer) (list_of istore iplaces inner) [] [] [] (sym h ∙ k)

    passed : compose_call store places outer istore iplaces inner out slots ≡ compose_outcome o i (composed_time_of outer inner) out slots
    unfolding compose_call
    passed = rw (← h, k)

    module _ (t : LayerOffset) (e : t ≡ composed_time_of outer inner) (b : Bool) (f : b ≡ (eqb outer.count 0 && outer.has_root_identity)) where
      identity_outer : is_path_identity o ≡ b
      identity_outer = identity_lent store places outer.count outer.has_root_identity ∙ sym f

      pub call_inner : b ≡ true
          → compose_call store places outer istore iplaces inner out slots
          ≡ count_in_slice (list_of istore iplaces inner) (without_dropping (pairs_in istore iplaces inner.count) inner.has_root_identity t out slots)
      unfolding compose_outcome
      call_inner g =
          passed
          ∙ rw (identity_outer, g, e)
          (sym (held_all istore iplaces inner.count (without_dropping (pairs_in istore iplaces inner.count) inner.has_root_identity (composed_time_of outer inner) out slots) inner_sound.held))

      module _ (g : b ≡ false) (c : Bool) (f' : c ≡ (eqb inner.count 0 && inner.has_root_identity)) where
        identity_inner : is_path_identity i ≡ c
        identity_inner = identity_lent istore iplaces inner.count inner.has_root_identity ∙ sym f'

        pub call_outer : c ≡ true
            → compose_call store places outer istore iplaces inner out slots
            ≡ count_in_slice (list_of store places outer) (without_dropping (pairs_in store places outer.count) outer.has_root_identity t out slots)
        unfolding compose_outcome
        call_outer l =
            passed
            ∙ rw (identity_outer, g, identity_inner, l, e)
            (sym (held_all store places outer.count (without_dropping (pairs_in store places outer.count) outer.has_root_identity (composed_time_of outer inner) out slots) outer_sound.held))

        pub call_composed : c ≡ false → compose_call store places outer istore iplaces inner out slots ≡ compose_lists o i t out slots
        unfolding compose_outcome
        call_composed l = passed ∙ rw (identity_outer, g, identity_inner, l, e)

-- A map that the call returns is the composed map.
pub composes_to : ComposesTo
unfolding compose_outcome compose_lists compose without_dropping
composes_to outer inner m time t out slots e = go (is_path_identity outer) (is_path_identity inner) e
  where
    go : (a b : Bool)
        → cond a (within_limits inner.pairs inner time out slots)
        (cond b (within_limits outer.pairs outer time out slots) (from_ends (composed_pairs outer inner) (outer.mark && inner.mark) time out slots)) ≡ map m t
        → m ≡ cond a inner (cond b outer (from_parts (composed_pairs outer inner) (outer.mark && inner.mark)))
    go true b e = limited_map m t inner.pairs inner time out slots e
    go false true e = limited_map m t outer.pairs outer time out slots e
    go false false e = from_ends_map m t (composed_pairs outer inner) (outer.mark && inner.mark) time out slots e
