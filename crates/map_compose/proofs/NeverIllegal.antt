-- The proof that no `compose` call is refused because a path that it made is illegal (question 8).
use Rattle.std.specs.Prelude.{Result, Ok, Err, ⊤}
use mathlib.Core.Path.{◌≡◌, refl, ap}
use mathlib.Core.Bool.{Bool, true, false, cond, ◌&&◌}
use mathlib.Core.List.{List, [], ◌∷◌}
use Prim.Native.Nat.{ℕ}
use native.Mathlib.Omega.{arith}
use lib.Dec.{leb}
use lib.ListN.{length}
use Rattle.text.specs.Text.{Text}
use Rattle.path_grammar.specs.Legal.{legal, at_most255, is_end}
use Rattle.layer_offset.specs.declared.LayerOffset.{LayerOffset}
use Rattle.pair_list.specs.Pair.{Pair, every_end, all_short, all_ends}
use Rattle.pair_list_write.specs.Lists.{list_fits_buffers}
use Rattle.refusal.specs.Refusal.{refused_or}
use Rattle.refusal.specs.declared.Refusal.TheVariants.{TooMany, NoRoom, MadeTooLong, MadeIllegal}
use Rattle.validate.specs.Validate.{LentList, list_short, list_all, count_within_limit, every, first_failed, validate_call}
use Rattle.validate.proofs.PassedLaws.{first_sound, second_sound}
use Rattle.map_spec.specs.Map.{Map}
use Rattle.map_spec.specs.New.{from_parts}
use Rattle.map_spec.specs.Compose.{is_path_identity, composed_pairs}
use Rattle.map_function.specs.MapFunction.{list_of, map_of}
use Rattle.map_function.specs.MapOutcome.{MapOutcome, map, refused, require_list_room, within_limits, without_dropping}
use Rattle.pair_buffer.specs.Ends.{require_short, require_legal, from_ends_given, from_ends}
use Rattle.map_compose.specs.Calls.{composed_time_of, compose_lists, compose_outcome, compose_call, ComposeNeverIllegal}
use Rattle.map_compose.proofs.ComposedEnds.{composed_ends, ends_legal}
use Rattle.map_compose.proofs.CallBranches.{composed_made}
use Rattle.refusal.specs.declared.Refusal.{Refusal}

-- An outcome other than refusal 8.
abbrev pub Never : MapOutcome → Type 0
Never o = o ≡ refused MadeIllegal → ⊥

never_map : (m : Map) (time : LayerOffset) → Never (map m time)
never_map m time e = let z : ◌≡◌ {A = ℕ} 0 1 = cc in omega arith

never_entry : Never (refused TooMany)
never_entry e = let z : ◌≡◌ {A = ℕ} 0 1 = cc in omega arith

never_counters : Never (refused NoRoom)
never_counters e = let z : ◌≡◌ {A = ℕ} 0 1 = cc in omega arith

never_seven : Never (refused MadeTooLong)
never_seven e = let z : ◌≡◌ {A = ℕ} 0 1 = cc in omega arith

-- A choice between two such outcomes.
pub never_either : (b : Bool) (x y : MapOutcome) → Never x → Never y → Never (cond b x y)
never_either true x y f g = f
never_either false x y f g = g

-- Questions 4, 5 and 7 before it, and question 8 itself if every end is legal.
pub never_many : (b : Bool) (o : MapOutcome) → Never o → Never (cond b o (refused TooMany))
never_many b o f = never_either b o (refused TooMany) f never_entry

pub never_room : (l : List Pair) (out : Text) (slots : List ℕ) (o : MapOutcome) → Never o → Never (require_list_room l out slots o)
unfolding require_list_room
never_room l out slots o f = never_either (list_fits_buffers l out slots) o (refused NoRoom) f never_counters

pub never_made : (l : List Pair) (m : Map) (time : LayerOffset) → every_end legal l ≡ true → Never (require_short l (require_legal l (map m time)))
unfolding require_short require_legal
never_made l m time h = rw h (never_either (all_short l) (map m time) (refused MadeTooLong) (never_map m time) never_seven)

-- A map returned unchanged, and one built from constructed ends.
pub never_as_it_is : (l : List Pair) (mark : Bool) (time : LayerOffset) (out : Text) (slots : List ℕ) → Never (without_dropping l mark time out slots)
unfolding without_dropping within_limits
never_as_it_is l mark time out slots =
    never_many (leb (length l) 64) (require_list_room l out slots (map (record { pairs = l; mark = mark }) time))
    (never_room l out slots (map (record { pairs = l; mark = mark }) time) (never_map (record { pairs = l; mark = mark }) time))

never_ends : (l : List Pair) (mark : Bool) (time : LayerOffset) (out : Text) (slots : List ℕ) → all_ends l ≡ true → Never (from_ends l mark time out slots)
unfolding from_ends from_ends_given require_legal
never_ends l mark time out slots e =
    never_many (leb (length l) 64) (require_list_room l out slots (require_short l (require_legal l (map (from_parts l mark) time))))
    (never_room l out slots (require_short l (require_legal l (map (from_parts l mark) time))) (never_made l (from_parts l mark) time (ends_legal l e)))

-- Questions 1 to 4, as they check the lists of a call.
no_eight : (a b c d : Bool) → first_failed a b c d ≡ Err MadeIllegal → ⊥
unfolding first_failed
no_eight true true true true e = let z : ◌≡◌ {A = ℕ} 0 1 = cc in omega arith
no_eight true true true false e = let z : ◌≡◌ {A = ℕ} 0 1 = cc in omega arith
no_eight true true false d e = let z : ◌≡◌ {A = ℕ} 0 1 = cc in omega arith
no_eight true false c d e = let z : ◌≡◌ {A = ℕ} 0 1 = cc in omega arith
no_eight false b c d e = let z : ◌≡◌ {A = ℕ} 0 1 = cc in omega arith

never_validated : (lists : List LentList) (texts ends : List Text) → validate_call lists texts ends ≡ Err MadeIllegal → ⊥
unfolding validate_call
never_validated lists texts ends =
    no_eight (every at_most255 texts && every list_short lists) (every legal texts && every (list_all legal) lists) (every is_end ends && every (list_all is_end) lists) (every count_within_limit lists)

-- The outcome of a call whose lists passed.
pub never_unless : (lists : List LentList) (o : MapOutcome) → (validate_call lists [] [] ≡ Ok tt → Never o) → Never (refused_or (validate_call lists [] []) refused o)
never_unless lists o f = go (validate_call lists [] []) (never_validated lists [] []) f
  where
    go : (q : Result ⊤ Refusal) → (q ≡ Err MadeIllegal → ⊥) → (q ≡ Ok tt → Never o) → Never (refused_or q refused o)
    go (Ok tt) n f e = f refl e
    go (Err x) n f e =
        let w : refused x ≡ refused MadeIllegal = e in
        let z : x ≡ MadeIllegal = cc in
        n (ap Err z)

module _ (outer inner : Map) (time : LayerOffset) (out : Text) (slots : List ℕ) (eo : all_ends outer.pairs ≡ true) (ei : all_ends inner.pairs ≡ true) where
  never_composed : Never (compose_lists outer inner time out slots)
  never_composed =
      rw (composed_made outer inner time out slots) (never_ends (composed_pairs outer inner) (outer.mark && inner.mark) time out slots (composed_ends outer inner eo ei))

  never_composing : Never (compose_outcome outer inner time out slots)
  unfolding compose_outcome
  never_composing =
      never_either (is_path_identity outer) _ _ (never_as_it_is inner.pairs inner.mark time out slots)
      (never_either (is_path_identity inner) _ _ (never_as_it_is outer.pairs outer.mark time out slots) never_composed)

pub never_illegal : ComposeNeverIllegal
unfolding compose_call
never_illegal store places outer istore iplaces inner out slots =
    never_unless (k ∷ l ∷ []) (compose_outcome (map_of store places outer) (map_of istore iplaces inner) (composed_time_of outer inner) out slots)
    (λ h. never_composing (map_of store places outer) (map_of istore iplaces inner) (composed_time_of outer inner) out slots (first_sound k (l ∷ []) [] [] h).ends (second_sound k l [] [] [] h).ends)
  where
    k : LentList
    k = list_of store places outer

    l : LentList
    l = list_of istore iplaces inner
