-- Meaning: What `frames` keeps between two lines in lent memory, and the effect of each frame on it: every byte and number, for any contents of the
-- buffers. Buffers that hold a state of the protocol keep holding one (specs/Represents.antt).
use Rattle.std.specs.Prelude.{ℕ, Bool, true, false, List, [], ◌∷◌, length, Result, Ok, ⊤}
use Rattle.text.specs.Text.{Text}
use Rattle.refusal.specs.declared.Refusal.{Refusal}
use Rattle.refusal.specs.Refusal.{refused_or}
use Rattle.refusal.specs.Outcome.{Outcome}
use Rattle.validate.specs.Validate.{LentList, lent_list, pairs_of, validate_call}
use Rattle.relocates.specs.Status.{status_list}
use Rattle.route_legs.specs.LentRoute.{LentRoute, lent_route}
use Rattle.route.specs.Fast.{after_route_validated}
use Rattle.open_list.specs.declared.OpenList.{OpenList}
use Rattle.open_list.specs.Add.{validate_add, with_one_more, add_bytes, add_places}
use Rattle.close_leg.specs.Close.{LegStore, leg_store, validate_close_of, close_store}
use Rattle.frames_spec.specs.Frame.{Frame, frame, add_one_pair, statuses, close, route, count}
use Rattle.frames_spec.specs.State.{Answer, success, refusal, outcome_answer, count_outcome, big_endian32, Transition}
use Rattle.frames_spec.specs.Run.{saturate32}
use Rattle.frames_memory.specs.declared.Counters.{Counters}

-- The counters and buffers of `frames` between two lines.
pub record FramesMemory : Type 0 where
  pub kept : Counters
  -- The open list: the bytes of its ends, and their places.
  pub bytes : Text
  pub places : List ℕ
  -- The leg store: the bytes of the legs' ends, their places in blocks of 256, three numbers for each leg.
  pub store : Text
  pub slots : List ℕ
  pub table : List ℕ

-- The memory from its parts.
abbrev pub frames_memory : Counters → Text → List ℕ → Text → List ℕ → List ℕ → FramesMemory
frames_memory k bytes places store slots table = record { kept = k; bytes = bytes; places = places; store = store; slots = slots; table = table }

-- The open list as a lent list of pairs.
abbrev pub open_list_of : FramesMemory → LentList
open_list_of m = lent_list m.bytes m.places m.kept.opened.pairs

-- The leg store of the memory.
abbrev pub leg_store_of : FramesMemory → LegStore
leg_store_of m = leg_store m.kept.legs m.store m.slots m.table

-- The legs as a lent route.
abbrev pub route_of : FramesMemory → LentRoute
route_of m = lent_route m.store m.slots m.table m.kept.legs.count

-- The reply of a frame that has no payload.
abbrev pub accepted_answer : Result ⊤ Refusal → Answer
accepted_answer a = refused_or a refusal (success [])

-- The size of the open list after an 01 frame, given the result of its validation.
abbrev pub opened_after : Result ⊤ Refusal → OpenList → Text → Text → OpenList
opened_after a k s t = refused_or a (λ (x : Refusal). k) (with_one_more k s t)

-- The step of an 01 frame, given the result of its validation.
abbrev pub add_after : Result ⊤ Refusal → FramesMemory → Text → Text → Transition FramesMemory
add_after a m s t = record {
  state = record {
    kept = record { opened = opened_after a m.kept.opened s t; legs = m.kept.legs; outs = m.kept.outs };
    bytes = add_bytes a m.kept.opened s t m.bytes;
    places = add_places a m.kept.opened s t m.places;
    store = m.store;
    slots = m.slots;
    table = m.table;
  };
  answer = accepted_answer a;
}

-- The step of an 01 frame.
unfoldable pub add_in : FramesMemory → Text → Text → Transition FramesMemory
unfolding validate_add add_bytes add_places
add_in m s t = add_after (validate_add m.kept.opened s t (length m.bytes) (length m.places)) m s t

-- The reply to an 02 frame.
unfoldable pub statuses_in : FramesMemory → Answer
unfolding validate_call status_list
statuses_in m = refused_or (validate_call (open_list_of m ∷ []) [] []) refusal (success (status_list (pairs_of (open_list_of m)) m.kept.opened.pairs))

-- The size of an empty open list.
abbrev pub empty_open_list : OpenList
empty_open_list = record { pairs = 0; bytes = 0 }

-- The step of an 03 or 04 frame, given the result of its validation and the leg store after it. Requirements: "An accepted close empties
-- the open list; a refused one changes nothing."
abbrev pub close_after : Result ⊤ Refusal → FramesMemory → LegStore → Transition FramesMemory
close_after a m v = record {
  state = record {
    kept = record { opened = refused_or a (λ (x : Refusal). m.kept.opened) empty_open_list; legs = v.legs; outs = m.kept.outs };
    bytes = m.bytes;
    places = m.places;
    store = v.store;
    slots = v.slots;
    table = v.table;
  };
  answer = accepted_answer a;
}

-- The step of an 03 or 04 frame.
unfoldable pub close_in : Bool → FramesMemory → Transition FramesMemory
unfolding validate_close_of close_store
close_in relocates m = close_after (validate_close_of relocates (open_list_of m) (leg_store_of m)) m (close_store relocates (open_list_of m) (leg_store_of m))

-- The outcome of an 05 or 06 frame: the route over the legs, which were validated when they were closed.
unfoldable pub route_path_in : Bool → FramesMemory → Text → Outcome
unfolding after_route_validated
route_path_in back m p = after_route_validated (Ok tt) back (route_of m) p 255

-- The step of an 05 frame with this outcome.
abbrev pub count_in : FramesMemory → Outcome → Transition FramesMemory
count_in m o = record {
  state = frames_memory (record { opened = m.kept.opened; legs = m.kept.legs; outs = count_outcome o m.kept.outs }) m.bytes m.places m.store m.slots m.table;
  answer = outcome_answer o;
}

-- The step of a frame, by what it asks for.
unfoldable pub step_frame_in : FramesMemory → Frame → Transition FramesMemory
unfolding add_in statuses_in close_in route_path_in
step_frame_in m (frame k (add_one_pair s t)) = add_in m s t
step_frame_in m (frame k statuses) = record { state = m; answer = statuses_in m }
step_frame_in m (frame k (close relocates)) = close_in relocates m
step_frame_in m (frame k (route false p)) = count_in m (route_path_in false m p)
step_frame_in m (frame k (route true p)) = record { state = m; answer = outcome_answer (route_path_in true m p) }
step_frame_in m (frame k count) = record { state = m; answer = success (big_endian32 (saturate32 m.kept.outs)) }
