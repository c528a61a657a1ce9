-- Meaning: The state of `frames` between two lines, and for each frame its reply and the state after it.
use Rattle.std.specs.Prelude.{ℕ, suc, ◌+◌, ◌/◌, ◌%◌, Bool, true, false, cond, List, [], ◌∷◌, ◌++◌, leb, length}
use Rattle.text.specs.Text.{Text}
use Rattle.pair_list.specs.Pair.{Pair, pair as pair_of}
use Rattle.pair_list.specs.Places.{end_bytes}
use Rattle.refusal.specs.declared.Refusal.{Refusal}
use Rattle.refusal.specs.declared.Refusal.TheVariants.{TooMany, NoRoom}
use Rattle.refusal.specs.Refusal.{refusal_number, refused_or}
use Rattle.refusal.specs.Outcome.{Outcome, path, refused}
use Rattle.path.specs.Calls.{path_new_call}
use Rattle.validate.specs.Validate.{validate_call}
use Rattle.relocates.specs.Status.{status_list}
use Rattle.route_spec.specs.Leg.{Leg, closed_leg, counted_pairs}
use Rattle.route_spec.specs.Route.{run_route}
use Rattle.frames_spec.specs.Frame.{Frame, frame, add_one_pair, statuses, close, route, count}

-- The state of `frames` between two lines.
pub record State : Type 0 where
  -- The open list: the pairs added since the last accepted close.
  pub opened : List Pair
  -- The legs closed so far.
  pub legs : List Leg
  -- The total length of the ends of all accepted legs, before redundant pairs are dropped.
  pub used : ℕ
  -- The number of 05 frames answered 00, "held at FFFFFFFF".
  pub outs : ℕ

-- The state before the first line.
abbrev pub initial_state : State
initial_state = record { opened = []; legs = []; used = 0; outs = 0 }

-- The reply to a frame, without its kind byte. Requirements: "The answer line .. is kind + 80, answer byte, then payload".
pub data Answer : Type 0 where
  success : Text → Answer
  refusal : Refusal → Answer

-- The answer byte and the payload.
abbrev pub answer_bytes : Answer → Text
answer_bytes (success q) = 0 ∷ q
answer_bytes (refusal x) = refusal_number x ∷ []

-- One step of the state machine: the state after a frame, and the reply to it.
pub record Transition (S : Type 0) : Type 0 where
  pub state : S
  pub answer : Answer

-- The step of a refused frame, which leaves the state unchanged.
abbrev pub refuse : State → Refusal → Transition State
refuse st x = record { state = st; answer = refusal x }

-- Question 4 for a pair frame: the open list has at most 64 pairs with the new one.
abbrev pub has_pair_room : State → Bool
has_pair_room st = leb (suc (length st.opened)) 64

-- The step of an accepted 01 frame: the pair is appended to the open list.
abbrev pub with_pair : State → Text → Text → Transition State
with_pair st s t =
    record { state = record { opened = st.opened ++ pair_of s t ∷ []; legs = st.legs; used = st.used; outs = st.outs }; answer = success [] }

-- The step of an 01 frame: questions 1 to 3 for its two ends, then question 4 for the list with the pair.
unfoldable pub add_pair : State → Text → Text → Transition State
unfolding validate_call
add_pair st s t = refused_or (validate_call [] (s ∷ t ∷ []) (s ∷ t ∷ [])) (refuse st) (cond (has_pair_room st) (with_pair st s t) (refuse st TooMany))

-- Question 4 for a close: the route has at most 16 legs with the new one.
abbrev pub has_leg_room : State → Bool
has_leg_room st = leb (suc (length st.legs)) 16

-- Question 5 for a close: "in `frames` 32,768 over all legs".
abbrev pub has_byte_room : State → ℕ → Bool
has_byte_room st n = leb (st.used + n) 32768

-- The step of an accepted close: the leg is appended and the open list is emptied.
abbrev pub with_closed_leg : State → Leg → ℕ → Transition State
with_closed_leg st x n = record { state = record { opened = []; legs = st.legs ++ x ∷ []; used = st.used + n; outs = st.outs }; answer = success [] }

-- The step of a close, with the leg and the length of its ends. Requirements: "An accepted close empties the open list; a refused one
-- changes nothing."
unfoldable pub close_list : State → Leg → ℕ → Transition State
close_list st x n = cond (has_leg_room st) (cond (has_byte_room st n) (with_closed_leg st x n) (refuse st NoRoom)) (refuse st TooMany)

-- The step of an 04 frame if the flag is set, otherwise of an 03 frame: the open list is closed as a relocate list or as a map.
abbrev pub close_opened : Bool → State → Transition State
close_opened relocates st = close_list st (closed_leg relocates st.opened) (end_bytes (counted_pairs relocates st.opened))

-- The outcome of an 05 or 06 frame: questions 1 and 2 for the path, then the route over the legs, home if `back` is set.
unfoldable pub route_path : Bool → State → Text → Outcome
unfolding path_new_call run_route
route_path back st p = refused_or (path_new_call p) refused (run_route back st.legs p)

-- The reply for an outcome.
abbrev pub outcome_answer : Outcome → Answer
outcome_answer (path q) = success q
outcome_answer (refused x) = refusal x

-- The counter after one more 05 frame answered 00; it stays at FFFFFFFF.
abbrev pub count_up : ℕ → ℕ
count_up n = cond (leb (suc n) 4294967295) (suc n) n

-- The counter after an 05 frame with this outcome.
abbrev pub count_outcome : Outcome → ℕ → ℕ
count_outcome (path q) n = count_up n
count_outcome (refused x) n = n

-- The step of an 05 frame with this outcome.
abbrev pub answer_out : State → Outcome → Transition State
answer_out st o =
    record { state = record { opened = st.opened; legs = st.legs; used = st.used; outs = count_outcome o st.outs }; answer = outcome_answer o }

-- The counter's four bytes. Requirements: "4 bytes high first".
abbrev pub big_endian32 : ℕ → Text
big_endian32 n = n / 16777216 % 256 ∷ n / 65536 % 256 ∷ n / 256 % 256 ∷ n % 256 ∷ []

-- The step of a frame, by what it asks for.
unfoldable pub step_frame : State → Frame → Transition State
unfolding add_pair close_list closed_leg counted_pairs route_path end_bytes status_list
step_frame st (frame k (add_one_pair s t)) = add_pair st s t
step_frame st (frame k statuses) = record { state = st; answer = success (status_list st.opened (length st.opened)) }
step_frame st (frame k (close relocates)) = close_opened relocates st
step_frame st (frame k (route false p)) = answer_out st (route_path false st p)
step_frame st (frame k (route true p)) = record { state = st; answer = outcome_answer (route_path true st p) }
step_frame st (frame k count) = record { state = st; answer = success (big_endian32 st.outs) }
