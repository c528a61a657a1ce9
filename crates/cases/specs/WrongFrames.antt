-- Meaning: Wrong answers of the program `frames`. Each field names an input and an output that the definition excludes; the comment says which mistake would
-- give that output.
use Rattle.std.specs.Prelude.{◌≢◌, false, ℕ, length, replicate}
use mathlib.Core.List.{List, [], flatten}
use Rattle.text.specs.Text.{bytes}
use Rattle.pair_list.specs.Pair.{Pair}
use Rattle.refusal.specs.declared.Refusal.TheVariants.{NoPath}
use Rattle.frames_spec.specs.Frame.{frame, close, route}
use Rattle.frames_spec.specs.State.{success, refusal}
use Rattle.frames_spec.specs.Input.{output}
use Rattle.frames_memory.specs.Memory.{FramesMemory, frames_memory}
use Rattle.frames_validate.specs.Checked.{step_frame_checked}
use Rattle.cases.specs.Lent.{store_of, places_of}
use Rattle.cases.specs.WrongMaps.{illegal_list}

-- Memory of a line with so many pairs in the open list, which has the bytes and places of l, and so many legs.
abbrev pub memory_with : ℕ → ℕ → List Pair → FramesMemory
memory_with pairs legs l =
    frames_memory (record { opened = record { pairs = pairs; bytes = length (store_of l) }; legs = record { count = legs; bytes = 0 }; outs = 0 }) (store_of l) (places_of l)
    (replicate 64 0) (replicate 256 0) (replicate 48 0)

pub record WrongFrames : Type 0 where
  -- 01 and 03 answered, but the path unmoved; the map closed as a relocate list; the list kept open after a close.
  pub out_unmoved : output (bytes "0100022F4100022F42\n03\n052F412F43\n") ≢ bytes "8100\n8300\n85002F412F43\n"
  pub close_keeps_list : output (bytes "0100022F4100022F42\n03\n02\n") ≢ bytes "8100\n8300\n820001\n"
  pub relocates_as_map : output (bytes "0100022F4100022F42\n04\n052F412F43\n") ≢ bytes "8100\n8400\n85002F422F43\n"
  -- 06 goes out.
  pub home_goes_out : output (bytes "0100022F4100022F42\n03\n062F412F43\n") ≢ bytes "8100\n8300\n86002F422F43\n"
  -- A bad frame gets no answer; digits in lower case are refused; the last line without a newline is dropped.
  pub bad_frame_silent : output (bytes "08\n") ≢ bytes ""
  pub lower_case_bad : output (bytes "052f41\n") ≢ bytes "FF09\n"
  pub last_line_dropped : output (bytes "07") ≢ bytes ""
  -- A 06 frame, or a refused 05 frame, is counted.
  pub home_counted : output (bytes "062F41\n07\n") ≢ bytes "86002F41\n870000000001\n"
  pub refused_counted : output (bytes "052F\n0541\n07\n") ≢ bytes "85002F\n8502\n870000000002\n"
  -- An odd number of digits passes; a 17th leg is accepted.
  pub odd_digits : output (bytes "052F4\n") ≢ bytes "85002F\n"
  pub seventeenth_leg : output (flatten (replicate 17 (bytes "03\n"))) ≢ flatten (replicate 17 (bytes "8300\n"))
  -- A line of a caller who has altered the memory in between (the entry `mudvizsor_frames_line`): a list that is not legal is closed; 17 legs are
  -- answered with "no path".
  pub altered_list_closed : (step_frame_checked (memory_with 1 0 illegal_list) (frame 3 (close false))).answer ≢ success []
  pub altered_legs_mapped : (step_frame_checked (memory_with 0 17 []) (frame 5 (route false (bytes "/A")))).answer ≢ refusal NoPath
