-- Meaning: The invariant of the buffers of `frames`: they hold a state of the protocol. The theorem: a frame on buffers that hold a state gets the
-- reply of that state, and leaves buffers that hold the next state. Proved in proofs/Theorem.antt.
use Rattle.std.specs.Prelude.{◌≡◌, ℕ, ◌+◌, ◌*◌, ◌≤◌, ◌<◌, true, List, map, length, get_or, take, drop}
use Rattle.text.specs.Text.{Text}
use Rattle.line_reader.specs.Lines.{Line, lines_of, fold_answers}
use Rattle.pair_list.specs.Pair.{all_ends, all_short}
use Rattle.pair_list.specs.Places.{list_text, list_places, end_bytes}
use Rattle.map_spec.specs.Map.{Map}
use Rattle.map_spec.specs.New.{null_map}
use Rattle.route_spec.specs.Leg.{leg_map}
use Rattle.open_list.specs.OpenList.{HoldsOpenList}
use Rattle.close_leg.specs.Close.{LegStore, leg_entry}
use Rattle.frames_spec.specs.Frame.{Frame}
use Rattle.frames_spec.specs.State.{State, Transition, initial_state, step_frame}
use Rattle.frames_spec.specs.Run.{WithinLimits}
use Rattle.frames_spec.specs.Input.{max_digits, next_line, answer_line, output}
use Rattle.frames_memory.specs.declared.Counters.{Counters}
use Rattle.frames_memory.specs.Memory.{FramesMemory, leg_store_of, empty_open_list, step_frame_in}

-- The list s is in `mem` from offset `at`.
abbrev pub StoredAt : List ℕ → ℕ → List ℕ → Type 0
StoredAt mem at s = take (length s) (drop at mem) ≡ s

-- Leg k of the leg store holds the map x: its validated ends lie within the bytes in use, its places in its own block, its three numbers in
-- the table.
pub record HoldsLeg (v : LegStore) (k : ℕ) (x : Map) : Type 0 where
  pub few : length x.pairs ≤ 64
  pub ends : all_ends x.pairs ≡ true
  pub short : all_short x.pairs ≡ true
  -- The offset of the leg's first byte in the store.
  pub at : ℕ
  pub inside : at + end_bytes x.pairs ≤ v.legs.bytes
  pub text : StoredAt v.store at (list_text x.pairs)
  pub places : StoredAt v.slots (256 * k) (list_places at x.pairs)
  pub numbers : StoredAt v.table (3 * k) (leg_entry k x)

-- The leg store holds the maps xs, in order from leg 0.
pub record HoldsLegs (xs : List Map) (v : LegStore) : Type 0 where
  pub count : v.legs.count ≡ length xs
  pub each : (k : ℕ) → k < length xs → HoldsLeg v k (get_or xs k null_map)

-- The buffers are large enough: 64 pairs of two ends of 255 bytes for the open list; "32,768 over all legs" and 16 legs of 64 pairs for the
-- leg store.
pub record LargeEnough (m : FramesMemory) : Type 0 where
  pub bytes : 32640 ≤ length m.bytes
  pub places : 256 ≤ length m.places
  pub store : 32768 ≤ length m.store
  pub slots : 4096 ≤ length m.slots
  pub table : 48 ≤ length m.table

-- The buffers m hold the state st.
pub record Represents (m : FramesMemory) (st : State) : Type 0 where
  -- The open list, whose ends passed validation.
  pub opened : HoldsOpenList st.opened m.kept.opened m.bytes m.places
  pub ends : all_ends st.opened ≡ true
  pub short : all_short st.opened ≡ true
  -- The maps of the legs.
  pub legs : HoldsLegs (map leg_map st.legs) (leg_store_of m)
  pub used : m.kept.legs.bytes ≡ st.used
  pub outs : m.kept.outs ≡ st.outs
  -- The limits of the state and of the buffers.
  pub within : WithinLimits st
  pub large : LargeEnough m

-- The counters before the first line.
abbrev pub initial_counters : Counters
initial_counters = record { opened = empty_open_list; legs = record { count = 0; bytes = 0 }; outs = 0 }

-- Two steps have the same reply, and the buffers of the one hold the state of the other.
pub record SameStep (a : Transition FramesMemory) (b : Transition State) : Type 0 where
  pub answers : a.answer ≡ b.answer
  pub holds : Represents a.state b.state

-- The output for lines, computed from the buffers.
abbrev pub output_in : FramesMemory → List Line → Text
output_in m ls = fold_answers (next_line step_frame_in) (answer_line step_frame_in) m ls

-- The output for lines, computed from a state.
abbrev pub output_of : State → List Line → Text
output_of st ls = fold_answers (next_line step_frame) (answer_line step_frame) st ls

-- The theorems about the buffers of `frames`.
pub record MemoryTheorems : Type 0 where
  -- With all counters 0, large enough buffers hold the start state, whatever their contents.
  pub begins : (m : FramesMemory) → LargeEnough m → m.kept ≡ initial_counters → Represents m initial_state
  -- Every frame gets the reply of the protocol and leaves buffers that hold the next state.
  pub steps : (m : FramesMemory) (st : State) → Represents m st → (f : Frame) → SameStep (step_frame_in m f) (step_frame st f)
  -- So does every list of lines.
  pub outputs : (m : FramesMemory) (st : State) → Represents m st → (ls : List Line) → output_in m ls ≡ output_of st ls
  -- Starting with all counters 0, the output for the lines of an input is the output of the protocol.
  pub writes : (m : FramesMemory) → LargeEnough m → m.kept ≡ initial_counters → (input : Text) → output_in m (lines_of max_digits input) ≡ output input
