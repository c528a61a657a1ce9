-- Lemmas about the length of a reply: every reply line fits if there is space for the longest.
use Rattle.std.specs.Prelude.{Result, Ok, Err, Option, Some, None, ⊤}
use mathlib.Core.Path.{◌≡◌, refl}
use mathlib.Core.Bool.{true, false}
use mathlib.Core.List.{[], ◌∷◌}
use Prim.Native.Nat.{◌≤◌}
use native.Mathlib.Omega.{arith}
use lib.ListN.{length, length-append}
use Rattle.text.specs.Text.{Text}
use Rattle.hex_digits.specs.Hex.{encode_hex}
use Rattle.hex_digits.proofs.EncodeLaws.{encoded_length}
use Rattle.refusal.specs.Refusal.{refused_or}
use Rattle.refusal.specs.Outcome.{Outcome, path, refused}
use Rattle.validate.specs.Validate.{pairs_of, validate_call}
use Rattle.validate.proofs.PassedLaws.{first_sound}
use Rattle.relocates.specs.Status.{occurrence, status_list}
use Rattle.relocates.proofs.InitialBranches.{bytes_length}
use Rattle.mapping.proofs.CopyOutBranches.{Short}
use Rattle.route.proofs.ShortLaws.{short_after}
use Rattle.open_list.specs.Add.{validate_add}
use Rattle.close_leg.specs.Close.{validate_close_of}
use Rattle.line_reader.specs.Lines.{Line}
use Rattle.frames_spec.specs.Frame.{Frame, frame, add_one_pair, statuses, close, route, count}
use Rattle.frames_spec.specs.State.{Answer, success, refusal, answer_bytes, outcome_answer}
use Rattle.frames_spec.specs.Run.{answer_frame}
use Rattle.frames_spec.specs.Input.{parse_line, answer_line, max_answer_line}
use Rattle.frames_memory.specs.Memory.{FramesMemory, open_list_of, leg_store_of, route_of, add_in, statuses_in, close_in, route_path_in, step_frame_in}
use Rattle.refusal.specs.declared.Refusal.{Refusal}

-- At most the answer byte and a path.
abbrev Small : Answer → Type 0
Small a = length (answer_bytes a) ≤ 256

small_empty : (a : Result ⊤ Refusal) → Small (refused_or a refusal (success []))
small_empty (Ok tt) = omega arith
small_empty (Err x) = omega arith

small_way : (o : Outcome) → Short o → Small (outcome_answer o)
small_way (path q) h = omega (arith, h q refl)
small_way (refused x) h = omega arith

module _ (m : FramesMemory) where
  -- A validated list has at most 64 pairs.
  small_statuses : Small (statuses_in m)
  unfolding statuses_in status_list
  small_statuses = go (validate_call (open_list_of m ∷ []) [] []) refl
    where
      go : (a : Result ⊤ Refusal) → validate_call (open_list_of m ∷ []) [] [] ≡ a → Small (refused_or a refusal (success (status_list (pairs_of (open_list_of m)) m.kept.opened.pairs)))
      go (Ok tt) p =
          omega (arith, (first_sound (open_list_of m) [] [] [] p).few, bytes_length (occurrence (pairs_of (open_list_of m))) m.kept.opened.pairs)
      go (Err x) p = omega arith

  small_step : (f : Frame) → Small (step_frame_in m f).answer
  unfolding step_frame_in add_in close_in route_path_in
  small_step (frame k (add_one_pair s t)) = small_empty (validate_add m.kept.opened s t (length m.bytes) (length m.places))
  small_step (frame k statuses) = small_statuses
  small_step (frame k (close relocates)) = small_empty (validate_close_of relocates (open_list_of m) (leg_store_of m))
  small_step (frame k (route false p)) = small_way (route_path_in false m p) (short_after (Ok tt) false (route_of m) p 255)
  small_step (frame k (route true p)) = small_way (route_path_in true m p) (short_after (Ok tt) true (route_of m) p 255)
  small_step (frame k count) = omega arith

  answer_size : (o : Option Frame) → length (answer_frame step_frame_in m o) ≤ 257
  answer_size None = omega arith
  answer_size (Some f) = omega (arith, small_step f)

  pub answer_fits : (l : Line) → length (answer_line step_frame_in m l) ≤ max_answer_line
  unfolding answer_line
  answer_fits l =
      let b : Text = answer_frame step_frame_in m (parse_line l) in
      omega (arith, length-append (encode_hex b) (10 ∷ []), encoded_length b, answer_size (parse_line l))
