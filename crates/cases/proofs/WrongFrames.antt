-- Every wrong output of `frames` differs from the right one, by computing both.
use mathlib.Core.Path.{refl}
use mathlib.Core.List.{flatten}
use Prim.Native.Nat.{ℕ, ◌*◌}
use Rattle.path_prefix.specs.Elements.{count_elements}
use Rattle.route_spec.specs.Leg.{outward, homeward}
use Rattle.refusal.specs.Refusal.{refusal_number}
use Rattle.frames_spec.specs.State.{Answer, success, refusal}
use Rattle.frames_spec.specs.Input.{output}
use Rattle.frames_validate.specs.Checked.{step_frame_checked}
use Rattle.cases.specs.Lent.{store_of, places_of}
use Rattle.cases.specs.WrongFrames.{WrongFrames}
use Rattle.cases.proofs.Tell.{apart, text_number}

-- A number for the answer to a frame.
unfoldable answer_number : Answer → ℕ
unfolding text_number
answer_number (success q) = 16 * text_number q
answer_number (refusal x) = refusal_number x

pub wrong_frames : WrongFrames
unfolding count_elements outward homeward output flatten step_frame_checked store_of places_of text_number answer_number
wrong_frames = record {
  out_unmoved = apart text_number refl;
  close_keeps_list = apart text_number refl;
  relocates_as_map = apart text_number refl;
  home_goes_out = apart text_number refl;
  bad_frame_silent = apart text_number refl;
  lower_case_bad = apart text_number refl;
  last_line_dropped = apart text_number refl;
  home_counted = apart text_number refl;
  refused_counted = apart text_number refl;
  odd_digits = apart text_number refl;
  seventeenth_leg = apart text_number refl;
  altered_list_closed = apart answer_number refl;
  altered_legs_mapped = apart answer_number refl;
}
