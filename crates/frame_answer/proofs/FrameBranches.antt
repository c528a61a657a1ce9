-- Lemmas about the branches from the digits of a line to its reply.
use Rattle.std.specs.Prelude.{Result, Ok, Err, Option, Some, None}
use mathlib.Core.Path.{◌≡◌, refl, sym, ap, ◌∙◌, subst}
use mathlib.Core.Bool.{Bool, true, false, not}
use mathlib.Core.List.{[], ◌∷◌}
use Prim.Native.Nat.{ℕ, ◌+◌, ◌*◌, ◌≤◌}
use native.Mathlib.Omega.{arith}
use lib.Dec.{leb}
use lib.ListN.{length, take, drop, length-append}
use borrow.Author.Tests.{leb-true}
use Rattle.text.specs.Text.{Text}
use Rattle.text.proofs.BoolLaws.{known_false, known_true}
use Rattle.text.proofs.WriteLaws.{read_back, part_size}
use Rattle.refusal.specs.declared.Refusal.{Refusal}
use Rattle.refusal.specs.Refusal.{refusal_number}
use Rattle.line_reader.specs.Lines.{Line}
use Rattle.frames_spec.specs.Frame.{Frame, frame, decode_frame}
use Rattle.frames_spec.specs.State.{Answer, success, refusal, answer_bytes}
use Rattle.frames_spec.specs.Run.{next_state, answer_frame}
use Rattle.frames_spec.specs.Input.{parse_line, answer_line}
use Rattle.frame_decode.specs.declared.FrameHeader.{FrameHeader}
use Rattle.frame_decode.specs.Header.{decoded_of, action_in, frame_in}
use Rattle.frame_decode.proofs.HeaderLaws.{decode_decodes}
use Rattle.frames_memory.specs.Memory.{FramesMemory, step_frame_in}
use Rattle.frame_apply.specs.Done.{answer_reply, answer_payload, StepDone, FrameDone}
use Rattle.frame_answer.specs.Answer.{line_text, reply_line, PayloadFits, WroteAt, AnswersFrame, memory_after_line, end_after_line, out_after_line}

-- `write_reply`
pub reply_written : (head n at end : ℕ) (r : Result ℕ Refusal) (payload before after : Text) → r ≡ Ok n → WroteAt (line_text (head ∷ 0 ∷ take n payload)) at end before after
    → WroteAt (reply_line head r payload) at end before after
unfolding reply_line
reply_written head n at end r payload before after e w = rw e w

pub reply_refused : (head a at end : ℕ) (r : Result ℕ Refusal) (x : Refusal) (payload before after : Text) → r ≡ Err x → a ≡ refusal_number x
    → WroteAt (line_text (head ∷ a ∷ [])) at end before after → WroteAt (reply_line head r payload) at end before after
unfolding reply_line
reply_refused head a at end r x payload before after e f w = rw (e, ← f) w

pub fitting_room : (r : Result ℕ Refusal) (n room : ℕ) → r ≡ Ok n → PayloadFits r room → n ≤ room
unfolding PayloadFits
fitting_room r n room e f = rw e at f

pub reply_room : (n at : ℕ) (payload before : Text) → n ≤ length payload → length payload ≡ 255 → at + 515 ≤ length before
    → at + 5 + 2 * length (take n payload) ≤ length before
reply_room n at payload before h e r = omega (arith, part_size n payload h, e, r, h)

-- `answer_frame`
module _ (b : Text) (d : Option (ℕ × FrameHeader)) (e : d ≡ decoded_of (decode_frame b)) (m : FramesMemory) (at end : ℕ) (before after : Text) where
  pub frame_bad : d ≡ None → WroteAt (line_text (255 ∷ 9 ∷ [])) at end before after → AnswersFrame (decode_frame b) m m at end before after
  unfolding AnswersFrame
  frame_bad h w = rw (← (decode_decodes b d e), h) (refl, w)

  -- The payload of a reply is read back.
  reply_line_lem : (a : Answer) (head : ℕ) (reply : Result ℕ Refusal) (payload payload' : Text) → reply ≡ answer_reply a → payload' ≡ answer_payload a payload
      → reply_line head reply payload' ≡ line_text (head ∷ answer_bytes a)
  unfolding reply_line
  reply_line_lem (success q) head reply payload payload' f g = rw (f, g) (ap (λ (t : Text). line_text (head ∷ 0 ∷ t)) (read_back q payload))
  reply_line_lem (refusal x) head reply payload payload' f g = rw f refl

  module _ (k : ℕ) (h : FrameHeader) (parsed : d ≡ Some (k, h)) (m' : FramesMemory) (reply : Result ℕ Refusal) (payload payload' : Text)
      (a : FrameDone b h m m' reply payload payload') where
    abbrev asked : Frame
    asked = frame k (action_in b h)

    took : StepDone (step_frame_in m asked) m' reply payload payload'
    unfolding FrameDone
    took = a k

    is_frame : Some asked ≡ decode_frame b
    is_frame = ap (frame_in b) (sym parsed) ∙ decode_decodes b d e

    line_same : reply_line (k + 128) reply payload' ≡ line_text (answer_frame step_frame_in m (decode_frame b))
    line_same =
        reply_line_lem (step_frame_in m asked).answer (k + 128) reply payload payload' took.reply took.payload
        ∙ ap (λ (o : Option Frame). line_text (answer_frame step_frame_in m o)) is_frame

    pub frame_acted : WroteAt (reply_line (k + 128) reply payload') at end before after → AnswersFrame (decode_frame b) m m' at end before after
    unfolding AnswersFrame
    frame_acted w = (took.state ∙ ap (next_state step_frame_in m) is_frame, subst (λ (t : Text). WroteAt t at end before after) line_same w)

    pub frame_fits : PayloadFits reply (length payload')
    unfolding PayloadFits
    frame_fits = go (step_frame_in m asked).answer took.reply took.payload
      where
        go : (x : Answer) → reply ≡ answer_reply x → payload' ≡ answer_payload x payload → PayloadFits reply (length payload')
        go (success q) f g = rw f (omega (arith, ap length g, length-append q (drop (length q) payload)))
        go (refusal x) f g = rw f (omega arith)

-- `answer_line`
pub line_room : (at : ℕ) (before : Text) (b : Bool) → b ≡ leb (at + 515) (length before) → not b ≡ false → at + 515 ≤ length before
line_room at before b e h = leb-true (at + 515) (length before) (known_true e h)

module _ (l : Line) (m : FramesMemory) (at : ℕ) (before : Text) (b : Bool) (e : b ≡ leb (at + 515) (length before)) where
  abbrev Answers : FramesMemory → ℕ → Text → Type 0
  Answers m' end after = (m' ≡ memory_after_line at before m l) × ((end ≡ end_after_line at before m l) × (after ≡ out_after_line at before m l))

  pub line_refused : not b ≡ true → Answers m at before
  unfolding memory_after_line end_after_line out_after_line
  line_refused h = rw (known_false e h) (refl, (refl, refl))

  pub line_answered : not b ≡ false → (f : Option Frame) → f ≡ parse_line l → (m' : FramesMemory) (end : ℕ) (after : Text)
      → AnswersFrame f m m' at end before after → Answers m' end after
  unfolding memory_after_line end_after_line out_after_line AnswersFrame WroteAt line_text answer_line
  line_answered h f g m' end after a =
      let w = subst (λ (o : Option Frame). AnswersFrame o m m' at end before after) g a in
      rw (known_true e h) (w.0, (w.1.0, w.1.1))
