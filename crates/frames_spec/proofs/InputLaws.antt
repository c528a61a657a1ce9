-- The proofs of the theorems about the lines of every input.
use Rattle.std.specs.Prelude.{Option, Some}
use mathlib.Core.Path.{◌≡◌, refl, sym, ap, ◌∙◌}
use mathlib.Core.Bool.{false}
use mathlib.Core.List.{List, [], ◌∷◌, ◌++◌, map, append_assoc, append-nil}
use Prim.Native.Nat.{ℕ}
use Rattle.text.specs.Text.{Text}
use Rattle.path_grammar.specs.Own.{has_variant_selection}
use Rattle.line_reader.specs.Lines.{Line, fold_answers}
use Rattle.hex_digits.specs.Hex.{encode_hex}
use Rattle.frames_spec.specs.Frame.{Frame, out, home}
use Rattle.frames_spec.specs.State.{State, Answer, initial_state, success, answer_bytes, step_frame}
use Rattle.frames_spec.specs.Run.{next_state, answer_frame, state_after_frames}
use Rattle.frames_spec.specs.Input.{parse_line, next_line, answer_line, answers_to, state_after, accepted_line, InputTheorems}
use Rattle.frames_spec.proofs.RunLaws.{run_theorems}

-- A list of frames with one more.
after_more : (st : State) (fs : List (Option Frame)) (f : Option Frame) → state_after_frames st (fs ++ f ∷ []) ≡ next_state step_frame (state_after_frames st fs) f
unfolding state_after_frames
after_more st [] f = refl
after_more st (g ∷ fs) f = after_more (next_state step_frame st g) fs f

state_more : (ls : List Line) (l : Line) → state_after (ls ++ l ∷ []) ≡ next_state step_frame (state_after ls) (parse_line l)
unfolding state_after
state_more ls l = ap (state_after_frames initial_state) (map_more ls) ∙ after_more initial_state (map parse_line ls) (parse_line l)
  where
    map_more : (ls : List Line) → map parse_line (ls ++ l ∷ []) ≡ map parse_line ls ++ parse_line l ∷ []
    map_more [] = refl
    map_more (x ∷ ls) = ap (λ (r : List (Option Frame)). parse_line x ∷ r) (map_more ls)

-- A list of lines with one more.
answers_more : (st : State) (ls : List Line) (l : Line)
    → fold_answers (next_line step_frame) (answer_line step_frame) st (ls ++ l ∷ []) ≡ fold_answers (next_line step_frame) (answer_line step_frame) st ls ++ answer_line step_frame (state_after_frames st (map parse_line ls)) l
unfolding fold_answers state_after_frames
answers_more st [] l = append-nil (answer_line step_frame st l)
answers_more st (x ∷ ls) l =
    ap (λ (r : Text). answer_line step_frame st x ++ r) (answers_more (next_line step_frame st x) ls l)
    ∙ sym (append_assoc (answer_line step_frame st x) (fold_answers (next_line step_frame) (answer_line step_frame) (next_line step_frame st x) ls) (answer_line step_frame (state_after_frames (next_line step_frame st x) (map parse_line ls)) l))

-- The reply to a line is the reply to its frame.
says : (st : State) (l : Line) (f : Frame) (k : ℕ) (q : Text) → parse_line l ≡ Some f → answer_frame step_frame st (Some f) ≡ k ∷ 0 ∷ q → answer_line step_frame st l ≡ accepted_line k q
unfolding answer_line
says st l f k q h e = ap (λ (o : Option Frame). encode_hex (answer_frame step_frame st o) ++ 10 ∷ []) h ∙ ap (λ (b : Text). encode_hex b ++ 10 ∷ []) e

module _ (ls : List Line) (l k : Line) (p q : Text) (h : parse_line l ≡ Some (out p)) (plain : has_variant_selection p ≡ false)
    (e : (step_frame (state_after ls) (out p)).answer ≡ success q) (g : parse_line k ≡ Some (home q)) where
  routes_out : answer_line step_frame (state_after ls) l ≡ accepted_line 133 q
  routes_out = says (state_after ls) l (out p) 133 q h (ap (λ (a : Answer). 133 ∷ answer_bytes a) e)

  there : state_after (ls ++ l ∷ []) ≡ next_state step_frame (state_after ls) (Some (out p))
  there = state_more ls l ∙ ap (next_state step_frame (state_after ls)) h

  comes_back : (step_frame (next_state step_frame (state_after ls) (Some (out p))) (home q)).answer ≡ success p
  unfolding state_after
  comes_back = run_theorems.comes_home (map parse_line ls) p q plain e

  routes_home : answer_line step_frame (state_after (ls ++ l ∷ [])) k ≡ accepted_line 134 p
  routes_home =
      ap (λ (st : State). answer_line step_frame st k) there
      ∙ says (next_state step_frame (state_after ls) (Some (out p))) k (home q) 134 p g (ap (λ (a : Answer). 134 ∷ answer_bytes a) comes_back)

pub input_theorems : InputTheorems
unfolding answers_to state_after
input_theorems = record {
  line_more = λ ls l. answers_more initial_state ls l;
  comes_home = λ ls l k p q h plain e g. (routes_out ls l k p q h plain e g, routes_home ls l k p q h plain e g);
}
