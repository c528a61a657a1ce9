-- Lemmas about the branches of the call for one line.
use Rattle.std.specs.Prelude.{Result, Ok, Err, Option, Some, None, ⊤}
use mathlib.Core.Path.{◌≡◌, refl, sym, ap, ◌∙◌, subst}
use mathlib.Core.Bool.{Bool, true, false, not, cond, ◌&&◌}
use mathlib.Core.List.{List, [], ◌∷◌, ◌++◌}
use Prim.Native.Nat.{ℕ, ◌+◌, ◌≤◌, ◌<◌}
use native.Mathlib.Nat.{zero-add}
use native.Mathlib.Omega.{arith}
use lib.Dec.{leb}
use lib.ListN.{length, take, drop, set}
use lib.Seq.{sets-eq}
use borrow.Author.Tests.{le-leb, lt-leb, leb-true}
use Rattle.text.specs.Text.{Text, written, written_if_fits}
use Rattle.text.proofs.WriteLaws.{placed_first, placed_next}
use Rattle.text.proofs.BoolLaws.{known_false, known_true}
use Rattle.refusal.specs.declared.Refusal.{Refusal}
use Rattle.refusal.specs.declared.Refusal.TheVariants.{NoRoom}
use Rattle.refusal.specs.Refusal.{refusal_number, refused_or}
use Rattle.line_reader.specs.Lines.{Line}
use Rattle.hex_digits.specs.Hex.{encode_hex}
use Rattle.frames_spec.specs.Frame.{Frame, frame, Action, decode_frame}
use Rattle.frames_spec.specs.State.{answer_bytes, Transition}
use Rattle.frames_spec.specs.Run.{next_state, answer_frame}
use Rattle.frames_spec.specs.Input.{parse_line, next_line, answer_line}
use Rattle.frame_decode.specs.declared.FrameHeader.{FrameHeader}
use Rattle.frame_decode.specs.Header.{decoded_of, action_in, frame_in}
use Rattle.frame_decode.proofs.HeaderLaws.{decode_decodes}
use Rattle.frame_decode.proofs.LineLaws.{Decodes, line_parsed}
use Rattle.frames_memory.specs.declared.Counters.{Counters}
use Rattle.frames_memory.specs.Memory.{FramesMemory, frames_memory, step_frame_in}
use Rattle.frames_validate.specs.Checked.{validate_use, refuse_in, step_frame_checked}
use Rattle.frames_validate.proofs.QuickLaws.{quick_step}
use Rattle.frame_answer.specs.Answer.{memory_after_line, end_after_line, out_after_line, line_text}
use Rattle.ffi_line.specs.declared.LineCheck.{LineCheck}
use Rattle.ffi_line.specs.declared.LineCheck.TheVariants.{Short, NoSpace, Open}
use Rattle.ffi_line.specs.LineCall.{counters_of, counter_numbers, lent_memory, whole_line, has_line_room, validate_line_call, line_reply, line_memory, line_out, counters_after, line_counters, line_check, short_reply, short_out, ProcessesLine}

-- `write_counters`
pub counters_stored : (l : List ℕ) (a b c d e : ℕ) → 5 ≤ length l → set (set (set (set (set l 0 a) 1 b) 2 c) 3 d) 4 e ≡ written (a ∷ b ∷ c ∷ d ∷ e ∷ []) l
counters_stored l a b c d e h = sets-eq (a ∷ b ∷ c ∷ d ∷ e ∷ []) l 0 h

-- What `has_line_room` says.
room_bounds : (kept : List ℕ) (room : ℕ) → has_line_room kept room ≡ true → (5 ≤ length kept) × (515 ≤ room)
room_bounds kept room e = go (leb 5 (length kept)) refl (leb 515 room) refl e
  where
    go : (b : Bool) → leb 5 (length kept) ≡ b → (c : Bool) → leb 515 room ≡ c → (b && c) ≡ true → (5 ≤ length kept) × (515 ≤ room)
    go true f true g h = (leb-true 5 (length kept) f, leb-true 515 room g)
    go true f false g h = absurd (let z : ◌≡◌ {A = ℕ} 0 1 = cc in omega arith)
    go false f c g h = absurd (let z : ◌≡◌ {A = ℕ} 0 1 = cc in omega arith)

pub roomy_kept : (kept : List ℕ) (room : ℕ) (b : Bool) → b ≡ has_line_room kept room → not b ≡ false → 5 ≤ length kept
roomy_kept kept room b e h = (room_bounds kept room (known_true e h)).0

-- `check_line`
pub whole_parsed : (line : Text) (r : ℕ) (before bytes : Text) → length before ≡ 2048 → Decodes line (length line) r before bytes
    → decode_frame (take r bytes) ≡ parse_line (whole_line line)
unfolding whole_line
whole_parsed line r before bytes room w = line_parsed line (length line) r before bytes room w

module _ (b : Text) (d : Option (ℕ × FrameHeader)) (e : d ≡ decoded_of (decode_frame b)) (o : Option Frame) (p : decode_frame b ≡ o) (kept : List ℕ) (m : FramesMemory) (room : ℕ) where
  is_frame : frame_in b d ≡ o
  is_frame = decode_decodes b d e ∙ p

  pub check_bad : d ≡ None → Short 255 9 ≡ line_check o kept m room
  unfolding line_check
  check_bad h = rw (← is_frame, h) refl

  module _ (k : ℕ) (h : FrameHeader) (w : d ≡ Some (k, h)) (t : Bool) (g : t ≡ has_line_room kept room) where
    pub check_full : not t ≡ true → NoSpace ≡ line_check o kept m room
    unfolding line_check
    check_full i = rw (← is_frame, w, known_false g i) refl

    module _ (i : not t ≡ false) (q : Result ⊤ Refusal) (v : q ≡ validate_use m (action_in b h)) where
      asked : line_check o kept m room ≡ refused_or q (λ (x : Refusal). Short (k + 128) (refusal_number x)) Open
      unfolding line_check
      asked = rw (← is_frame, w, known_true g i, v) refl

      pub check_refused : (x : Refusal) → q ≡ Err x → (n : ℕ) → n ≡ refusal_number x → Short (k + 128) n ≡ line_check o kept m room
      check_refused x j n u = rw (asked, j, u) refl

      pub check_open : q ≡ Ok tt → Open ≡ line_check o kept m room
      check_open j = rw (asked, j) refl

-- The same, with the counters read from the number buffer before.
pub counted_use : (kept : List ℕ) (bytes : Text) (places : List ℕ) (store : Text) (slots table : List ℕ) (k : Counters) → k ≡ counters_of kept → (a : Action) (q : Result ⊤ Refusal)
    → q ≡ validate_use (frames_memory k bytes places store slots table) a → q ≡ validate_use (lent_memory kept bytes places store slots table) a
counted_use kept bytes places store slots table k e a q h = rw e at h

-- `write_short`: the two bytes and the newline are written consecutively.
module _ (head answer : ℕ) (out : Text) where
  pub short_refused : length out < 5 → (Err NoRoom ≡ short_reply out) × (out ≡ short_out head answer out)
  unfolding short_out
  short_refused h = rw (lt-leb 5 (length out) h) (refl, refl)

  pub short_written : 5 ≤ length out → (one two : Text) → one ≡ written_if_fits 0 (encode_hex (head ∷ answer ∷ [])) out → two ≡ written_if_fits 4 (10 ∷ []) one
      → (Ok 5 ≡ short_reply out) × (two ≡ short_out head answer out)
  unfolding short_out line_text encode_hex
  short_written h one two e f =
      let digits : Text = encode_hex (head ∷ answer ∷ []) in
      rw (le-leb 5 (length out) h) (
        refl,
        f ∙ ap (written_if_fits 4 (10 ∷ [])) (e ∙ placed_first digits out (omega arith)) ∙ placed_next digits (10 ∷ []) out (omega arith),
      )

-- `process_line`
module _ (l : Line) (kept : List ℕ) (m : FramesMemory) (out : Text) (h : 515 ≤ length out) (k : Counters) (bytes : Text) (places : List ℕ) (store : Text)
    (slots table : List ℕ) where
  room : 0 + 515 ≤ length out
  room = omega arith

  processed : (end : ℕ) (out' : Text) (kept' : List ℕ) → frames_memory k bytes places store slots table ≡ memory_after_line 0 out m l → end ≡ end_after_line 0 out m l
      → out' ≡ out_after_line 0 out m l → kept' ≡ written (counter_numbers k) kept
      → ProcessesLine l kept m out end kept' out' × (lent_memory kept' bytes places store slots table ≡ next_line step_frame_in m l)
  unfolding memory_after_line end_after_line out_after_line
  processed end out' kept' f g i j =
      let t : frames_memory k bytes places store slots table ≡ next_line step_frame_in m l = rw (le-leb (0 + 515) (length out) room) at f in (
        record {
          size = (rw (le-leb (0 + 515) (length out) room) at g) ∙ omega arith;
          counters = j ∙ ap (λ (x : FramesMemory). written (counter_numbers x.kept) kept) t;
          reply =
              (rw (le-leb (0 + 515) (length out) room) at i) ∙ ap (λ (n : ℕ). answer_line step_frame_in m l ++ drop n out) (zero-add (length (answer_line step_frame_in m l)));
        },
        ap (λ (x : List ℕ). lent_memory x bytes places store slots table) j ∙ t,
      )

-- The same, with the counters read from the number buffer before.
module _ (l : Line) (kept : List ℕ) (bytes₀ : Text) (places₀ : List ℕ) (store₀ : Text) (slots₀ table₀ : List ℕ) (out : Text) (h : 515 ≤ length out)
    (k₀ : Counters) (w : k₀ ≡ counters_of kept) where
  abbrev from : Counters → FramesMemory
  from x = frames_memory x bytes₀ places₀ store₀ slots₀ table₀

  pub line_processed : (k : Counters) (bytes : Text) (places : List ℕ) (store : Text) (slots table : List ℕ) (end : ℕ) (out' : Text) (kept' : List ℕ)
      → frames_memory k bytes places store slots table ≡ memory_after_line 0 out (from k₀) l → end ≡ end_after_line 0 out (from k₀) l → out' ≡ out_after_line 0 out (from k₀) l
      → kept' ≡ written (counter_numbers k) kept
      → ProcessesLine l kept (from (counters_of kept)) out end kept' out' × (lent_memory kept' bytes places store slots table ≡ next_line step_frame_in (from (counters_of kept)) l)
  line_processed k bytes places store slots table end out' kept' f g i j =
      processed l kept (from (counters_of kept)) out h k bytes places store slots table end out' kept'
      (f ∙ ap (λ (x : Counters). memory_after_line 0 out (from x) l) w) (g ∙ ap (λ (x : Counters). end_after_line 0 out (from x) l) w)
      (i ∙ ap (λ (x : Counters). out_after_line 0 out (from x) l) w) j

-- The five numbers written over themselves.
same_numbers : (kept : List ℕ) → 5 ≤ length kept → written (counter_numbers (counters_of kept)) kept ≡ kept
same_numbers [] h = absurd (omega arith)
same_numbers (a ∷ []) h = absurd (omega arith)
same_numbers (a ∷ b ∷ []) h = absurd (omega arith)
same_numbers (a ∷ b ∷ c ∷ []) h = absurd (omega arith)
same_numbers (a ∷ b ∷ c ∷ d ∷ []) h = absurd (omega arith)
same_numbers (a ∷ b ∷ c ∷ d ∷ e ∷ r) h = refl

-- `answer_whole`: the parsed frame decides the branch.
module _ (kept : List ℕ) (bytes : Text) (places : List ℕ) (store : Text) (slots table : List ℕ) (out : Text) where
  abbrev m : FramesMemory
  m = lent_memory kept bytes places store slots table

  abbrev answer : Option Frame → Text
  answer o = encode_hex (answer_frame step_frame_checked m o) ++ 10 ∷ []

  -- What the call answers to a parsed or a bad frame.
  abbrev Answers : Option Frame → Result ℕ Refusal → List ℕ → FramesMemory → Text → Type 0
  Answers o r kept' m' out' =
      (r ≡ refused_or (validate_line_call o kept out) Err (Ok (length (answer o))))
      × ((kept' ≡ refused_or (validate_line_call o kept out) (λ (x : Refusal). kept) (counters_after o (next_state step_frame_checked m o).kept kept))
      × ((m' ≡ refused_or (validate_line_call o kept out) (λ (x : Refusal). m) (next_state step_frame_checked m o))
      × (out' ≡ refused_or (validate_line_call o kept out) (λ (x : Refusal). out) (written (answer o) out))))

  -- FF09, or no space for it.
  bad_answers : (b : Bool) → leb 5 (length out) ≡ b
      → Answers None (cond b (Ok 5) (Err NoRoom)) kept m (cond b (written (line_text (255 ∷ 9 ∷ [])) out) out)
  unfolding validate_line_call line_text encode_hex
  bad_answers true e = rw e (refl, (refl, (refl, refl)))
  bad_answers false e = rw e (refl, (refl, (refl, refl)))

  -- What the call answers to a frame of the kind k with the step s, given the result of question 5.
  abbrev AnswersStep : Result ⊤ Refusal → ℕ → Transition FramesMemory → Result ℕ Refusal → List ℕ → FramesMemory → Text → Type 0
  AnswersStep v k s r kept' m' out' =
      (r ≡ refused_or v Err (Ok (length (encode_hex ((k + 128) ∷ answer_bytes s.answer) ++ 10 ∷ []))))
      × ((kept' ≡ refused_or v (λ (x : Refusal). kept) (written (counter_numbers s.state.kept) kept))
      × ((m' ≡ refused_or v (λ (x : Refusal). m) s.state)
      × (out' ≡ refused_or v (λ (x : Refusal). out) (written (encode_hex ((k + 128) ∷ answer_bytes s.answer) ++ 10 ∷ []) out))))

  answers_step : (k : ℕ) (a : Action) (s : Transition FramesMemory) (r : Result ℕ Refusal) (kept' : List ℕ) (m' : FramesMemory) (out' : Text)
      → has_line_room kept (length out) ≡ true → step_frame_checked m (frame k a) ≡ s → AnswersStep (Ok tt) k s r kept' m' out' → Answers (Some (frame k a)) r kept' m' out'
  unfolding validate_line_call
  answers_step k a s r kept' m' out' w e h =
      subst (λ (v : Result ⊤ Refusal). AnswersStep v k (step_frame_checked m (frame k a)) r kept' m' out') (sym (ap (λ (b : Bool). cond b (Ok tt) (Err NoRoom)) w))
      (subst (λ (x : Transition FramesMemory). AnswersStep (Ok tt) k x r kept' m' out') (sym e) h)

  step_is : (k : ℕ) (a : Action) (q : Result ⊤ Refusal) → validate_use m a ≡ q → step_frame_checked m (frame k a) ≡ refused_or q (refuse_in m) (step_frame_in m (frame k a))
  step_is k a q h = quick_step m k a ∙ ap (λ (v : Result ⊤ Refusal). refused_or v (refuse_in m) (step_frame_in m (frame k a))) h

  -- A frame whose use of the memory is refused.
  refused_answers : (k : ℕ) (a : Action) (x : Refusal) → has_line_room kept (length out) ≡ true → validate_use m a ≡ Err x
      → Answers (Some (frame k a)) (short_reply out) kept m (short_out (k + 128) (refusal_number x) out)
  unfolding short_out line_text encode_hex
  refused_answers k a x r q =
      let w = room_bounds kept (length out) r in
      let s : leb 5 (length out) ≡ true = le-leb 5 (length out) (omega (arith, w.1)) in
      answers_step k a (refuse_in m x) (short_reply out) kept m (short_out (k + 128) (refusal_number x) out) r (step_is k a (Err x) q)
      (rw s (refl, (sym (same_numbers kept w.0), (refl, refl))))

  short_by : (o : Option Frame) (h n : ℕ) → Short h n ≡ line_check o kept m (length out) → Answers o (short_reply out) kept m (short_out h n out)
  unfolding line_check short_out
  short_by None h n w =
      let i : h ≡ 255 = cc in
      let j : n ≡ 9 = cc in
      rw (i, j) (bad_answers (leb 5 (length out)) refl)
  short_by (Some (frame k a)) h n w = go (has_line_room kept (length out)) refl (validate_use m a) refl w
    where
      go : (t : Bool) → has_line_room kept (length out) ≡ t → (q : Result ⊤ Refusal) → validate_use m a ≡ q
          → Short h n ≡ cond t (refused_or q (λ (x : Refusal). Short (k + 128) (refusal_number x)) Open) NoSpace
          → Answers (Some (frame k a)) (short_reply out) kept m (short_out h n out)
      go true r (Ok tt) q v = absurd (let z : ◌≡◌ {A = ℕ} 0 1 = cc in omega arith)
      go true r (Err x) q v =
          let i : h ≡ k + 128 = cc in
          let j : n ≡ refusal_number x = cc in
          rw (i, j) (refused_answers k a x r q)
      go false r q e v = absurd (let z : ◌≡◌ {A = ℕ} 0 1 = cc in omega arith)

  full_by : (o : Option Frame) → NoSpace ≡ line_check o kept m (length out) → Answers o (Err NoRoom) kept m out
  unfolding line_check validate_line_call
  full_by None w = absurd (let z : ◌≡◌ {A = ℕ} 0 1 = cc in omega arith)
  full_by (Some (frame k a)) w = go (has_line_room kept (length out)) refl (validate_use m a) w
    where
      go : (t : Bool) → has_line_room kept (length out) ≡ t → (q : Result ⊤ Refusal)
          → NoSpace ≡ cond t (refused_or q (λ (x : Refusal). Short (k + 128) (refusal_number x)) Open) NoSpace → Answers (Some (frame k a)) (Err NoRoom) kept m out
      go true r (Ok tt) v = absurd (let z : ◌≡◌ {A = ℕ} 0 1 = cc in omega arith)
      go true r (Err x) v = absurd (let z : ◌≡◌ {A = ℕ} 0 1 = cc in omega arith)
      go false r q v = rw r (refl, (refl, (refl, refl)))

  -- A frame that is processed, by the step without validation.
  record Processes (o : Option Frame) (n : ℕ) (kept' : List ℕ) (m' : FramesMemory) (out' : Text) : Type 0 where
    size : n ≡ length (encode_hex (answer_frame step_frame_in m o) ++ 10 ∷ [])
    counters : kept' ≡ written (counter_numbers (next_state step_frame_in m o).kept) kept
    memory : m' ≡ next_state step_frame_in m o
    reply : out' ≡ written (encode_hex (answer_frame step_frame_in m o) ++ 10 ∷ []) out

  -- The line has a frame, the buffers have space, and the frame's use of the memory passed.
  record Opened (o : Option Frame) : Type 0 where
    code : ℕ
    action : Action
    parsed : o ≡ Some (frame code action)
    roomy : has_line_room kept (length out) ≡ true
    passed : validate_use m action ≡ Ok tt

  opened_by : (o : Option Frame) → Open ≡ line_check o kept m (length out) → Opened o
  unfolding line_check
  opened_by None w = absurd (let z : ◌≡◌ {A = ℕ} 0 1 = cc in omega arith)
  opened_by (Some (frame k a)) w = go (has_line_room kept (length out)) refl (validate_use m a) refl w
    where
      go : (t : Bool) → has_line_room kept (length out) ≡ t → (q : Result ⊤ Refusal) → validate_use m a ≡ q
          → Open ≡ cond t (refused_or q (λ (x : Refusal). Short (k + 128) (refusal_number x)) Open) NoSpace → Opened (Some (frame k a))
      go true r (Ok tt) q v = record { code = k; action = a; parsed = refl; roomy = r; passed = q }
      go true r (Err x) q v = absurd (let z : ◌≡◌ {A = ℕ} 0 1 = cc in omega arith)
      go false r q e v = absurd (let z : ◌≡◌ {A = ℕ} 0 1 = cc in omega arith)

  frame_by : (k : ℕ) (a : Action) → has_line_room kept (length out) ≡ true → validate_use m a ≡ Ok tt → (n : ℕ) (kept' : List ℕ) (m' : FramesMemory) (out' : Text)
      → Processes (Some (frame k a)) n kept' m' out' → Answers (Some (frame k a)) (Ok n) kept' m' out'
  frame_by k a r q n kept' m' out' p =
      answers_step k a (step_frame_in m (frame k a)) (Ok n) kept' m' out' r (step_is k a (Ok tt) q) (ap Ok p.size, (p.counters, (p.memory, p.reply)))

  open_by : (o : Option Frame) → Opened o → (n : ℕ) (kept' : List ℕ) (m' : FramesMemory) (out' : Text) → Processes o n kept' m' out' → Answers o (Ok n) kept' m' out'
  open_by o g n kept' m' out' p =
      subst (λ (x : Option Frame). Answers x (Ok n) kept' m' out') (sym g.parsed)
      (frame_by g.code g.action g.roomy g.passed n kept' m' out' (subst (λ (x : Option Frame). Processes x n kept' m' out') g.parsed p))

  -- The branches of the call on a line.
  module _ (l : Line) (c : LineCheck) (e : c ≡ line_check (parse_line l) kept m (length out)) where
    abbrev Replies : Result ℕ Refusal → List ℕ → FramesMemory → Text → Type 0
    Replies r kept' m' out' =
        (r ≡ line_reply l kept m out) × ((kept' ≡ line_counters l kept m out) × ((m' ≡ line_memory l kept m out) × (out' ≡ line_out l kept m out)))

    pub call_short : (h n : ℕ) → c ≡ Short h n → (r : Result ℕ Refusal) (out' : Text) → r ≡ short_reply out → out' ≡ short_out h n out → Replies r kept m out'
    unfolding line_reply line_counters line_memory line_out answer_line
    call_short h n w r out' f g = rw (f, g) (short_by (parse_line l) h n (sym w ∙ e))

    pub call_full : c ≡ NoSpace → Replies (Err NoRoom) kept m out
    unfolding line_reply line_counters line_memory line_out answer_line
    call_full w = full_by (parse_line l) (sym w ∙ e)

    pub call_room : c ≡ Open → (5 ≤ length kept) × (515 ≤ length out)
    call_room w = room_bounds kept (length out) (opened_by (parse_line l) (sym w ∙ e)).roomy

    pub call_open : c ≡ Open → (n : ℕ) (kept' : List ℕ) (m' : FramesMemory) (out' : Text) → ProcessesLine l kept m out n kept' out' → m' ≡ next_line step_frame_in m l
        → Replies (Ok n) kept' m' out'
    unfolding line_reply line_counters line_memory line_out answer_line
    call_open w n kept' m' out' p q =
        open_by (parse_line l) (opened_by (parse_line l) (sym w ∙ e)) n kept' m' out'
        (record { size = p.size; counters = p.counters; memory = q; reply = p.reply })
