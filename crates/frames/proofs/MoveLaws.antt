-- What the program has read and written when it has come to a state, where the bytes of its reader and of its writer are known, and what follows
-- from it for each step.
use Rattle.std.proofs.Common.{◌≡◌, ℕ, ◌+◌, ◌-◌, ◌≤◌, Bool, true, false, Option, None, Some, List, [], ◌∷◌, ◌++◌, not, cond, leb, length, take, drop, refl, sym, ap, subst, ◌∙◌, append_assoc, append-nil, length-take, take-append-drop, arith}
use mathlib.Core.List.{flatten}
use borrow.Author.Tests.{le-leb}
use Rattle.std.proofs.lemmas.List.{drop-take, drop-drop}
use Rattle.std.proofs.Math.Seq.{take-length, take-append-add, take-append_seam}
use Rattle.std.specs.Option.{is_some}
use Rattle.std.specs.Io.KnownBytes.{Keeps, Appends, Consumes}
use Rattle.std.proofs.KnownBytes.{Consumes-nil, Consumes-trans, Consumes-kept, Consumes-whole, Appends-nil, Appends-trans, Appends-kept}
use Rattle.text.specs.Text.{Text}
use Rattle.text.specs.Bytes.{newline}
use Rattle.frames_spec.specs.Input.{output}
use Rattle.frame_stream.specs.Stream.{StreamState, process_block}
use Rattle.frame_stream.specs.StreamTheorems.{next_call, answers_in, run_blocks}
use Rattle.frame_stream.specs.Progress.{StartState, unconsumed, Progress, Reached, after_call, last_replies}
use Rattle.frame_stream.proofs.StreamLaws.{process_bounds}
use Rattle.frame_stream.proofs.ProgressLaws.{progress_theorems}
use Rattle.frames.specs.Moves.{BeginningWritten, NextMove, call_moves, read_moves, LastMove, FailedMove, call_ends, read_ends, input_ends, OutputWritten, OutputBegun}

-- The blocks `read` were read, and the text `written` was written: left₀ and held₀ are the bytes of the reader and the writer at the start.
pub record Come (left₀ held₀ : Option Text) (rest : Text) (a : StreamState) (left held : Option Text) : Type 0 where
  pub read : List Text
  pub written : Text
  pub progress : Progress read written rest a
  pub took : Consumes left₀ left (flatten read)
  pub wrote : Appends held₀ held written

flatten_more : (bs : List Text) (b : Text) → flatten (bs ++ (b ∷ [])) ≡ flatten bs ++ b
unfolding flatten
flatten_more [] b = append-nil b
flatten_more (x ∷ bs) b = ap (λ (t : Text). x ++ t) (flatten_more bs b) ∙ sym (append_assoc x (flatten bs) b)

none_read : flatten {A = ℕ} [] ≡ []
unfolding flatten
none_read = refl

pub come_start : (left held : Option Text) (a : StreamState) → StartState a → Come left held [] a left held
come_start left held a s = record {
  read = [];
  written = [];
  progress = progress_theorems.starts a s;
  took = subst (Consumes left left) (sym none_read) (Consumes-nil left);
  wrote = Appends-nil held;
}

-- The first n bytes of the first part of a text are a beginning of it.
beginning : (n : ℕ) (t u : Text) → (m : ℕ) × (take m (t ++ u) ≡ take n t)
beginning n t u =
    let m = length (take n t) in
    let split : t ++ u ≡ take n t ++ (drop n t ++ u) = ap (λ (s : Text). s ++ u) (sym (take-append-drop n t)) ∙ append_assoc (take n t) (drop n t) u in
    (m, ap (take m) split ∙ take-append_seam (take n t) (drop n t ++ u))

-- A text that is completed to the output, whatever blocks follow, begins the output for all of the reader's bytes.
begins : (left₀ left held₀ held : Option Text) (read : List Text) (t : Text) (n : ℕ) → Consumes left₀ left (flatten read)
    → ((bs : List Text) → (u : Text) × (t ++ u ≡ output (flatten (read ++ bs)))) → Appends held₀ held (take n t) → OutputBegun left₀ held₀ held
begins None left held₀ held read t n p f w = tt
begins (Some x) None held₀ held read t n p f w = absurd p
begins (Some x) (Some y) held₀ held read t n p f w =
    let (u, e) = f (y ∷ []) in
    let (m, b) = beginning n t u in
    let same : t ++ u ≡ output x = e ∙ ap output (flatten_more read y ∙ sym p) in
    (m, subst (Appends held₀ held) (sym b ∙ ap (take m) same) w)

module _ (left₀ held₀ : Option Text) (rest : Text) (a : StreamState) (left held : Option Text) (c : Come left₀ held₀ rest a left held) where
  pub come_reached : Reached rest a
  come_reached = record { read = c.read; written = c.written; progress = c.progress }

  pub come_next : (rest' : Text) (a' : StreamState) (left' held' : Option Text) → NextMove rest a left held rest' a' left' held' → Come left₀ held₀ rest' a' left' held'
  come_next rest' a' left' held' (call_moves e f k w) =
      let called : Come left₀ held₀ (drop (process_block rest (next_call a)).used rest) (after_call rest (next_call a)) left' held' = record {
        read = c.read;
        written = c.written ++ answers_in (process_block rest (next_call a));
        progress = progress_theorems.calls c.read c.written rest a c.progress;
        took = Consumes-kept _ _ _ _ c.took k;
        wrote = Appends-trans _ _ _ _ _ c.wrote w;
      } in
      rw (e, f) called
  come_next rest' a' left' held' (read_moves e f t k) =
      let none : Progress c.read c.written [] a = subst (λ (s : Text). Progress c.read c.written s a) e c.progress in
      let read : Come left₀ held₀ rest' a left' held' = record {
        read = c.read ++ (rest' ∷ []);
        written = c.written;
        progress = progress_theorems.reads c.read c.written a none rest';
        took = subst (Consumes left₀ left') (sym (flatten_more c.read rest')) (Consumes-trans _ _ _ _ _ c.took t);
        wrote = Appends-kept _ _ _ _ c.wrote k;
      } in
      rw f read

  -- At the end of the input, the texts written and the last replies are the output for what was read.
  ends : rest ≡ [] → c.written ++ last_replies a ≡ output (flatten c.read)
  ends e = progress_theorems.ends c.read c.written a (subst (λ (s : Text). Progress c.read c.written s a) e c.progress)

  pub come_all : (left' held' : Option Text) → LastMove rest a left held left' held' → OutputWritten left₀ held₀ held'
  come_all left' held' m =
      Consumes-whole left₀ left' (flatten c.read) (λ (input : Text). Appends held₀ held' (output input)) (Consumes-kept _ _ _ _ c.took m.read) m.ended
      (subst (Appends held₀ held') (ends m.consumed) (Appends-trans _ _ _ _ _ c.wrote m.wrote))

  pub come_begun : OutputBegun left₀ held₀ held
  come_begun =
      begins left₀ left held₀ held c.read c.written (length c.written) c.took (λ bs. (run_blocks (rest ∷ bs) a, c.progress.completes bs))
      (subst (Appends held₀ held) (sym (take-length c.written)) c.wrote)

  pub come_failed : (left' held' : Option Text) → FailedMove rest a left held left' held' → OutputBegun left₀ held₀ held'
  come_failed left' held' (call_ends k w) =
      let called = process_block rest (next_call a) in
      let next = progress_theorems.calls c.read c.written rest a c.progress in
      begins left₀ left' held₀ held' c.read (c.written ++ answers_in called) (length c.written + w.0) (Consumes-kept _ _ _ _ c.took k)
      (λ bs. (run_blocks (drop called.used rest ∷ bs) (after_call rest (next_call a)), next.completes bs))
      (subst (Appends held₀ held') (sym (take-append-add c.written (answers_in called) w.0)) (Appends-trans _ _ _ _ _ c.wrote w.1))
  come_failed left' held' (read_ends k w) =
      begins left₀ left' held₀ held' c.read c.written (length c.written) (Consumes-kept _ _ _ _ c.took k)
      (λ bs. (run_blocks (rest ∷ bs) a, c.progress.completes bs)) (subst (Appends held₀ held') (sym (take-length c.written)) (Appends-kept _ _ _ _ c.wrote w))
  come_failed left' held' (input_ends e k end w) =
      let n = length c.written + w.0 in
      let first : take n (c.written ++ last_replies a) ≡ c.written ++ take w.0 (last_replies a) = take-append-add c.written (last_replies a) w.0 in
      Consumes-whole left₀ left' (flatten c.read) (λ (input : Text). BeginningWritten held₀ held' (output input)) (Consumes-kept _ _ _ _ c.took k) end
      (n, subst (Appends held₀ held') (sym first ∙ ap (take n) (ends e)) (Appends-trans _ _ _ _ _ c.wrote w.1))

-- For the functions of the program, over plain values: a call on the bytes of the block from `at` to `end`.
pub call_moved : (block : Text) (at end : ℕ) (a a' : StreamState) (left left' held held' : Option Text)
    → a' ≡ process_block (unconsumed block at end) (next_call a) → Keeps left left'
    → Appends held held' (answers_in (process_block (unconsumed block at end) (next_call a)))
    → NextMove (unconsumed block at end) a left held (unconsumed block (at + a'.used) end) (next_call a') left' held'
unfolding after_call
call_moved block at end a a' left left' held held' e k w =
    let rest = unconsumed block at end in
    let m = end - at - a'.used in
    let inside : a'.used ≤ end - at = omega (arith, (process_bounds rest a a' e).0, length-take (end - at) (drop at block)) in
    let split : end - at ≡ a'.used + m = omega arith in
    let left : m ≡ end - (at + a'.used) = omega arith in
    let dropped : drop a'.used rest ≡ unconsumed block (at + a'.used) end
    = ap (λ (n : ℕ). drop a'.used (take n (drop at block))) split ∙ drop-take a'.used m (drop at block) ∙ ap (take m) (drop-drop a'.used at block)
    ∙ ap (λ (n : ℕ). take n (drop (at + a'.used) block)) left in
    call_moves (sym dropped ∙ ap (λ (x : StreamState). drop x.used rest) e) (ap next_call e) k w

-- The last replies: none without an unfinished line, and else those of a call on a newline.
pub no_last : (a : StreamState) → a.len ≡ 0 → last_replies a ≡ []
unfolding last_replies
no_last a e = ap (λ (n : ℕ). cond (leb 1 n) (answers_in (process_block (newline ∷ []) (next_call a))) []) e

pub last_are : (a : StreamState) → (a.len ≡ 0 → ⊥) → last_replies a ≡ answers_in (process_block (newline ∷ []) (next_call a))
unfolding last_replies
last_are a h = rw (le-leb 1 a.len (omega (arith, h))) refl

pub last_begun : (a : StreamState) (held held' : Option Text) → (a.len ≡ 0 → ⊥) → BeginningWritten held held' (answers_in (process_block (newline ∷ []) (next_call a)))
    → BeginningWritten held held' (last_replies a)
last_begun a held held' h w = subst (BeginningWritten held held') (sym (last_are a h)) w
