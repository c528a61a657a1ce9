-- Lemmas about the line so far and the state after a block or the end of the input. A block is split at `newline_index`: one line with its newline,
-- or a part of a line.
use mathlib.Core.Path.{◌≡◌, refl, sym, ◌∙◌}
use mathlib.Core.Bool.{Bool, true, false, cond}
use mathlib.Core.List.{List, [], ◌∷◌, ◌++◌, append_assoc, append-nil}
use Prim.Native.Nat.{ℕ, zero, suc, ◌≤◌, ◌<◌}
use native.Mathlib.Nat.{not-suc-le-zero, le_of_suc-le-suc}
use native.Mathlib.Omega.{arith}
use lib.Dec.{eqb, leb}
use lib.ListN.{length, take}
use borrow.Author.Tests.{le-leb, leb-true}
use Rattle.text.specs.Text.{Text}
use Rattle.line_reader.specs.Lines.{Line, text, overlong, fold_answers, line_capacity, line_in_buffer}
use Rattle.line_reader.specs.Blocks.{push_byte, push_bytes, step_byte, step_block, answer_block, answer_end}
use Rattle.line_reader.specs.TakeLine.{newline_index}
use Rattle.line_reader.proofs.TakeLaws.{most_le}

module _ {S : Type 0} (most : ℕ) (next : S → Line → S) (reply : S → Line → Text) where
  -- One line of the block, with its newline.
  pub stepped_one : (l : Line) (st : S) (s : Text) → newline_index s < length s
      → step_block most next reply (l, st) (take (suc (newline_index s)) s) ≡ (text [], next st (push_bytes most l (take (newline_index s) s)))
  unfolding step_block push_bytes newline_index
  stepped_one l st [] h = absurd (not-suc-le-zero h)
  stepped_one l st (b ∷ s) h = go (eqb b 10) h (λ k. stepped_one (push_byte most l b) st s k)
    where
      go : (v : Bool) → cond v 0 (suc (newline_index s)) < suc (length s)
          → (newline_index s < length s → step_block most next reply (push_byte most l b, st) (take (suc (newline_index s)) s) ≡ (text [], next st (push_bytes most (push_byte most l b) (take (newline_index s) s))))
          → step_block most next reply (cond v (text [], next st l) (push_byte most l b, st)) (take (cond v 0 (suc (newline_index s))) s)
          ≡ (text [], next st (push_bytes most l (take (cond v 0 (suc (newline_index s))) (b ∷ s))))
      go true k ih = refl
      go false k ih = ih (le_of_suc-le-suc k)

  pub answered_one : (l : Line) (st : S) (s : Text) → newline_index s < length s
      → answer_block most next reply (l, st) (take (suc (newline_index s)) s) ≡ reply st (push_bytes most l (take (newline_index s) s))
  unfolding answer_block push_bytes newline_index
  answered_one l st [] h = absurd (not-suc-le-zero h)
  answered_one l st (b ∷ s) h = go (eqb b 10) h (λ k. answered_one (push_byte most l b) st s k)
    where
      go : (v : Bool) → cond v 0 (suc (newline_index s)) < suc (length s)
          → (newline_index s < length s → answer_block most next reply (push_byte most l b, st) (take (suc (newline_index s)) s) ≡ reply st (push_bytes most (push_byte most l b) (take (newline_index s) s)))
          → cond v (reply st l) [] ++ answer_block most next reply (cond v (text [], next st l) (push_byte most l b, st)) (take (cond v 0 (suc (newline_index s))) s)
          ≡ reply st (push_bytes most l (take (cond v 0 (suc (newline_index s))) (b ∷ s)))
      go true k ih = append-nil (reply st l)
      go false k ih = ih (le_of_suc-le-suc k)

  -- A block with no newline.
  pub stepped_part : (l : Line) (st : S) (s : Text) → length s ≤ newline_index s → step_block most next reply (l, st) s ≡ (push_bytes most l s, st)
  unfolding step_block push_bytes newline_index
  stepped_part l st [] h = refl
  stepped_part l st (b ∷ s) h = go (eqb b 10) h (λ k. stepped_part (push_byte most l b) st s k)
    where
      go : (v : Bool) → suc (length s) ≤ cond v 0 (suc (newline_index s))
          → (length s ≤ newline_index s → step_block most next reply (push_byte most l b, st) s ≡ (push_bytes most (push_byte most l b) s, st))
          → step_block most next reply (cond v (text [], next st l) (push_byte most l b, st)) s ≡ (push_bytes most (push_byte most l b) s, st)
      go true k ih = absurd (not-suc-le-zero k)
      go false k ih = ih (le_of_suc-le-suc k)

  pub answered_part : (l : Line) (st : S) (s : Text) → length s ≤ newline_index s → answer_block most next reply (l, st) s ≡ []
  unfolding answer_block newline_index
  answered_part l st [] h = refl
  answered_part l st (b ∷ s) h = go (eqb b 10) h (λ k. answered_part (push_byte most l b) st s k)
    where
      go : (v : Bool) → suc (length s) ≤ cond v 0 (suc (newline_index s))
          → (length s ≤ newline_index s → answer_block most next reply (push_byte most l b, st) s ≡ [])
          → cond v (reply st l) [] ++ answer_block most next reply (cond v (text [], next st l) (push_byte most l b, st)) s ≡ []
      go true k ih = absurd (not-suc-le-zero k)
      go false k ih = ih (le_of_suc-le-suc k)

  -- Two blocks, one after another.
  pub stepped_append : (c : Line × S) (a b : Text) → step_block most next reply c (a ++ b) ≡ step_block most next reply (step_block most next reply c a) b
  unfolding step_block
  stepped_append c [] b = refl
  stepped_append c (x ∷ a) b = stepped_append (step_byte most next reply c x) a b

  pub answered_append : (c : Line × S) (a b : Text)
      → answer_block most next reply c (a ++ b) ≡ answer_block most next reply c a ++ answer_block most next reply (step_block most next reply c a) b
  unfolding step_block answer_block
  answered_append c [] b = refl
  answered_append c (x ∷ a) b = rw (answered_append (step_byte most next reply c x) a b, append_assoc)

-- The end of the input acts as one more newline if a line is unfinished.
module _ {S : Type 0} (next : S → Line → S) (reply : S → Line → Text) (st : S) where
  end_some : (most n : ℕ) (mem : Text) (v : Bool) → (v ≡ true → suc n ≤ length mem)
      → answer_end most next reply (cond v (text (take (suc n) mem)) overlong) st ≡ reply st (cond v (text (take (suc n) mem)) overlong)
  end_some most n [] true h = absurd (not-suc-le-zero (h refl))
  end_some most n (x ∷ mem) true h = refl
  end_some most n mem false h = refl

  pub end_newline : (n : ℕ) (mem : Text)
      → answer_end (line_capacity (length mem)) next reply (line_in_buffer n mem) st
      ≡ cond (leb 1 n) (answer_block (line_capacity (length mem)) next reply (line_in_buffer n mem, st) (10 ∷ [])) []
  unfolding answer_block line_in_buffer
  end_newline zero mem = rw (le-leb 0 (line_capacity (length mem)) (omega arith))
  end_newline (suc n) mem =
      let m = line_capacity (length mem) in
      end_some m n mem (leb (suc n) m) (λ e. omega (arith, leb-true (suc n) m e, most_le (length mem)))
      ∙ rw (le-leb 1 (suc n) (omega arith)) (sym (append-nil (reply st (line_in_buffer (suc n) mem))))

-- Two state machines whose states stay in a relation produce the same output.
pub simulates : {S T : Type 0} (R : S → T → Type 0) (next : S → Line → S) (reply : S → Line → Text) (next' : T → Line → T) (reply' : T → Line → Text)
    → ((s : S) (t : T) (l : Line) → R s t → (reply s l ≡ reply' t l) × R (next s l) (next' t l))
    → (ls : List Line) (s : S) (t : T) → R s t → fold_answers next reply s ls ≡ fold_answers next' reply' t ls
unfolding fold_answers
simulates R next reply next' reply' k [] s t r = refl
simulates R next reply next' reply' k (l ∷ ls) s t r =
    let a = k s t l r in
    rw (a.0, simulates R next reply next' reply' k ls (next s l) (next' t l) a.1)
