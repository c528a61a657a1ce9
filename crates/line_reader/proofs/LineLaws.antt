-- Lemmas about appending bytes to the line so far in its buffer.
use mathlib.Core.Path.{◌≡◌, refl, sym, ap, ◌∙◌}
use mathlib.Core.Bool.{Bool, true, false, cond}
use mathlib.Core.List.{[], ◌∷◌, ◌++◌, append_assoc, append-nil}
use Prim.Native.Nat.{ℕ, suc, ◌+◌, ◌≤◌}
use native.Mathlib.Numerals.{add-one}
use native.Mathlib.Omega.{arith}
use lib.Dec.{leb}
use lib.ListN.{length, take, drop, length-append, length-drop}
use lib.Seq.{length-take-le, take_at}
use borrow.Author.Tests.{le-leb, lt-leb, leb-true, leb-false}
use Rattle.text.specs.Text.{Text, written_if_fits}
use Rattle.line_reader.specs.Lines.{Line, text, overlong, line_of, line_capacity, line_in_buffer}
use Rattle.line_reader.specs.Blocks.{push_byte, push_bytes}
use Rattle.line_reader.specs.TakeLine.{line_length_after, line_buffer_after}
use Rattle.line_reader.proofs.TakeLaws.{most_le}

-- An overlong line stays overlong.
grown_overlong : (most : ℕ) (s : Text) → push_bytes most overlong s ≡ overlong
unfolding push_bytes
grown_overlong most [] = refl
grown_overlong most (b ∷ s) = grown_overlong most s

-- Any other line has its bytes, until they are too many.
grown_text : (most : ℕ) (t s : Text) → length t ≤ most → push_bytes most (text t) s ≡ line_of most (t ++ s)
unfolding push_bytes
grown_text most t [] h = rw (append-nil t, le-leb (length t) most h)
grown_text most t (b ∷ s) h = go (leb (suc (length t)) most) refl (λ k. grown_text most (t ++ (b ∷ [])) s k)
  where
    longer : length (t ++ (b ∷ [])) ≡ suc (length t)
    longer = length-append t (b ∷ []) ∙ add-one (length t)

    go : (v : Bool) → leb (suc (length t)) most ≡ v
        → (length (t ++ (b ∷ [])) ≤ most → push_bytes most (text (t ++ (b ∷ []))) s ≡ line_of most ((t ++ (b ∷ [])) ++ s))
        → push_bytes most (cond v (text (t ++ (b ∷ []))) overlong) s ≡ line_of most (t ++ (b ∷ s))
    go true e ih = rw (ih (omega (arith, longer, leb-true (suc (length t)) most e)), append_assoc t (b ∷ []) s)
    go false e ih =
        rw (grown_overlong most s, lt-leb (length (t ++ (b ∷ s))) most (omega (arith, length-append t (b ∷ s), leb-false (suc (length t)) most e)))

pub grown_new : (most : ℕ) (s : Text) → push_bytes most (text []) s ≡ line_of most s
grown_new most s = grown_text most [] s (omega arith)

pub grown_append : (most : ℕ) (l : Line) (s r : Text) → push_bytes most l (s ++ r) ≡ push_bytes most (push_bytes most l s) r
unfolding push_bytes
grown_append most l [] r = refl
grown_append most l (b ∷ s) r = grown_append most (push_byte most l b) s r

-- A text that is written after n bytes.
module _ (n : ℕ) (s mem : Text) (h : n + length s ≤ length mem) where
  head_length : length (take n mem ++ s) ≡ n + length s
  head_length = length-append (take n mem) s ∙ ap (λ (k : ℕ). k + length s) (length-take-le n mem (omega arith))

  placed_head : written_if_fits n s mem ≡ (take n mem ++ s) ++ drop (n + length s) mem
  unfolding written_if_fits
  placed_head = rw (le-leb (n + length s) (length mem) h) (sym (append_assoc (take n mem) s (drop (n + length s) mem)))

  placed_read : take (n + length s) (written_if_fits n s mem) ≡ take n mem ++ s
  placed_read = rw placed_head (take_at (take n mem ++ s) (drop (n + length s) mem) (n + length s) head_length)

  placed_length : length (written_if_fits n s mem) ≡ length mem
  placed_length =
      rw (placed_head, length-append (take n mem ++ s) (drop (n + length s) mem), head_length, length-drop (n + length s) mem) (omega arith)

module _ (most n : ℕ) (s mem : Text) (h : most ≤ length mem) where
  pub memory_length : length (line_buffer_after most n s mem) ≡ length mem
  unfolding line_buffer_after
  memory_length = go (leb (n + length s) most) refl
    where
      go : (v : Bool) → leb (n + length s) most ≡ v → length (cond v (written_if_fits n s mem) mem) ≡ length mem
      go true e = placed_length n s mem (omega (arith, leb-true (n + length s) most e))
      go false e = refl

  -- A line that is not overlong.
  grown_line : n ≤ most → push_bytes most (text (take n mem)) s ≡ cond (leb (n + length s) most) (text (take n mem ++ s)) overlong
  grown_line k =
      let l : length (take n mem) ≡ n = length-take-le n mem (omega arith) in
      rw (grown_text most (take n mem) s (omega arith), length-append (take n mem) s, l)

  grown_at : cond (leb (line_length_after most n (length s)) most) (text (take (line_length_after most n (length s)) (line_buffer_after most n s mem))) overlong
      ≡ push_bytes most (cond (leb n most) (text (take n mem)) overlong) s
  unfolding line_length_after line_buffer_after
  grown_at = go (leb n most) refl (leb (n + length s) most) refl
    where
      go : (u : Bool) → leb n most ≡ u → (v : Bool) → leb (n + length s) most ≡ v
          → cond (leb (cond v (n + length s) (most + 1)) most) (text (take (cond v (n + length s) (most + 1)) (cond v (written_if_fits n s mem) mem))) overlong
          ≡ push_bytes most (cond u (text (take n mem)) overlong) s
      go true e true f = rw (f, placed_read n s mem (omega (arith, leb-true (n + length s) most f)), grown_line (leb-true n most e), f)
      go true e false f = rw (lt-leb (most + 1) most (omega arith), grown_line (leb-true n most e), f)
      go false e true f = absurd (omega (arith, leb-false n most e, leb-true (n + length s) most f))
      go false e false f = rw (lt-leb (most + 1) most (omega arith), grown_overlong most s)

-- After bytes are appended, the line in the buffer is the line grown by them.
pub line_grown : (n : ℕ) (mem s : Text)
    → line_in_buffer (line_length_after (line_capacity (length mem)) n (length s)) (line_buffer_after (line_capacity (length mem)) n s mem) ≡ push_bytes (line_capacity (length mem)) (line_in_buffer n mem) s
unfolding line_in_buffer
line_grown n mem s =
    rw (memory_length (line_capacity (length mem)) n s mem (most_le (length mem))) (grown_at (line_capacity (length mem)) n s mem (most_le (length mem)))
