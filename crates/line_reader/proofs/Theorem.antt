-- The theorem that the output does not depend on how the input is divided into blocks.
use mathlib.Core.Path.{◌≡◌, refl, sym, ap, ◌∙◌}
use mathlib.Core.Bool.{Bool, true, false, cond}
use mathlib.Core.List.{List, [], ◌∷◌, ◌++◌, map, flatten, append_assoc, append-nil}
use Prim.Native.Nat.{ℕ, suc}
use native.Mathlib.Omega.{arith}
use lib.Dec.{eqb, leb}
use lib.ListN.{length}
use borrow.Author.Tests.{le-leb}
use Rattle.text.specs.Text.{Text}
use Rattle.line_reader.specs.Lines.{Line, text, overlong, line_of, split_lines, lines_of, fold_answers}
use Rattle.line_reader.specs.Blocks.{push_byte, push_bytes, step_block, answer_block, answer_end, answer_blocks, AnyBlocks}
use Rattle.line_reader.proofs.LineLaws.{grown_new, grown_append}
use Rattle.line_reader.proofs.BlockLaws.{stepped_append, answered_append}

-- The empty line.
line_of_nil : (most : ℕ) → line_of most [] ≡ text []
line_of_nil most = rw (le-leb 0 most (omega arith))

-- One more byte on the line so far.
push_line : (most : ℕ) (t : Text) (b : ℕ) → push_byte most (line_of most t) b ≡ line_of most (t ++ (b ∷ []))
unfolding push_bytes
push_line most t b =
    ap (λ (l : Line). push_byte most l b) (sym (grown_new most t)) ∙ sym (grown_append most (text []) t (b ∷ [])) ∙ grown_new most (t ++ (b ∷ []))

module _ {S : Type 0} (most : ℕ) (next : S → Line → S) (reply : S → Line → Text) where
  -- The output for an input that arrives as one block, and for its end.
  abbrev finish : Line × S → Text → Text
  finish c s = answer_block most next reply c s ++ answer_end most next reply (step_block most next reply c s).0 (step_block most next reply c s).1

  joined : (c : Line × S) (bs : List Text) → answer_blocks most next reply c bs ≡ finish c (flatten bs)
  unfolding answer_blocks flatten step_block answer_block
  joined c [] = refl
  joined c (b ∷ bs) =
      rw (joined (step_block most next reply c b) bs, answered_append most next reply c b (flatten bs), stepped_append most next reply c b (flatten bs), append_assoc)

  last_answered : (b : ℕ) (t : Text) (st : S) (v : Bool)
      → answer_end most next reply (cond v (text (b ∷ t)) overlong) st ≡ reply st (cond v (text (b ∷ t)) overlong) ++ []
  last_answered b t st true = sym (append-nil (reply st (text (b ∷ t))))
  last_answered b t st false = sym (append-nil (reply st overlong))

  -- The line so far and the state after a byte; the flag states whether it is a newline.
  abbrev after : Text → S → ℕ → Bool → Line × S
  after t st b v = cond v (text [], next st (line_of most t)) (push_byte most (line_of most t) b, st)

  -- The output for the whole input, where t is the line so far.
  whole : (t : Text) (st : S) (s : Text) → finish (line_of most t, st) s ≡ fold_answers next reply st (map (line_of most) (split_lines t s))
  unfolding step_block answer_block split_lines fold_answers
  whole [] st [] = rw (line_of_nil most)
  whole (x ∷ t) st [] = last_answered x t st (leb (suc (length t)) most)
  whole t st (b ∷ s) = go (eqb b 10) (whole [] (next st (line_of most t)) s) (whole (t ++ (b ∷ [])) st s)
    where
      go : (v : Bool)
          → finish (line_of most [], next st (line_of most t)) s ≡ fold_answers next reply (next st (line_of most t)) (map (line_of most) (split_lines [] s))
          → finish (line_of most (t ++ (b ∷ [])), st) s ≡ fold_answers next reply st (map (line_of most) (split_lines (t ++ (b ∷ [])) s))
          → (cond v (reply st (line_of most t)) [] ++ answer_block most next reply (after t st b v) s)
          ++ answer_end most next reply (step_block most next reply (after t st b v) s).0 (step_block most next reply (after t st b v) s).1
          ≡ fold_answers next reply st (map (line_of most) (cond v (t ∷ split_lines [] s) (split_lines (t ++ (b ∷ [])) s)))
      go true one two = rw append_assoc (ap (λ (r : Text). reply st (line_of most t) ++ r) (rw (line_of_nil most) at one))
      go false one two = rw (push_line most t b) two

pub any_blocks : AnyBlocks
unfolding AnyBlocks lines_of
any_blocks S most next reply st bs =
    joined most next reply (text [], st) bs ∙ (rw (line_of_nil most) at (whole most next reply [] st (flatten bs)))
