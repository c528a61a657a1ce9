-- Lemmas about the branches of writing a line.
use mathlib.Core.Path.{◌≡◌, sym, ap, ◌∙◌}
use mathlib.Core.List.{[], ◌∷◌}
use Prim.Native.Nat.{ℕ, ◌+◌, ◌*◌, ◌≤◌}
use native.Mathlib.Omega.{arith}
use lib.ListN.{length, length-append}
use borrow.Author.Tests.{le-leb}
use Rattle.text.specs.Text.{Text, written_at, written_if_fits}
use Rattle.pair_list_write.proofs.WriteBranches.{over_over}
use Rattle.hex_digits.specs.Hex.{encode_hex}
use Rattle.hex_digits.proofs.EncodeLaws.{encoded_length}
use Rattle.frame_answer.specs.Answer.{line_text, WroteAt}

placed_fits : (at : ℕ) (t out : Text) → at + length t ≤ length out → written_if_fits at t out ≡ written_at at t out
unfolding written_if_fits
placed_fits at t out h = rw (le-leb (at + length t) (length out) h)

-- `write_line`: the two bytes, the payload and the newline are written consecutively.
module _ (h a : ℕ) (payload out : Text) (at : ℕ) (room : at + 5 + 2 * length payload ≤ length out) where
  abbrev digits : Text
  digits = encode_hex (h ∷ a ∷ payload)

  size : length digits ≡ 4 + 2 * length payload
  size = encoded_length (h ∷ a ∷ payload) ∙ omega arith

  both : written_if_fits (at + 4) (encode_hex payload) (written_if_fits at (encode_hex (h ∷ a ∷ [])) out) ≡ written_at at digits out
  unfolding encode_hex
  both = over_over at (encode_hex (h ∷ a ∷ [])) (encode_hex payload) out (omega (arith, encoded_length payload, room))

  pub line_written : (one two three : Text) → one ≡ written_if_fits at (encode_hex (h ∷ a ∷ [])) out → two ≡ written_if_fits (at + 4) (encode_hex payload) one
      → three ≡ written_if_fits (at + 4 + 2 * length payload) (10 ∷ []) two
      → WroteAt (line_text (h ∷ a ∷ payload)) at (at + 4 + 2 * length payload + 1) out three
  unfolding WroteAt line_text
  line_written one two three e f g =
      let n : at + 4 + 2 * length payload ≡ at + length digits = omega (arith, size) in (
        rw (length-append digits (10 ∷ [])) (omega (arith, size)),
        g ∙ ap (λ (k : ℕ). written_if_fits k (10 ∷ []) two) n
            ∙ ap (written_if_fits (at + length digits) (10 ∷ [])) (f ∙ ap (written_if_fits (at + 4) (encode_hex payload)) e ∙ both ∙ sym (placed_fits at digits out (omega (arith, size, room))))
            ∙ over_over at digits (10 ∷ []) out (omega (arith, size, room)),
      )
