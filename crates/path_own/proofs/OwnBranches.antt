-- Lemmas for the branches of the functions of this crate.
use mathlib.Core.Path.{◌≡◌, sym, ap, ◌∙◌}
use mathlib.Core.Bool.{Bool, true, false, not}
use Prim.Native.Nat.{ℕ}
use lib.ListN.{length, take}
use lib.Seq.{length-take-le}
use Rattle.text.specs.Text.{Text, lacks_byte, take_until}
use Rattle.text.proofs.UntilLaws.{take_until_length, take_until_slice}
use Rattle.path_grammar.specs.Own.{own_part, has_variant_selection}
use Rattle.path_grammar.proofs.OwnLaws.{selection_scan, lacks_free}

-- Lemmas for `own_part`. The index of a byte lies in the text, whatever the byte is.
pub own_count : (b : ℕ) (p : Text) (n : ℕ) → n ≡ length (take_until b p) → n ≡ length (take n p)
own_count b p n h = sym (length-take-le n p (rw h (take_until_length b p)))

pub own_taken : (p : Text) (n : ℕ) → n ≡ length (take_until 91 p) → take n p ≡ own_part p
unfolding own_part
own_taken p n h = rw h (take_until_slice 91 p)

-- Lemmas for `has_variant_selection`.
module _ (p : Text) (b : Bool) where
  pub selection_none : b ≡ lacks_byte 123 p → b ≡ true → false ≡ has_variant_selection p
  selection_none h t = sym (lacks_free p (sym h ∙ t))

  pub selection_own : (o : Text) → o ≡ own_part p → b ≡ lacks_byte 123 o → not b ≡ has_variant_selection p
  selection_own o e h = rw (selection_scan p) (ap not (h ∙ ap (lacks_byte 123) e))
