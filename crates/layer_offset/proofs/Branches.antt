-- Lemmas for the branches of the functions: the result p of a test is known, and the value that it selects is returned.
use mathlib.Core.Path.{◌≡◌, sym, ◌∙◌}
use mathlib.Core.Bool.{Bool, true, false, not, cond, ◌&&◌}
use Prim.Native.Nat.{ℕ}
use lib.Dec.{eqb}
use borrow.Author.Tests.{eq-eqb, ne_eqb}
use Rattle.layer_offset.specs.declared.LayerOffset.{LayerOffset}
use Rattle.layer_offset.specs.declared.OffsetBits.{OffsetBits}
use Rattle.layer_offset.specs.Number.{bit_pattern}
use Rattle.layer_offset.specs.Offset.{offset_bits, same_bits}

-- A conjunction whose first test passed, and one whose first test failed.
pub and_on : (a b p r : Bool) → p ≡ a → p ≡ true → r ≡ b → r ≡ (a && b)
and_on a b p r h k e = rw (sym h ∙ k) e

pub and_left : (a b p : Bool) → p ≡ a → p ≡ false → p ≡ (a && b)
and_left a b p h k = rw (sym h ∙ k) k

-- A conjunction whose first test compares numbers.
pub same_on : (m n : ℕ) (b : Bool) → m ≡ n → b ≡ (eqb m n && b)
same_on m n b h = rw (eq-eqb m n h)

pub same_left : (m n : ℕ) (b : Bool) → (m ≡ n → ⊥) → eqb m n ≡ (eqb m n && b)
same_left m n b h = rw (ne_eqb m n h)

pub flipped : (a p : Bool) → p ≡ a → not p ≡ not a
flipped a p h = rw h

-- The bit patterns of a time offset, and the comparison of those of two.
pub patterned : (o : LayerOffset) (m n : ℕ) → m ≡ bit_pattern o.offset → n ≡ bit_pattern o.scale → record { 0 = m; 1 = n } ≡ offset_bits o
patterned o m n h k = rw (h, k)

pub compared : (a b : LayerOffset) (x y : OffsetBits) (r : Bool) → x ≡ offset_bits a → y ≡ offset_bits b → r ≡ same_bits x y
    → r ≡ same_bits (offset_bits a) (offset_bits b)
compared a b x y r h k e = rw (h, k) at e

-- A conditional whose test passed, and one whose test failed.
pub pick_on : {X : Type 0} (t p : Bool) (r x y : X) → p ≡ t → p ≡ true → r ≡ x → r ≡ cond t x y
pick_on t p r x y h k e = rw (sym h ∙ k) e

pub pick_left : {X : Type 0} (t p : Bool) (r x y : X) → p ≡ t → p ≡ false → r ≡ y → r ≡ cond t x y
pick_left t p r x y h k e = rw (sym h ∙ k) e

pub ruleset ways = (and_on, and_left, same_on, same_left, flipped, compared, pick_on, pick_left)
