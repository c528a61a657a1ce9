-- Lemmas about the range test.
use mathlib.Core.Path.{◌≡◌}
use mathlib.Core.Bool.{true, false}
use Prim.Native.Nat.{ℕ, ◌≤◌, ◌<◌}
use lib.Dec.{leb}
use borrow.Author.Tests.{le-leb, lt-leb, leb-true}
use Rattle.text.specs.Range.{in_range}
use Rattle.text.proofs.BoolLaws.{and_l, and_r, and_no}

pub within_yes : (low high n : ℕ) → low ≤ n → n ≤ high → in_range low high n ≡ true
within_yes low high n h k = rw (le-leb low n h, le-leb n high k)

pub within_below : (low high n : ℕ) → n < low → in_range low high n ≡ false
within_below low high n h = rw (lt-leb low n h)

pub within_above : (low high n : ℕ) → high < n → in_range low high n ≡ false
within_above low high n h = rw (lt-leb n high h) (and_no (leb low n))

pub within_low : (low high n : ℕ) → in_range low high n ≡ true → low ≤ n
within_low low high n e = leb-true low n (and_l (leb low n) (leb n high) e)

pub within_high : (low high n : ℕ) → in_range low high n ≡ true → n ≤ high
within_high low high n e = leb-true n high (and_r (leb low n) (leb n high) e)
