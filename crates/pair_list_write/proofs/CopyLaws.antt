-- Lemmas about copying the places of a pair.
use mathlib.Core.Path.{◌≡◌, refl, ◌∙◌}
use mathlib.Core.List.{List, [], ◌∷◌, ◌++◌}
use Prim.Native.Nat.{ℕ, zero, suc, ◌+◌, ◌*◌, ◌/◌, ◌≤◌, ◌<◌}
use native.Mathlib.Omega.{arith}
use borrow.Author.Tests.{le-leb, lt-leb}
use lib.ListN.{length, get_or, take, drop, get_or-append}
use lib.Seq.{get_or-append-add, get_or-take, length-take-le}
use Rattle.text.specs.Text.{Text, written_at, written_if_fits}
use Rattle.text_list.specs.Places.{in_store, text_at}
use Rattle.pair_list.specs.Places.{pair_in, pairs_in}
use Rattle.pair_list_write.specs.Lists.{entry_at, copy_entry}

-- A text depends only on its own two numbers.
pub text_same : (store : Text) (a b : List ℕ) (i j : ℕ) → get_or a (2 * i) 0 ≡ get_or b (2 * j) 0 → get_or a (2 * i + 1) 0 ≡ get_or b (2 * j + 1) 0
    → text_at store a i ≡ text_at store b j
unfolding text_at in_store
text_same store a b i j s n = rw (s, n) refl

-- A pair depends only on its own four numbers.
pub pair_same : (store : Text) (a b : List ℕ) (i j : ℕ) → ((k : ℕ) → k < 4 → get_or a (4 * i + k) 0 ≡ get_or b (4 * j + k) 0) → pair_in store a i ≡ pair_in store b j
unfolding pair_in
pair_same store a b i j h =
    let e : 4 * i + 0 ≡ 2 * (2 * i) = omega arith in
    let e' : 4 * j + 0 ≡ 2 * (2 * j) = omega arith in
    let f : 4 * i + 1 ≡ 2 * (2 * i) + 1 = omega arith in
    let f' : 4 * j + 1 ≡ 2 * (2 * j) + 1 = omega arith in
    let g : 4 * i + 2 ≡ 2 * (2 * i + 1) = omega arith in
    let g' : 4 * j + 2 ≡ 2 * (2 * j + 1) = omega arith in
    let k : 4 * i + 3 ≡ 2 * (2 * i + 1) + 1 = omega arith in
    let k' : 4 * j + 3 ≡ 2 * (2 * j + 1) + 1 = omega arith in
    rw (
      text_same store a b (2 * i) (2 * j) (rw (e, e') at (h 0 (omega arith))) (rw (f, f') at (h 1 (omega arith))),
      text_same store a b (2 * i + 1) (2 * j + 1) (rw (g, g') at (h 2 (omega arith))) (rw (k, k') at (h 3 (omega arith))),
    ) refl

-- A list depends only on the numbers of its pairs.
pub list_same : (store : Text) (a b : List ℕ) (n : ℕ) → ((k : ℕ) → k < 4 * n → get_or a k 0 ≡ get_or b k 0) → pairs_in store a n ≡ pairs_in store b n
unfolding pairs_in
list_same store a b zero h = refl
list_same store a b (suc n) h =
    rw (list_same store a b n (λ k l. h k (omega arith)), pair_same store a b n n (λ k l. h (4 * n + k) (omega arith))) refl

pub over_below : (at : ℕ) (v l : List ℕ) (k : ℕ) → at ≤ length l → k < at → get_or (written_at at v l) k 0 ≡ get_or l k 0
over_below at v l k h m =
    get_or-append (take at l) (v ++ drop (at + length v) l) 0 k (rw (length-take-le at l h) m) ∙ get_or-take at l k 0 m

pub over_inside : (at : ℕ) (v l : List ℕ) (k : ℕ) → at ≤ length l → k < length v → get_or (written_at at v l) (at + k) 0 ≡ get_or v k 0
over_inside at v l k h m =
    (rw (length-take-le at l h) at (get_or-append-add (take at l) (v ++ drop (at + length v) l) k 0)) ∙ get_or-append v (drop (at + length v) l) 0 k m

pub entry_at_lem : (places : List ℕ) (i k : ℕ) → k < 4 → get_or (entry_at places i) k 0 ≡ get_or places (4 * i + k) 0
entry_at_lem places i zero h = let z : 4 * i + 0 ≡ 4 * i = omega arith in rw z refl
entry_at_lem places i (suc zero) h = refl
entry_at_lem places i (suc (suc zero)) h = refl
entry_at_lem places i (suc (suc (suc zero))) h = refl
entry_at_lem places i (suc (suc (suc (suc k)))) h = absurd (omega arith)

pub pushed : (store : Text) (places : List ℕ) (i : ℕ) (kept : List ℕ) (w : ℕ) → 4 * w + 4 ≤ length kept
    → pairs_in store (written_at (4 * w) (entry_at places i) kept) (suc w) ≡ pairs_in store kept w ++ pair_in store places i ∷ []
unfolding pairs_in
pushed store places i kept w h =
    rw (
      list_same store (written_at (4 * w) (entry_at places i) kept) kept w (λ k l. over_below (4 * w) (entry_at places i) kept k (omega arith) l),
      pair_same store (written_at (4 * w) (entry_at places i) kept) places w i (λ k l. over_inside (4 * w) (entry_at places i) kept k (omega arith) l ∙ entry_at_lem places i k l),
    ) refl

-- If both pairs lie in their slices, copying writes the four numbers.
pub copied_over : (places : List ℕ) (i w : ℕ) (slots : List ℕ) → 4 * i + 4 ≤ length places → 4 * w + 4 ≤ length slots
    → copy_entry places i w slots ≡ written_at (4 * w) (entry_at places i) slots
unfolding copy_entry written_if_fits
copied_over places i w slots h k =
    rw (lt-leb (length places / 4) i (omega arith), le-leb (4 * w + 4) (length slots) k) refl
