-- Lemmas about the ends and the place entries of a list, pair by pair.
use mathlib.Core.Path.{◌≡◌, refl}
use mathlib.Core.Bool.{Bool, true, ◌&&◌}
use mathlib.Core.List.{List, [], ◌∷◌, ◌++◌}
use Prim.Native.Nat.{ℕ, zero, suc, ◌+◌, ◌*◌, ◌≤◌, ◌<◌}
use native.Mathlib.Omega.{arith}
use lib.ListN.{length, take}
use Rattle.text.specs.Text.{Text}
use Rattle.text.proofs.BoolLaws.{and_l, and_r}
use Rattle.path_grammar.specs.Legal.{at_most255}
use Rattle.pair_list.specs.Pair.{Pair, source_at, target_at, every_end, all_short}
use Rattle.pair_list.specs.Places.{list_places, pair_entry, end_bytes}
use Rattle.route_spec.proofs.RelocateLaws.{every_at}
use Rattle.frames_memory.specs.Represents.{StoredAt}
use Rattle.pair_list.proofs.PlaceLaws.{short_at}

-- If every end and the empty text pass a test, the ends at each index pass it.
pub ends_at : (passes : Text → Bool) → passes [] ≡ true → (l : List Pair) → every_end passes l ≡ true → (i : ℕ) → (passes (source_at l i) ≡ true) × (passes (target_at l i) ≡ true)
ends_at passes none l e i =
    let a : (passes (source_at l i) && passes (target_at l i)) ≡ true = every_at passes none l e i in
    (and_l (passes (source_at l i)) (passes (target_at l i)) a, and_r (passes (source_at l i)) (passes (target_at l i)) a)

-- At most 510 bytes for each pair.
pub short_bytes : (l : List Pair) → all_short l ≡ true → end_bytes l ≤ 510 * length l
unfolding all_short end_bytes every_end
short_bytes [] e = omega arith
short_bytes (x ∷ l) e =
    let a = short_at (x ∷ l) e 0 in
    omega (arith, a.0, a.1, short_bytes l (and_r (at_most255 x.source && at_most255 x.target) (all_short l) e))

-- Pair i ends within the bytes of the whole list.
pub end_at : (l : List Pair) (i : ℕ) → i < length l → end_bytes (take i l) + (length (source_at l i) + length (target_at l i)) ≤ end_bytes l
unfolding end_bytes
end_at [] i h = absurd (omega arith)
end_at (x ∷ l) zero h = omega arith
end_at (x ∷ l) (suc i) h = omega (arith, end_at l i (omega arith))

-- The four place entries of pair i.
pub entry_at_lem : (l : List Pair) (at i : ℕ) (later : List ℕ) → i < length l
    → StoredAt (list_places at l ++ later) (4 * i) (pair_entry (at + end_bytes (take i l)) (source_at l i) (target_at l i))
unfolding list_places end_bytes
entry_at_lem [] at i later h = absurd (omega arith)
entry_at_lem (x ∷ l) at zero later h = let z : at + 0 ≡ at = omega arith in rw z refl
entry_at_lem (x ∷ l) at (suc i) later h =
    let z : 4 * suc i ≡ suc (suc (suc (suc (4 * i)))) = omega arith in
    let n : at + (length x.source + length x.target + end_bytes (take i l)) ≡ at + length x.source + length x.target + end_bytes (take i l) = omega arith in
    rw (z, n) (entry_at_lem l (at + length x.source + length x.target) i later (omega arith))
