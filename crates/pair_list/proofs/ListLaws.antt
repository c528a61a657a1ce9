-- The theorem that reading a list that was written yields that list.
use mathlib.Core.Path.{◌≡◌, refl, ◌∙◌}
use mathlib.Core.List.{List, [], ◌∷◌, ◌++◌}
use Prim.Native.Nat.{ℕ, zero, suc, ◌+◌, ◌*◌, ◌<◌}
use native.Mathlib.Nat.{zero-add}
use native.Mathlib.Omega.{arith}
use lib.ListN.{length, get_or, drop}
use lib.Seq.{ext_get_or}
use Rattle.text.specs.Text.{Text, written}
use Rattle.text_list.specs.Packed.{text_size}
use Rattle.text_list.proofs.PackedLaws.{bytes_length, places_length as numbers-length, read_texts}
use Rattle.pair_list.specs.Pair.{Pair, empty_pair, ends_of, pair_at, source_at, target_at}
use Rattle.pair_list.specs.Places.{pair_in, pairs_in, list_text, list_places, end_bytes, ListRoundTrip}
use Rattle.pair_list.proofs.PlaceLaws.{pairs_in_length, pairs_in_at}

-- The ends of a list, as texts.
pub ends_length : (l : List Pair) → length (ends_of l) ≡ 2 * length l
unfolding ends_of
ends_length [] = refl
ends_length (x ∷ l) = omega (arith, ends_length l)

pub ends_append : (l k : List Pair) → ends_of (l ++ k) ≡ ends_of l ++ ends_of k
unfolding ends_of
ends_append [] k = refl
ends_append (x ∷ l) k = rw (ends_append l k) refl

pub ends_size : (l : List Pair) → text_size (ends_of l) ≡ end_bytes l
unfolding ends_of text_size end_bytes
ends_size [] = refl
ends_size (x ∷ l) = omega (arith, ends_size l)

ends_at : (l : List Pair) (i : ℕ) → (get_or (ends_of l) (2 * i) [] ≡ source_at l i) × (get_or (ends_of l) (2 * i + 1) [] ≡ target_at l i)
unfolding ends_of
ends_at [] i = (refl, refl)
ends_at (x ∷ l) zero = (refl, refl)
ends_at (x ∷ l) (suc i) =
    let z : 2 * suc i ≡ suc (suc (2 * i)) = omega arith in
    let y : 2 * suc i + 1 ≡ suc (suc (2 * i + 1)) = omega arith in
    (rw z (ends_at l i).0, rw y (ends_at l i).1)

pub list_length : (l : List Pair) → length (list_text l) ≡ end_bytes l
unfolding list_text
list_length l = bytes_length (ends_of l) ∙ ends_size l

pub places_length : (at : ℕ) (l : List Pair) → length (list_places at l) ≡ 4 * length l
unfolding list_places
places_length at l = omega (arith, numbers-length at (ends_of l), ends_length l)

-- Every pair of a list that is stored after k others.
pub read_pairs : (l : List Pair) (i k : ℕ) (before after : Text) (earlier later : List ℕ) → length earlier ≡ 4 * k → i < length l
    → pair_in (before ++ (list_text l ++ after)) (earlier ++ (list_places (length before) l ++ later)) (k + i) ≡ pair_at l i
unfolding list_text list_places pair_in
read_pairs l i k before after earlier later e h =
    let z : 2 * (k + i) ≡ 2 * k + 2 * i = omega arith in
    let y : 2 * k + 2 * i + 1 ≡ 2 * k + (2 * i + 1) = omega arith in
    let n = ends_length l in
    let s = read_texts (ends_of l) (2 * i) (2 * k) before after earlier later (omega arith) (omega arith) ∙ (ends_at l i).0 in
    let t = read_texts (ends_of l) (2 * i + 1) (2 * k) before after earlier later (omega arith) (omega arith) ∙ (ends_at l i).1 in
    rw (z, y, s, t) refl

pub read_back : ListRoundTrip
read_back l store places =
    ext_get_or empty_pair (pairs_in (written (list_text l) store) (written (list_places 0 l) places) (length l)) l
    (pairs_in_length (written (list_text l) store) (written (list_places 0 l) places) (length l))
    (λ i h. one i (rw (pairs_in_length (written (list_text l) store) (written (list_places 0 l) places) (length l)) at h))
  where
    one : (i : ℕ) → i < length l → pair_at (pairs_in (written (list_text l) store) (written (list_places 0 l) places) (length l)) i ≡ pair_at l i
    one i h =
        pairs_in_at (written (list_text l) store) (written (list_places 0 l) places) (length l) i h
        ∙ rw (zero-add i) at (read_pairs l i 0 [] (drop (length (list_text l)) store) [] (drop (length (list_places 0 l)) places) refl h)
