-- The theorems about packed lists of texts: what was written is read back, and appending texts keeps the list packed.
use mathlib.Core.Path.{◌≡◌, refl, sym, ap, ◌∙◌}
use mathlib.Core.List.{List, [], ◌∷◌, ◌++◌, append_assoc}
use Prim.Native.Nat.{ℕ, zero, suc, ◌+◌, ◌*◌, ◌-◌, ◌≤◌, ◌<◌}
use native.Mathlib.Nat.{zero-add}
use native.Mathlib.Omega.{arith}
use native.Mathlib.Decide.{ℕ_discrete}
use lib.ListN.{length, get_or, drop, length-append, get_or-append}
use lib.Seq.{ext_get_or, get_or-append-add, get_or-append_seam, take-append_seam, drop-append_seam, drop-append-add, drop-drop}
use borrow.Author.Tests.{le-leb}
use Rattle.text.specs.Text.{Text, written, written_at}
use Rattle.text.proofs.WriteLaws.{over_written}
use Rattle.text_list.specs.Places.{in_store, text_at, texts_in}
use Rattle.text_list.specs.Packed.{text_bytes, text_size, text_places, PackedTexts, HoldsTexts, PackedLaws}

-- The bytes, their number and the places of two lists, one after the other.
pub bytes_append : (l k : List Text) → text_bytes (l ++ k) ≡ text_bytes l ++ text_bytes k
unfolding text_bytes
bytes_append [] k = refl
bytes_append (t ∷ l) k = rw (bytes_append l k) (simp append_assoc)

pub size_append : (l k : List Text) → text_size (l ++ k) ≡ text_size l + text_size k
unfolding text_size
size_append [] k = omega arith
size_append (t ∷ l) k = omega (arith, size_append l k)

pub places_append : (at : ℕ) (l k : List Text) → text_places at (l ++ k) ≡ text_places at l ++ text_places (at + text_size l) k
unfolding text_places text_size
places_append at [] k = let z : at + 0 ≡ at = omega arith in rw z refl
places_append at (t ∷ l) k =
    let z : at + length t + text_size l ≡ at + (length t + text_size l) = omega arith in
    rw (places_append (at + length t) l k, z) refl

pub bytes_length : (l : List Text) → length (text_bytes l) ≡ text_size l
unfolding text_bytes text_size
bytes_length [] = refl
bytes_length (t ∷ l) = simp length-append (omega (arith, bytes_length l))

pub places_length : (at : ℕ) (l : List Text) → length (text_places at l) ≡ 2 * length l
unfolding text_places
places_length at [] = refl
places_length at (t ∷ l) = let e = places_length (at + length t) l in omega arith

-- The texts at the first n places, one by one.
module _ (store : Text) (places : List ℕ) where
  pub texts_in_length : (n : ℕ) → length (texts_in store places n) ≡ n
  unfolding texts_in
  texts_in_length zero = refl
  texts_in_length (suc n) = rw (length-append (texts_in store places n) (text_at store places n ∷ []), texts_in_length n) (omega arith)

  texts_in_at : (n i : ℕ) → i < n → get_or (texts_in store places n) i [] ≡ text_at store places i
  unfolding texts_in
  texts_in_at zero i h = absurd (omega arith)
  texts_in_at (suc n) i h = elim (ℕ_discrete i n) [ yes e ↦ last e | no d ↦ earlier (omega arith) (texts_in_at n i) ]
    where
      all : List Text
      all = texts_in store places n

      last : i ≡ n → get_or (all ++ text_at store places n ∷ []) i [] ≡ text_at store places i
      last e = rw e (rw (texts_in_length n) at (get_or-append_seam all (text_at store places n) [] []))

      earlier : i < n → (i < n → get_or all i [] ≡ text_at store places i) → get_or (all ++ text_at store places n ∷ []) i [] ≡ text_at store places i
      earlier l f = get_or-append all (text_at store places n ∷ []) [] i (rw (texts_in_length n) l) ∙ f l

-- A text that is stored after `before`, read at its place.
read_text : (before t after : Text) (places : List ℕ) (j : ℕ) → get_or places (2 * j) 0 ≡ length before → get_or places (2 * j + 1) 0 ≡ length t
    → text_at (before ++ (t ++ after)) places j ≡ t
unfolding text_at in_store
read_text before t after places j s n =
    let r : length (before ++ (t ++ after)) ≡ length before + (length t + length after) = simp length-append in
    rw (s, n, le-leb (length before + length t) (length (before ++ (t ++ after))) (omega arith), drop-append_seam before (t ++ after), take-append_seam t after)

-- Every text of a list that is stored after k others, whose bytes are `before` and whose numbers are `earlier`.
pub read_texts : (l : List Text) (i k : ℕ) (before after : Text) (earlier later : List ℕ) → length earlier ≡ 2 * k → i < length l
    → text_at (before ++ (text_bytes l ++ after)) (earlier ++ (text_places (length before) l ++ later)) (k + i) ≡ get_or l i []
unfolding text_bytes text_places
read_texts [] i k before after earlier later e h = absurd (omega arith)
read_texts (t ∷ l) zero k before after earlier later e h =
    let z : k + 0 ≡ k = omega arith in
    rw (z, append_assoc t (text_bytes l) after)
    (read_text before t (text_bytes l ++ after) (earlier ++ numbers) k (named (2 * k) 0 (omega arith)) (named (2 * k + 1) 1 (omega arith)))
  where
    numbers : List ℕ
    numbers = length before ∷ length t ∷ (text_places (length before + length t) l ++ later)

    named : (j n : ℕ) → j ≡ length earlier + n → get_or (earlier ++ numbers) j 0 ≡ get_or numbers n 0
    named j n q = rw q (get_or-append-add earlier numbers n 0)
read_texts (t ∷ l) (suc i) k before after earlier later e h =
    let b : Text = before ++ t in
    let n : length b ≡ length before + length t = length-append before t in
    let z : k + suc i ≡ k + 1 + i = omega arith in
    let s : before ++ ((t ++ text_bytes l) ++ after) ≡ b ++ (text_bytes l ++ after) = simp append_assoc in
    let two : List ℕ = length before ∷ length t ∷ [] in
    let q : length (earlier ++ two) ≡ 2 * (k + 1) = simp length-append (omega arith) in
    let p : earlier ++ (two ++ (text_places (length b) l ++ later)) ≡ (earlier ++ two) ++ (text_places (length b) l ++ later)
    = sym (append_assoc earlier two (text_places (length b) l ++ later)) in
    rw (z, s, ← n, p) (read_texts l i (k + 1) b after (earlier ++ two) later q (omega arith))

written_back : (l : List Text) (store : Text) (places : List ℕ) → texts_in (written (text_bytes l) store) (written (text_places 0 l) places) (length l) ≡ l
written_back l store places =
    ext_get_or [] (texts_in (written (text_bytes l) store) (written (text_places 0 l) places) (length l)) l
    (texts_in_length (written (text_bytes l) store) (written (text_places 0 l) places) (length l))
    (λ i h. one i (rw (texts_in_length (written (text_bytes l) store) (written (text_places 0 l) places) (length l)) at h))
  where
    one : (i : ℕ) → i < length l → get_or (texts_in (written (text_bytes l) store) (written (text_places 0 l) places) (length l)) i [] ≡ get_or l i []
    one i h =
        texts_in_at (written (text_bytes l) store) (written (text_places 0 l) places) (length l) i h
        ∙ rw (zero-add i) at (read_texts l i 0 [] (drop (length (text_bytes l)) store) [] (drop (length (text_places 0 l)) places) refl h)

-- A longer text written over a shorter one overwrites it completely.
written_longer : (x y out : List ℕ) → length x ≤ length y → written y (written x out) ≡ written y out
written_longer x y out h =
    let k : ℕ = length y - length x in
    let z : length y ≡ length x + k = omega arith in
    rw (z, drop-append-add x (drop (length x) out) k, drop-drop k (length x) out) refl

-- Every buffer holds the empty list.
pub packed_none : (bytes : Text) (slots : List ℕ) → HoldsTexts [] 0 0 bytes slots
unfolding text_bytes text_places text_size
packed_none bytes slots = record { number = refl; end = refl; text = refl; places = refl }

module _ (l : List Text) (n at : ℕ) (o : Text) (p : List ℕ) (bytes : Text) (slots : List ℕ) (c : PackedTexts l n at o p bytes slots) where
  pub packed_read : texts_in bytes slots n ≡ l
  packed_read = rw (c.number, c.text, c.places) (written_back l o p)

  pub packed_append : (k : List Text)
      → PackedTexts (l ++ k) (n + length k) (at + text_size k) o p (written_at at (text_bytes k) bytes) (written_at (2 * n) (text_places at k) slots)
  packed_append k = record {
    number = rw (length-append l k, c.number) refl;
    end = rw (size_append l k, c.end) refl;
    text = rw (c.text, at_is, bytes_append l k) (over_written (text_bytes l) (text_bytes k) o);
    places = rw (c.places, n_is, zero_at, places_append 0 l k) (over_written (text_places 0 l) (text_places (0 + text_size l) k) p);
  }
    where
      at_is : at ≡ length (text_bytes l)
      at_is = c.end ∙ sym (bytes_length l)

      n_is : 2 * n ≡ length (text_places 0 l)
      n_is = ap (λ (m : ℕ). 2 * m) c.number ∙ sym (places_length 0 l)

      zero_at : at ≡ 0 + text_size l
      zero_at = omega (arith, c.end)

  -- A list with at least as many texts and bytes written over it.
  pub packed_over : (k : List Text) (n' at' : ℕ) (bytes' : Text) (slots' : List ℕ) → PackedTexts k n' at' bytes slots bytes' slots' → n ≤ n' → at ≤ at'
      → PackedTexts k n' at' o p bytes' slots'
  packed_over k n' at' bytes' slots' d h g = record {
    number = d.number;
    end = d.end;
    text = d.text ∙ rw c.text (written_longer (text_bytes l) (text_bytes k) o (omega (arith, bytes_length l, bytes_length k, c.end, d.end)));
    places = d.places ∙ rw c.places (written_longer (text_places 0 l) (text_places 0 k) p (omega (arith, places_length 0 l, places_length 0 k, c.number, d.number)));
  }

  -- The buffers begin with the list.
  pub packed_held : HoldsTexts l n at bytes slots
  packed_held = record {
    number = c.number;
    end = c.end;
    text = sym (rw c.text (written_longer (text_bytes l) (text_bytes l) o (omega arith)));
    places = sym (rw c.places (written_longer (text_places 0 l) (text_places 0 l) p (omega arith)));
  }

pub packed_laws : PackedLaws
packed_laws = record { reads = packed_read; appends = packed_append }
