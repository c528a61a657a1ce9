-- Lemmas about a packed list of pairs, from those about its ends as packed texts.
use mathlib.Core.Path.{◌≡◌, refl, sym, ap, ◌∙◌}
use mathlib.Core.List.{List, [], ◌∷◌, ◌++◌, append-nil}
use Prim.Native.Nat.{ℕ, ◌+◌, ◌*◌, ◌≤◌}
use native.Mathlib.Omega.{arith}
use lib.ListN.{length, drop, length-append}
use Rattle.text.specs.Text.{Text, written, written_at}
use Rattle.text_list.specs.Packed.{text_bytes, text_places, text_size, PackedTexts}
use Rattle.text_list.proofs.PackedLaws.{packed_append, packed_held}
use Rattle.pair_list.specs.Pair.{Pair, ends_of}
use Rattle.pair_list.specs.Places.{pairs_in, list_text, list_places, pair_entry, end_bytes}
use Rattle.pair_list.proofs.ListLaws.{ends_append, ends_length, ends_size, places_length, read_back}
use Rattle.pair_list_write.specs.Packed.{PackedList, HoldsList, IsPacked, AppendedPair}

-- A list is packed if its ends are packed texts.
pub texts_packed : (l : List Pair) (n at : ℕ) (o : Text) (p : List ℕ) (bytes : Text) (slots : List ℕ) → PackedTexts (ends_of l) (2 * n) at o p bytes slots
    → PackedList l n at o p bytes slots
unfolding list_text list_places
texts_packed l n at o p bytes slots c =
    record { number = omega (arith, c.number, ends_length l); end = c.end ∙ ends_size l; text = c.text; places = c.places }

-- Every buffer holds the empty list.
pub holds_none : (bytes : Text) (slots : List ℕ) → HoldsList [] 0 0 bytes slots
unfolding list_text list_places end_bytes
holds_none bytes slots = record { number = refl; end = refl; text = refl; places = refl }

module _ (l : List Pair) (n at : ℕ) (o : Text) (p : List ℕ) (bytes : Text) (slots : List ℕ) (c : PackedList l n at o p bytes slots) where
  pub packed_texts : PackedTexts (ends_of l) (2 * n) at o p bytes slots
  unfolding list_text list_places
  packed_texts = record { number = omega (arith, c.number, ends_length l); end = c.end ∙ sym (ends_size l); text = c.text; places = c.places }

  -- The list is read back.
  pub packed_list : pairs_in bytes slots n ≡ l
  packed_list = rw (c.number, c.text, c.places) (read_back l o p)

  -- The buffers begin with the list.
  pub packed_holds : HoldsList l n at bytes slots
  packed_holds = texts_packed l n at bytes slots bytes slots (packed_held (ends_of l) (2 * n) at o p bytes slots packed_texts)

  pub packed_stored : IsPacked n at bytes slots
  packed_stored = rw packed_list packed_holds

  -- The numbers of the list lie in their buffer.
  pub packed_inside : 4 * n ≤ length slots
  packed_inside = omega (arith, c.number, places_length 0 l, ap length c.places, length-append (list_places 0 l) (drop (length (list_places 0 l)) p))

  -- One more pair appended to the list.
  pub packed_more : (x : Pair) (end : ℕ) (bytes' : Text) (slots' : List ℕ) → AppendedPair x n at bytes slots end bytes' slots' → PackedList (l ++ x ∷ []) (n + 1) end o p bytes' slots'
  unfolding list_text list_places text_bytes text_places text_size
  packed_more x end bytes' slots' a = record {
    number = rw (length-append l (x ∷ [])) (omega (arith, c.number));
    end = omega (arith, a.end, d.end, ends_size (l ++ x ∷ []), ap text_size more);
    text = a.text ∙ ap (λ (u : Text). written_at at (x.source ++ u) bytes) (sym (append-nil x.target)) ∙ d.text ∙ ap (λ (k : List Text). written (text_bytes k) o) (sym more);
    places = a.places ∙ ap (λ (m : ℕ). written_at m (pair_entry at x.source x.target) slots) twice ∙ d.places ∙ ap (λ (k : List Text). written (text_places 0 k) p) (sym more);
  }
    where
      two : List Text
      two = ends_of (x ∷ [])

      more : ends_of (l ++ x ∷ []) ≡ ends_of l ++ two
      more = ends_append l (x ∷ [])

      twice : 4 * n ≡ 2 * (2 * n)
      twice = omega arith

      d : PackedTexts (ends_of l ++ two) (2 * n + length two) (at + text_size two) o p (written_at at (text_bytes two) bytes) (written_at (2 * (2 * n)) (text_places at two) slots)
      d = packed_append (ends_of l) (2 * n) at o p bytes slots packed_texts two

-- The same for a list with which the buffers begin.
module _ (l : List Pair) (n at : ℕ) (bytes : Text) (slots : List ℕ) (c : HoldsList l n at bytes slots) where
  pub holds_list : pairs_in bytes slots n ≡ l
  holds_list = packed_list l n at bytes slots bytes slots c

  pub holds_inside : 4 * n ≤ length slots
  holds_inside = packed_inside l n at bytes slots bytes slots c

  pub holds_more : (x : Pair) (end : ℕ) (bytes' : Text) (slots' : List ℕ) → AppendedPair x n at bytes slots end bytes' slots' → HoldsList (l ++ x ∷ []) (n + 1) end bytes' slots'
  holds_more x end bytes' slots' a =
      packed_holds (l ++ x ∷ []) (n + 1) end bytes slots bytes' slots' (packed_more l n at bytes slots bytes slots c x end bytes' slots' a)
