-- Lemmas for the branches of `write_entry`, `append_list` and `write_list`.
use Rattle.std.specs.Prelude.{Option, Some, None}
use mathlib.Core.Path.{◌≡◌, refl, sym, ap, ◌∙◌}
use mathlib.Core.Bool.{Bool, true, false, not}
use mathlib.Core.List.{List, [], ◌∷◌, ◌++◌, append_assoc, append-nil}
use Prim.Native.Nat.{ℕ, suc, ◌+◌, ◌*◌, ◌-◌, ◌/◌, ◌≤◌, ◌<◌}
use native.Mathlib.Nat.{zero-add}
use native.Mathlib.Omega.{arith}
use native.Mathlib.Numerals.{add-one}
use lib.Dec.{leb}
use lib.ListN.{length, take, drop, set, length-append, length-take, length-drop, take-append-drop}
use lib.Seq.{sets-eq, take-append_seam, take-append-add, drop-append-add, drop-drop, length-take-le}
use borrow.Author.Tests.{le-leb, lt-leb, leb-true, leb-false}
use Rattle.text.specs.Text.{Text, written, written_at, written_if_fits}
use Rattle.text.proofs.BoolLaws.{and_no, known_false, known_true}
use Rattle.text_list.specs.Places.{text_at}
use Rattle.text_list.specs.Packed.{text_bytes, text_places}
use Rattle.text_list.proofs.PackedLaws.{bytes_append, places_append}
use Rattle.pair_list.specs.Pair.{Pair, ends_of}
use Rattle.pair_list.specs.Places.{key_at, pair_in, pairs_in, pair_entry, list_text, list_places, end_bytes}
use Rattle.pair_list_write.specs.Lists.{append_fits_buffers, append_list_reply, append_list_bytes, append_list_slots, list_fits_buffers, write_list_reply, write_list_bytes, write_list_slots}
use Rattle.pair_list.proofs.PlaceLaws.{pairs_in_length}
use Rattle.pair_list.proofs.ListLaws.{ends_append, ends_size, list_length, places_length}
use Rattle.pair_list_write.proofs.RoomBranches.{end_next, end_grows}
use Rattle.text.proofs.WriteLaws.{over_written}

-- Four numbers, and three, stored consecutively.
pub entry_stored : (l : List ℕ) (j a b c d : ℕ) → j + 4 ≤ length l
    → set (set (set (set l j a) (j + 1) b) (j + 2) c) (j + 3) d ≡ written_at j (a ∷ b ∷ c ∷ d ∷ []) l
entry_stored l j a b c d h =
    let v : List ℕ = a ∷ b ∷ c ∷ d ∷ [] in
    let e : j + 1 ≡ suc j = omega arith in
    let f : j + 2 ≡ suc (suc j) = omega arith in
    let g : j + 3 ≡ suc (suc (suc j)) = omega arith in
    rw (e, f, g) (sets-eq v l j h ∙ append_assoc (take j l) v (drop (j + 4) l))

pub three_stored : (l : List ℕ) (j a b c : ℕ) → j + 3 ≤ length l → set (set (set l j a) (j + 1) b) (j + 2) c ≡ written_at j (a ∷ b ∷ c ∷ []) l
three_stored l j a b c h =
    let v : List ℕ = a ∷ b ∷ c ∷ [] in
    let e : j + 1 ≡ suc j = omega arith in
    let f : j + 2 ≡ suc (suc j) = omega arith in
    rw (e, f) (sets-eq v l j h ∙ append_assoc (take j l) v (drop (j + 3) l))

-- Lemmas for `write_entry`.
module _ (w a b c d : ℕ) (slots : List ℕ) where
  pub entry_over : length slots / 4 ≤ w → slots ≡ written_if_fits (4 * w) (a ∷ b ∷ c ∷ d ∷ []) slots
  unfolding written_if_fits
  entry_over h = rw (lt-leb (4 * w + 4) (length slots) (omega arith)) refl

  pub entry_fits : w < length slots / 4 → set (set (set (set slots (4 * w) a) (4 * w + 1) b) (4 * w + 2) c) (4 * w + 3) d ≡ written_if_fits (4 * w) (a ∷ b ∷ c ∷ d ∷ []) slots
  unfolding written_if_fits
  entry_fits h = rw (le-leb (4 * w + 4) (length slots) (omega arith)) (entry_stored slots (4 * w) a b c d (omega arith))

-- One text directly after another, written over a buffer.
module _ (at : ℕ) (s t out : Text) (h : at + (length s + length t) ≤ length out) where
  first_length : length (take at out) ≡ at
  first_length = length-take-le at out (omega arith)

  once_length : length (written_at at s out) ≡ length out
  once_length = simp (length-append, length-take, length-drop) (omega arith)

  up_to_second : take (at + length s) (written_at at s out) ≡ take at out ++ s
  up_to_second =
      let e : take (length (take at out) + length s) (take at out ++ (s ++ drop (at + length s) out)) ≡ take at out ++ take (length s) (s ++ drop (at + length s) out)
      = take-append-add (take at out) (s ++ drop (at + length s) out) (length s) in
      (rw first_length at e) ∙ ap (λ (x : Text). take at out ++ x) (take-append_seam s (drop (at + length s) out))

  after_second : drop (at + length s + length t) (written_at at s out) ≡ drop (at + length s + length t) out
  after_second =
      let e : drop (length (take at out) + (length s + length t)) (take at out ++ (s ++ drop (at + length s) out)) ≡ drop (length s + length t) (s ++ drop (at + length s) out)
      = drop-append-add (take at out) (s ++ drop (at + length s) out) (length s + length t) in
      let f : at + (length s + length t) ≡ at + length s + length t = omega arith in
      (rw (first_length, f) at e) ∙ drop-append-add s (drop (at + length s) out) (length t) ∙ drop-drop (length t) (at + length s) out

  pub over_next : written_at (at + length s) t (written_at at s out) ≡ written_at at (s ++ t) out
  over_next =
      let n : at + length (s ++ t) ≡ at + length s + length t = rw (length-append s t) (omega arith) in
      rw (up_to_second, after_second, n) (simp append_assoc)

  pub over_over : written_if_fits (at + length s) t (written_if_fits at s out) ≡ written_at at (s ++ t) out
  unfolding written_if_fits
  over_over =
      rw (le-leb (at + length s) (length out) (omega arith), once_length, le-leb (at + length s + length t) (length out) (omega arith)) over_next

-- A list and one more pair.
list_snoc : (l : List Pair) (x : Pair) → list_text (l ++ x ∷ []) ≡ list_text l ++ (x.source ++ x.target)
unfolding list_text
list_snoc l x = ap text_bytes (ends_append l (x ∷ [])) ∙ bytes_append (ends_of l) (ends_of (x ∷ [])) ∙ simp append-nil

places_snoc : (at : ℕ) (l : List Pair) (x : Pair) → list_places at (l ++ x ∷ []) ≡ list_places at l ++ pair_entry (at + end_bytes l) x.source x.target
unfolding list_places
places_snoc at l x = ap (text_places at) (ends_append l (x ∷ [])) ∙ places_append at (ends_of l) (ends_of (x ∷ [])) ∙ rw (ends_size l) refl

-- Lemmas for `append_list`, which writes after `at` bytes of the buffer o.
module _ (store : Text) (places : List ℕ) where
  pub source_key : (i : ℕ) → (pair_in store places i).source ≡ key_at store places false i
  unfolding pair_in
  source_key i = let z : 2 * i ≡ 2 * i + 0 = omega arith in ap (λ (j : ℕ). text_at store places j) z

  pub target_key : (i : ℕ) → (pair_in store places i).target ≡ key_at store places true i
  unfolding pair_in
  target_key i = refl

  abbrev first : ℕ → List Pair
  first i = pairs_in store places i

  abbrev ends : ℕ → ℕ
  ends i = length (key_at store places false i) + length (key_at store places true i)

  text_next : (i : ℕ) → list_text (first (i + 1)) ≡ list_text (first i) ++ (key_at store places false i ++ key_at store places true i)
  unfolding pairs_in
  text_next i = rw (add-one i) (list_snoc (first i) (pair_in store places i) ∙ rw (source_key i, target_key i) refl)

  slots_next : (start i : ℕ) → list_places start (first (i + 1)) ≡ list_places start (first i) ++ pair_entry (start + end_bytes (first i)) (key_at store places false i) (key_at store places true i)
  unfolding pairs_in
  slots_next start i = rw (add-one i) (places_snoc start (first i) (pair_in store places i) ∙ rw (source_key i, target_key i) refl)

  -- Before the first pair.
  pub at_begin : (start : ℕ) → start ≡ start + end_bytes (first 0)
  unfolding pairs_in end_bytes
  at_begin start = omega arith

  pub text_begin : (start : ℕ) (o : Text) → o ≡ written_at start (list_text (first 0)) o
  unfolding pairs_in list_text
  text_begin start o = let z : start + 0 ≡ start = omega arith in rw z (sym (take-append-drop start o))

  pub slots_begin : (start : ℕ) (o : List ℕ) → o ≡ written (list_places start (first 0)) o
  unfolding pairs_in list_places
  slots_begin start o = refl

  pub list_fits : (n start room : ℕ) → start ≤ room → (b : Bool) → b ≡ leb (end_bytes (first n)) (room - start) → not b ≡ false → start + end_bytes (first n) ≤ room
  list_fits n start room g b h k = omega (arith, g, leb-true (end_bytes (first n)) (room - start) (known_true h k))

  module _ (start i at : ℕ) (e : at ≡ start + end_bytes (first i)) where
    pub list_at : (end : ℕ) → end ≡ at + ends i → end ≡ start + end_bytes (first (i + 1))
    list_at end f = rw (add-one i) (omega (arith, end_next store places i, e, f))

    pub list_slots : (o slots slots' : List ℕ) → slots ≡ written (list_places start (first i)) o
        → slots' ≡ written_at (4 * i) (pair_entry at (key_at store places false i) (key_at store places true i)) slots → slots' ≡ written (list_places start (first (i + 1))) o
    list_slots o slots slots' w f =
        let m : 4 * i ≡ length (list_places start (first i)) = sym (places_length start (first i) ∙ ap (λ (k : ℕ). 4 * k) (pairs_in_length store places i)) in
        f ∙ rw (w, e, m, slots_next start i) (over_written (list_places start (first i)) (pair_entry (start + end_bytes (first i)) (key_at store places false i) (key_at store places true i)) o)

    module _ (n : ℕ) (l : i < n) where
      pub list_room : (room k : ℕ) → start + end_bytes (first n) ≤ room → k ≡ room → at + ends i ≤ k
      list_room room k f z = omega (arith, f, z, e, end_next store places i, end_grows store places n (suc i) l)

      pub list_text_lem : (o out out' : Text) → start + end_bytes (first n) ≤ length o → out ≡ written_at start (list_text (first i)) o
          → out' ≡ written_at at (key_at store places false i ++ key_at store places true i) out → out' ≡ written_at start (list_text (first (i + 1))) o
      list_text_lem o out out' g w f =
          let both : Text = key_at store places false i ++ key_at store places true i in
          let k : length both ≡ ends i = length-append (key_at store places false i) (key_at store places true i) in
          let z : at ≡ start + length (list_text (first i)) = e ∙ ap (λ (m : ℕ). start + m) (sym (list_length (first i))) in
          f ∙ rw (w, z, text_next i) (over_next start (list_text (first i)) both o (omega (arith, z, k, list_room (length o) (length o) g refl)))

  module _ (n start : ℕ) (o : Text) (p : List ℕ) where
    abbrev list : List Pair
    list = first n

    abbrev Leaves : Option ℕ → Text → List ℕ → Type 0
    Leaves r out slots = (r ≡ append_list_reply start list o p) × ((out ≡ append_list_bytes start list o p) × (slots ≡ append_list_slots start list o p))

    short : append_fits_buffers start list o p ≡ false → Leaves None o p
    unfolding append_list_reply append_list_bytes append_list_slots
    short h = rw h (refl, (refl, refl))

    pub list_few : length p / 4 < n → Leaves None o p
    unfolding append_fits_buffers
    list_few h = short (rw (pairs_in_length store places n, lt-leb n (length p / 4) h) (and_no (leb (start + end_bytes list) (length o))))

    full : length o < start + end_bytes list → Leaves None o p
    unfolding append_fits_buffers
    full h = short (rw (lt-leb (start + end_bytes list) (length o) h))

    pub list_outside : length o < start → Leaves None o p
    list_outside h = full (omega (arith, h))

    pub list_full : start ≤ length o → (b : Bool) → b ≡ leb (end_bytes list) (length o - start) → not b ≡ true → Leaves None o p
    list_full g b h k = full (omega (arith, g, leb-false (end_bytes list) (length o - start) (known_false h k)))

    pub list_done : n ≤ length p / 4 → start + end_bytes list ≤ length o → (i : ℕ) (out : Text) (slots : List ℕ) → n ≤ i → i ≤ n → out ≡ written_at start (list_text (first i)) o
        → slots ≡ written (list_places start (first i)) p → Leaves (Some n) out slots
    unfolding append_fits_buffers append_list_reply append_list_bytes append_list_slots
    list_done few fits i out slots l m w v =
        let z : i ≡ n = omega arith in
        rw (pairs_in_length store places n, le-leb (start + end_bytes list) (length o) fits, le-leb n (length p / 4) few) (refl, (w ∙ rw z refl, v ∙ rw z refl))

-- Lemmas for `write_list`, which writes from the beginning.
module _ (l : List Pair) (o : Text) (p : List ℕ) where
  pub list_first : (r : Option ℕ) (out : Text) (slots : List ℕ) → (r ≡ append_list_reply 0 l o p) × ((out ≡ append_list_bytes 0 l o p) × (slots ≡ append_list_slots 0 l o p))
      → (r ≡ write_list_reply l o p) × ((out ≡ write_list_bytes l o p) × (slots ≡ write_list_slots l o p))
  unfolding append_fits_buffers append_list_reply append_list_bytes append_list_slots list_fits_buffers write_list_reply write_list_bytes write_list_slots
  list_first r out slots h = rw (zero-add (end_bytes l), zero-add (length (list_text l))) at h
