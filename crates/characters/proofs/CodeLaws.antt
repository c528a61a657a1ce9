-- Lemmas for the branches of `character_len`, and for the loop of `decodes_allowed`.
use Rattle.std.specs.Prelude.{Some, None}
use mathlib.Core.Path.{◌≡◌, refl, sym, ap, ◌∙◌}
use mathlib.Core.Logic.{◌≢◌}
use mathlib.Core.Bool.{Bool, true, false, not, cond, ◌&&◌, true≢false}
use mathlib.Core.List.{[], ◌∷◌}
use Prim.Native.Nat.{ℕ, zero, suc, ◌+◌, ◌-◌, ◌%◌, ◌≤◌, ◌<◌}
use native.Mathlib.Numerals.{add-one}
use native.Mathlib.Omega.{arith}
use lib.Dec.{eqb, leb}
use lib.ListN.{length, get_or, take, drop, length-drop, drop_of_length-le}
use lib.Seq.{drop-cons, drop-drop}
use borrow.Author.Tests.{leb-true, leb-false, le-leb, lt-leb, ne_eqb}
use Rattle.text.specs.Text.{Text}
use Rattle.text.specs.Range.{in_range}
use Rattle.text.proofs.RangeLaws.{within_yes, within_below, within_above, within_low, within_high}
use Rattle.characters.specs.Utf8.{Inside, is_continuation, with_bits}
use Rattle.characters.specs.NameCharacter.{characters_allowed}
use Rattle.characters.specs.CharacterLen.{length_by_first, character_len}
use Rattle.characters.proofs.ReadingLaws.{allowed_from, next, allowed_after, reads_byte, cut_off}
use Rattle.characters.proofs.AllowedLaws.{allowed_none, allowed_ascii}
use Rattle.characters.proofs.LenLaws.{allowed_by_character}
use Rattle.characters.proofs.TestLaws.{begins_2, begins_3, begins_4}

-- The number of bytes, by the range of the first one.
module _ (a : ℕ) where
  length_1 : a < 128 → length_by_first a ≡ 1
  length_1 h = rw (le-leb a 0x7F (omega arith))

  length_0 : 128 ≤ a → a < 192 → length_by_first a ≡ 0
  length_0 h k =
      rw (lt-leb a 0x7F (omega arith), within_below 0xC0 0xDF a (omega arith), within_below 0xE0 0xEF a (omega arith), within_below 0xF0 0xF7 a (omega arith))

  length_2 : 192 ≤ a → a ≤ 223 → length_by_first a ≡ 2
  length_2 h k = rw (lt-leb a 0x7F (omega arith), within_yes 0xC0 0xDF a h k)

  length_3 : 224 ≤ a → a ≤ 239 → length_by_first a ≡ 3
  length_3 h k = rw (lt-leb a 0x7F (omega arith), within_above 0xC0 0xDF a (omega arith), within_yes 0xE0 0xEF a h k)

  length_4 : 240 ≤ a → a ≤ 247 → length_by_first a ≡ 4
  length_4 h k =
      rw (lt-leb a 0x7F (omega arith), within_above 0xC0 0xDF a (omega arith), within_above 0xE0 0xEF a (omega arith), within_yes 0xF0 0xF7 a h k)

  length_over : 247 < a → length_by_first a ≡ 0
  length_over h =
      rw (lt-leb a 0x7F (omega arith), within_above 0xC0 0xDF a (omega arith), within_above 0xE0 0xEF a (omega arith), within_above 0xF0 0xF7 a (omega arith))

-- A text that ends inside a character is not allowed.
cut_short : (more least bits : ℕ) (r : Text) → length r ≤ more → allowed_from (Inside more least bits) r ≡ false
unfolding next
cut_short more least bits [] h = cut_off more least bits
cut_short zero least bits (a ∷ r) h = absurd (omega arith)
cut_short (suc more) least bits (a ∷ r) h =
    reads_byte (Inside (suc more) least bits) a r ∙ go (is_continuation a) refl (cut_short more least (with_bits bits a) r (omega arith))
  where
    go : (b : Bool) → is_continuation a ≡ b → allowed_from (Inside more least (with_bits bits a)) r ≡ false → allowed_after (cond b (Some (Inside more least (with_bits bits a))) None) r ≡ false
    go true e ih = ih
    go false e ih = refl

-- The bytes from index i on.
taken : (p : Text) (i k : ℕ) → i < length p → take (suc k) (drop i p) ≡ get_or p i 0 ∷ take k (drop (i + 1) p)
taken p i k h = rw (drop-cons p i 0 h, add-one i)

taken_2 : (p : Text) (i k : ℕ) → i + 1 < length p → take (suc (suc k)) (drop i p) ≡ get_or p i 0 ∷ get_or p (i + 1) 0 ∷ take k (drop (i + 2) p)
taken_2 p i k h =
    let n : i + 1 + 1 ≡ i + 2 = omega arith in
    taken p i (suc k) (omega arith)
    ∙ ap (λ (t : Text). get_or p i 0 ∷ t) (taken p (i + 1) k h ∙ ap (λ (m : ℕ). get_or p (i + 1) 0 ∷ take k (drop m p)) n)

taken_3 : (p : Text) (i k : ℕ) → i + 2 < length p
    → take (suc (suc (suc k))) (drop i p) ≡ get_or p i 0 ∷ get_or p (i + 1) 0 ∷ get_or p (i + 2) 0 ∷ take k (drop (i + 3) p)
taken_3 p i k h =
    let n : i + 2 + 1 ≡ i + 3 = omega arith in
    taken_2 p i (suc k) (omega arith)
    ∙ ap (λ (t : Text). get_or p i 0 ∷ get_or p (i + 1) 0 ∷ t) (taken p (i + 2) k h ∙ ap (λ (m : ℕ). get_or p (i + 2) 0 ∷ take k (drop m p)) n)

taken_4 : (p : Text) (i : ℕ) → i + 3 < length p → take 4 (drop i p) ≡ get_or p i 0 ∷ get_or p (i + 1) 0 ∷ get_or p (i + 2) 0 ∷ get_or p (i + 3) 0 ∷ []
taken_4 p i h =
    taken_3 p i 1 (omega arith) ∙ ap (λ (t : Text). get_or p i 0 ∷ get_or p (i + 1) 0 ∷ get_or p (i + 2) 0 ∷ t) (taken p (i + 3) 0 h)

-- The character at index i.
module _ (p : Text) (i : ℕ) (h : i < length p) where
  len_at : (k : ℕ) (b : Bool) → length_by_first (get_or p i 0) ≡ k → b ≡ characters_allowed (take k (drop i p)) → cond b k 0 ≡ character_len (drop i p)
  unfolding character_len
  len_at k b e f = rw (f, drop-cons p i 0 h, e)

  pub len_one : get_or p i 0 < 128 → 1 ≡ character_len (drop i p)
  len_one l =
      len_at 1 true (length_1 (get_or p i 0) l)
      (sym (ap characters_allowed (taken p i 0 h) ∙ allowed_ascii (get_or p i 0) (le-leb (get_or p i 0) 0x7F (omega arith)) [] ∙ allowed_none))

  no_length : (k : ℕ) → length_by_first (get_or p i 0) ≡ 0 → 0 ≡ character_len (drop i p)
  no_length k e = either (characters_allowed (take 0 (drop i p))) ∙ len_at 0 (characters_allowed (take 0 (drop i p))) e refl
    where
      either : (b : Bool) → ◌≡◌ {A = ℕ} 0 (cond b 0 0)
      either true = refl
      either false = refl

  pub len_stray : 128 ≤ get_or p i 0 → get_or p i 0 < 192 → 0 ≡ character_len (drop i p)
  len_stray l m = no_length 0 (length_0 (get_or p i 0) l m)

  pub len_over : 247 < get_or p i 0 → 0 ≡ character_len (drop i p)
  len_over l = no_length 0 (length_over (get_or p i 0) l)

  -- A character of k bytes: it is cut off, or its bytes decide.
  short_no : (k : ℕ) → length_by_first (get_or p i 0) ≡ k → characters_allowed (take k (drop i p)) ≡ false → 0 ≡ character_len (drop i p)
  short_no k e f = len_at k false e (sym f)

  bytes_yes : (k : ℕ) (b : Bool) → length_by_first (get_or p i 0) ≡ k → b ≡ characters_allowed (take k (drop i p)) → b ≡ true → k ≡ character_len (drop i p)
  bytes_yes k b e f t = len_at k true e (sym t ∙ f)

  bytes_no : (k : ℕ) (b : Bool) → length_by_first (get_or p i 0) ≡ k → b ≡ characters_allowed (take k (drop i p)) → b ≡ false → 0 ≡ character_len (drop i p)
  bytes_no k b e f t = len_at k false e (sym t ∙ f)

  -- The rest of a text of n bytes from index i on.
  rest_short : (k : ℕ) → length p - i < suc k → length (take k (drop (i + 1) p)) < k
  rest_short k l = go k (drop (i + 1) p) (omega (arith, length-drop (i + 1) p))
    where
      go : (k : ℕ) (t : Text) → length t < k → length (take k t) < k
      go zero t l = absurd (omega arith)
      go (suc k) [] l = omega arith
      go (suc k) (a ∷ t) l = let m : length (take k t) < k = go k t (omega arith) in omega arith

  module _ (l : 192 ≤ get_or p i 0) (m : get_or p i 0 < 224) where
    lead_2 : length_by_first (get_or p i 0) ≡ 2
    lead_2 = length_2 (get_or p i 0) l (omega arith)

    pub len_two_short : length p - i < 2 → 0 ≡ character_len (drop i p)
    len_two_short n =
        short_no 2 lead_2
        (ap characters_allowed (taken p i 1 h) ∙ begins_2 (get_or p i 0) (take 1 (drop (i + 1) p)) l (omega arith)
        ∙ cut_short 0 0x80 (get_or p i 0 % 32) (take 1 (drop (i + 1) p)) (omega (arith, rest_short 1 n)))

    module _ (n : 2 ≤ length p - i) (b : Bool) (e : b ≡ characters_allowed (get_or p i 0 ∷ get_or p (i + 1) 0 ∷ [])) where
      two : b ≡ characters_allowed (take 2 (drop i p))
      two = e ∙ ap characters_allowed (sym (taken_2 p i 0 (omega arith)))

      pub len_two : b ≡ true → 2 ≡ character_len (drop i p)
      len_two t = bytes_yes 2 b lead_2 two t

      pub len_two_not : b ≡ false → 0 ≡ character_len (drop i p)
      len_two_not t = bytes_no 2 b lead_2 two t

  module _ (l : 224 ≤ get_or p i 0) (m : get_or p i 0 < 240) where
    lead_3 : length_by_first (get_or p i 0) ≡ 3
    lead_3 = length_3 (get_or p i 0) l (omega arith)

    pub len_three_short : length p - i < 3 → 0 ≡ character_len (drop i p)
    len_three_short n =
        short_no 3 lead_3
        (ap characters_allowed (taken p i 2 h) ∙ begins_3 (get_or p i 0) (take 2 (drop (i + 1) p)) l (omega arith)
        ∙ cut_short 1 0x800 (get_or p i 0 % 16) (take 2 (drop (i + 1) p)) (omega (arith, rest_short 2 n)))

    module _ (n : 3 ≤ length p - i) (b : Bool) (e : b ≡ characters_allowed (get_or p i 0 ∷ get_or p (i + 1) 0 ∷ get_or p (i + 2) 0 ∷ [])) where
      three : b ≡ characters_allowed (take 3 (drop i p))
      three = e ∙ ap characters_allowed (sym (taken_3 p i 0 (omega arith)))

      pub len_three : b ≡ true → 3 ≡ character_len (drop i p)
      len_three t = bytes_yes 3 b lead_3 three t

      pub len_three_not : b ≡ false → 0 ≡ character_len (drop i p)
      len_three_not t = bytes_no 3 b lead_3 three t

  module _ (l : 240 ≤ get_or p i 0) (m : get_or p i 0 ≤ 247) where
    lead_4 : length_by_first (get_or p i 0) ≡ 4
    lead_4 = length_4 (get_or p i 0) l m

    pub len_four_short : length p - i < 4 → 0 ≡ character_len (drop i p)
    len_four_short n =
        short_no 4 lead_4
        (ap characters_allowed (taken p i 3 h) ∙ begins_4 (get_or p i 0) (take 3 (drop (i + 1) p)) l m
        ∙ cut_short 2 0x10000 (get_or p i 0 % 8) (take 3 (drop (i + 1) p)) (omega (arith, rest_short 3 n)))

    module _ (n : 4 ≤ length p - i) (b : Bool)
        (e : b ≡ characters_allowed (get_or p i 0 ∷ get_or p (i + 1) 0 ∷ get_or p (i + 2) 0 ∷ get_or p (i + 3) 0 ∷ [])) where
      four : b ≡ characters_allowed (take 4 (drop i p))
      four = e ∙ ap characters_allowed (sym (taken_4 p i (omega arith)))

      pub len_four : b ≡ true → 4 ≡ character_len (drop i p)
      len_four t = bytes_yes 4 b lead_4 four t

      pub len_four_not : b ≡ false → 0 ≡ character_len (drop i p)
      len_four_not t = bytes_no 4 b lead_4 four t

pub ruleset lengths = (len_one, len_stray, len_over, len_two_short, len_two, len_two_not, len_three_short, len_three, len_three_not, len_four_short, len_four, len_four_not)

-- Lemmas for `decodes_allowed`. The text from index i on is allowed exactly if the whole text is.
allowed_cons : (p : Text) (i : ℕ) → i < length p
    → characters_allowed (drop i p) ≡ (not (eqb (character_len (drop i p)) 0) && characters_allowed (drop (character_len (drop i p)) (drop i p)))
allowed_cons p i h = rw (drop-cons p i 0 h) (allowed_by_character (get_or p i 0) (drop (suc i) p))

-- A character at the beginning of a text lies in the text.
len_fits : (t : Text) → character_len t ≤ length t
unfolding character_len
len_fits [] = omega arith
len_fits (a ∷ r) = go (leb a 0x7F) (in_range 0xC0 0xDF a) (in_range 0xE0 0xEF a) (in_range 0xF0 0xF7 a) refl refl refl refl
  where
    none-fits : (b : Bool) → cond b 0 0 ≤ suc (length r)
    none-fits true = omega arith
    none-fits false = omega arith

    long : (more least bits : ℕ) → characters_allowed (a ∷ take (suc more) r) ≡ allowed_from (Inside more least bits) (take (suc more) r)
        → cond (characters_allowed (a ∷ take (suc more) r)) (suc (suc more)) 0 ≤ suc (length r)
    long more least bits e = choose (characters_allowed (a ∷ take (suc more) r)) refl
      where
        fits : (k : ℕ) (t : Text) → k ≤ length (take k t) → k ≤ length t
        fits zero t h = omega arith
        fits (suc k) [] h = h
        fits (suc k) (x ∷ t) h = let m : k ≤ length t = fits k t (omega arith) in omega arith

        enough : characters_allowed (a ∷ take (suc more) r) ≡ true → (b : Bool) → leb (length (take (suc more) r)) more ≡ b → suc more ≤ length r
        enough f true k = absurd (true≢false (sym f ∙ e ∙ cut_short more least bits (take (suc more) r) (leb-true (length (take (suc more) r)) more k)))
        enough f false k = fits (suc more) r (leb-false (length (take (suc more) r)) more k)

        choose : (b : Bool) → characters_allowed (a ∷ take (suc more) r) ≡ b → cond b (suc (suc more)) 0 ≤ suc (length r)
        choose true f = let m : suc more ≤ length r = enough f (leb (length (take (suc more) r)) more) refl in omega arith
        choose false f = omega arith

    go : (one two three four : Bool) → leb a 0x7F ≡ one → in_range 0xC0 0xDF a ≡ two → in_range 0xE0 0xEF a ≡ three → in_range 0xF0 0xF7 a ≡ four
        → character_len (a ∷ r) ≤ length (a ∷ r)
    go true two three four h i j k = rw h (one-fits (characters_allowed (a ∷ [])))
      where
        one-fits : (b : Bool) → cond b 1 0 ≤ suc (length r)
        one-fits true = omega arith
        one-fits false = omega arith
    go false true three four h i j k = rw (h, i) (long 0 0x80 (a % 32) (begins_2 a (take 1 r) (within_low 0xC0 0xDF a i) (within_high 0xC0 0xDF a i)))
    go false false true four h i j k = rw (h, i, j) (long 1 0x800 (a % 16) (begins_3 a (take 2 r) (within_low 0xE0 0xEF a j) (within_high 0xE0 0xEF a j)))
    go false false false true h i j k = rw (h, i, j, k) (long 2 0x10000 (a % 8) (begins_4 a (take 3 r) (within_low 0xF0 0xF7 a k) (within_high 0xF0 0xF7 a k)))
    go false false false false h i j k = rw (h, i, j, k) (none-fits (characters_allowed []))

module _ (p : Text) (i n : ℕ) (h : i < length p) (e : n ≡ character_len (drop i p)) (w : characters_allowed (drop i p) ≡ characters_allowed p) where
  pub allowed_not : n ≡ 0 → false ≡ characters_allowed p
  allowed_not z = let k : character_len (drop i p) ≡ 0 = sym e ∙ z in sym (sym w ∙ allowed_cons p i h ∙ rw k)

  pub allowed_on : n ≢ 0 → characters_allowed (drop (i + n) p) ≡ characters_allowed p
  allowed_on z =
      let k : eqb (character_len (drop i p)) 0 ≡ false = rw (← e) (ne_eqb n 0 z) in
      ap characters_allowed (sym (drop-drop n i p)) ∙ ap (λ (m : ℕ). characters_allowed (drop m (drop i p))) e ∙ sym (rw k at (allowed_cons p i h)) ∙ w

  pub allowed_inside : i + n ≤ length p
  allowed_inside = omega (arith, e, len_fits (drop i p), length-drop i p)

pub allowed_end : (p : Text) (i : ℕ) → length p ≤ i → characters_allowed (drop i p) ≡ characters_allowed p → true ≡ characters_allowed p
allowed_end p i l w = sym allowed_none ∙ ap characters_allowed (sym (drop_of_length-le p l)) ∙ w
