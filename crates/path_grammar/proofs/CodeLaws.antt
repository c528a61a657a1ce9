-- Lemmas for the loops of `scan` and `scan_end`, and for the functions that ask them.
use mathlib.Core.Path.{◌≡◌, refl, sym, ap, ◌∙◌}
use mathlib.Core.Logic.{◌≢◌}
use mathlib.Core.Bool.{Bool, true, false, cond, ◌&&◌, ◌||◌}
use mathlib.Core.List.{[], ◌∷◌, map}
use Prim.Native.Nat.{ℕ, ◌+◌, ◌/◌, ◌%◌, ◌^◌, ◌≤◌, ◌<◌}
use native.Mathlib.Numerals.{add-one}
use native.Mathlib.Omega.{arith}
use lib.Dec.{eqb, leb, ltb}
use lib.Bits.{bit_or, or_lt, or_add_and, or_comm, and_le_r}
use lib.ListN.{length, get_or, drop, drop_of_length-le, length-map, get_or-map}
use lib.Seq.{drop-cons}
use borrow.Author.Tests.{leb-true, leb-false, le-leb, lt-leb, lt-ltb, le-ltb}
use Rattle.text.specs.Text.{Text, ends_with_byte}
use Rattle.text.proofs.BoolLaws.{and_assoc, and_yes}
use Rattle.characters.specs.NameCharacter.{characters_allowed, is_ascii}
use Rattle.characters.proofs.AllowedLaws.{ascii_allowed}
use Rattle.path_grammar.specs.Legal.{scan_accepts, legal_own, legal, is_end}
use Rattle.path_grammar.specs.PackedScan.{packed_steps, end_byte, scan_code}
use Rattle.path_grammar.proofs.ScanLaws.{Reads, first, on, none, other, root, whole}
use Rattle.path_grammar.proofs.InnerLaws.{legal_scanned}
use Rattle.path_grammar.proofs.EndLaws.{ends_by_scan}

-- The bytes so far, combined, are below 128 exactly if each of them is.
or_above : (a b : ℕ) → a ≤ bit_or a b
or_above a b = omega (arith, or_add_and a b, and_le_r a b)

or_ascii : (a b : ℕ) → leb (bit_or a b) 127 ≡ (leb a 127 && leb b 127)
or_ascii a b = go (leb a 127) (leb b 127) refl refl
  where
    go : (x y : Bool) → leb a 127 ≡ x → leb b 127 ≡ y → leb (bit_or a b) 127 ≡ (x && y)
    go true true h k = let l : bit_or a b < 128 = or_lt 7 a b (omega (arith, leb-true a 127 h)) (omega (arith, leb-true b 127 k)) in le-leb (bit_or a b) 127 (omega arith)
    go true false h k =
        let l : b ≤ bit_or a b = rw (or_comm a b) (or_above b a) in
        lt-leb (bit_or a b) 127 (omega (arith, leb-false b 127 k))
    go false y h k = lt-leb (bit_or a b) 127 (omega (arith, leb-false a 127 h, or_above a b))

-- The loop invariant for them.
abbrev pub Seen : Text → ℕ → ℕ → Type 0
Seen p seen i = (leb seen 127 && is_ascii (drop i p)) ≡ is_ascii p

pub seen_first : (p : Text) → get_or p 0 0 ≡ 47 → Seen p 0 1
unfolding is_ascii
seen_first [] h = refl
seen_first (a ∷ r) h = rw h

pub seen_on : (p : Text) (seen i : ℕ) → i < length p → Seen p seen i → Seen p (bit_or seen (get_or p i 0)) (i + 1)
unfolding is_ascii
seen_on p seen i h w =
    rw (or_ascii seen (get_or p i 0), and_assoc (leb seen 127) (leb (get_or p i 0) 127) (is_ascii (drop (i + 1) p)), add-one i) (rw (drop-cons p i 0 h) at w)

seen_end : (p : Text) (seen i : ℕ) → length p ≤ i → Seen p seen i → is_ascii p ≡ leb seen 127
unfolding is_ascii
seen_end p seen i l w = sym (rw (drop_of_length-le p l) at w) ∙ and_yes (leb seen 127)

-- The text p is read as q, byte by byte.
record ReadAs (p q : Text) : Type 0 where
  byte : ℕ → ℕ
  same_length : length q ≡ length p
  at : (i : ℕ) → get_or q i 0 ≡ byte (get_or p i 0)
  slash : byte 47 ≡ 47
  only : (a : ℕ) → byte a ≡ 47 → a ≡ 47
  small : (a : ℕ) → a < 256 → byte a < 256

as_it_is : (p : Text) → ReadAs p p
as_it_is p =
    record { byte = λ (a : ℕ). a; same_length = refl; at = λ i. refl; slash = refl; only = λ a e. e; small = λ a h. h }

as_end : (p : Text) → ReadAs p (map end_byte p)
as_end p =
    record { byte = end_byte; same_length = length-map p end_byte; at = λ i. get_or-map end_byte p i 0; slash = refl; only = only; small = small }
  where
    only : (a : ℕ) → end_byte a ≡ 47 → a ≡ 47
    only a e = go (eqb a 46 || eqb a 123) e
      where
        go : (b : Bool) → cond b 0 a ≡ 47 → a ≡ 47
        go true e = absurd (omega arith)
        go false e = e

    small : (a : ℕ) → a < 256 → end_byte a < 256
    small a h = go (eqb a 46 || eqb a 123)
      where
        go : (b : Bool) → cond b 0 a < 256
        go true = omega arith
        go false = h

module _ (p q : Text) (k : ReadAs p q) where
  reads_none : length p ≡ 0 → 1 ≡ scan_code q p
  unfolding scan_code is_ascii
  reads_none h = rw (← none q (k.same_length ∙ h)) (go p h)
    where
      go : (p : Text) → length p ≡ 0 → ◌≡◌ {A = ℕ} 1 (cond (is_ascii p) 1 2)
      go [] h = refl
      go (a ∷ p) h = absurd (omega arith)

  reads_other : length p ≢ 0 → get_or p 0 0 ≢ 47 → 0 ≡ scan_code q p
  unfolding scan_code
  reads_other n h = rw (← other q (λ e. n (sym k.same_length ∙ e)) (λ e. h (k.only (get_or p 0 0) (sym (k.at 0) ∙ e))))

  head : get_or p 0 0 ≡ 47 → get_or q 0 0 ≡ 47
  head h = k.at 0 ∙ ap k.byte h ∙ k.slash

  reads_root : get_or p 0 0 ≡ 47 → length p ≡ 1 → 1 ≡ scan_code q p
  unfolding scan_code is_ascii
  reads_root h n = rw (← root q (head h) (k.same_length ∙ n)) (go p h n)
    where
      go : (p : Text) → get_or p 0 0 ≡ 47 → length p ≡ 1 → ◌≡◌ {A = ℕ} 1 (cond (is_ascii p) 1 2)
      go [] h n = refl
      go (a ∷ []) h n = rw h
      go (a ∷ b ∷ p) h n = absurd (omega arith)

  reads_on : (s i m : ℕ) → i < length p → Reads q s i → get_or p i 0 < 256 → m ≡ packed_steps (k.byte (get_or p i 0)) / 2 ^ (s % 64) → Reads q m (i + 1)
  reads_on s i m h w l e = on q s i m (rw k.same_length h) w (rw (k.at i) (k.small (get_or p i 0) l)) (rw (k.at i) e)

  module _ (s seen i : ℕ) (h : get_or p 0 0 ≡ 47) (n : length p ≢ 0) (m : length p ≢ 1) (w : Reads q s i) (e : length p ≤ i) where
    scanned : ltb (s % 64) 18 ≡ scan_accepts q
    scanned = whole q s i (head h) (λ z. n (sym k.same_length ∙ z)) (λ z. m (sym k.same_length ∙ z)) w (rw k.same_length e)

    reads_refused : 18 ≤ s % 64 → 0 ≡ scan_code q p
    unfolding scan_code
    reads_refused t = rw (← scanned, le-ltb (s % 64) 18 t)

    reads_ascii : s % 64 < 18 → Seen p seen i → seen < 128 → 1 ≡ scan_code q p
    unfolding scan_code
    reads_ascii t v l = rw (← scanned, lt-ltb (s % 64) 18 t, seen_end p seen i e v, le-leb seen 127 (omega arith))

    reads_high : s % 64 < 18 → Seen p seen i → 128 ≤ seen → 2 ≡ scan_code q p
    unfolding scan_code
    reads_high t v l = rw (← scanned, lt-ltb (s % 64) 18 t, seen_end p seen i e v, lt-leb seen 127 (omega arith))

-- Lemmas for `scan`.
module _ (p : Text) where
  pub scan_none : length p ≡ 0 → 1 ≡ scan_code p p
  scan_none h = reads_none p p (as_it_is p) h

  pub scan_other : length p ≢ 0 → get_or p 0 0 ≢ 47 → 0 ≡ scan_code p p
  scan_other n h = reads_other p p (as_it_is p) n h

  pub scan_root : get_or p 0 0 ≡ 47 → length p ≡ 1 → 1 ≡ scan_code p p
  scan_root h n = reads_root p p (as_it_is p) h n

  module _ (s seen i : ℕ) (h : get_or p 0 0 ≡ 47) (n : length p ≢ 0) (m : length p ≢ 1) (w : Reads p s i) (e : length p ≤ i) where
    pub scan_refused : 18 ≤ s % 64 → 0 ≡ scan_code p p
    scan_refused t = reads_refused p p (as_it_is p) s seen i h n m w e t

    pub scan_ascii : s % 64 < 18 → Seen p seen i → seen < 128 → 1 ≡ scan_code p p
    scan_ascii t v l = reads_ascii p p (as_it_is p) s seen i h n m w e t v l

    pub scan_high : s % 64 < 18 → Seen p seen i → 128 ≤ seen → 2 ≡ scan_code p p
    scan_high t v l = reads_high p p (as_it_is p) s seen i h n m w e t v l

pub ruleset scanning = (scan_none, scan_other, scan_root, scan_refused, scan_ascii, scan_high, seen_first, first)

-- Lemmas for `scan_end`.
module _ (p : Text) where
  pub end_none : length p ≡ 0 → 1 ≡ scan_code (map end_byte p) p
  end_none h = reads_none p (map end_byte p) (as_end p) h

  pub end_other : length p ≢ 0 → get_or p 0 0 ≢ 47 → 0 ≡ scan_code (map end_byte p) p
  end_other n h = reads_other p (map end_byte p) (as_end p) n h

  pub end_root : get_or p 0 0 ≡ 47 → length p ≡ 1 → 1 ≡ scan_code (map end_byte p) p
  end_root h n = reads_root p (map end_byte p) (as_end p) h n

  pub end_first : Reads (map end_byte p) 18 1
  end_first = first (map end_byte p)

  pub end_on : (s i m : ℕ) → i < length p → Reads (map end_byte p) s i → get_or p i 0 < 256 → m ≡ packed_steps (end_byte (get_or p i 0)) / 2 ^ (s % 64) → Reads (map end_byte p) m (i + 1)
  unfolding as_end
  end_on s i m h w l e = reads_on p (map end_byte p) (as_end p) s i m h w l e

  module _ (s seen i : ℕ) (h : get_or p 0 0 ≡ 47) (n : length p ≢ 0) (m : length p ≢ 1) (w : Reads (map end_byte p) s i) (e : length p ≤ i) where
    pub end_refused : 18 ≤ s % 64 → 0 ≡ scan_code (map end_byte p) p
    end_refused t = reads_refused p (map end_byte p) (as_end p) s seen i h n m w e t

    pub end_ascii : s % 64 < 18 → Seen p seen i → seen < 128 → 1 ≡ scan_code (map end_byte p) p
    end_ascii t v l = reads_ascii p (map end_byte p) (as_end p) s seen i h n m w e t v l

    pub end_high : s % 64 < 18 → Seen p seen i → 128 ≤ seen → 2 ≡ scan_code (map end_byte p) p
    end_high t v l = reads_high p (map end_byte p) (as_end p) s seen i h n m w e t v l

pub ruleset end_scanning = (end_none, end_other, end_root, end_refused, end_ascii, end_high, seen_first, end_first)

-- What the code tells of the two conditions.
module _ (p q : Text) (n : ℕ) (e : n ≡ scan_code q p) where
  code_yes : n ≡ 1 → true ≡ (scan_accepts q && characters_allowed p)
  unfolding scan_code
  code_yes t = go (scan_accepts q) (is_ascii p) refl (sym e ∙ t)
    where
      go : (a b : Bool) → is_ascii p ≡ b → ◌≡◌ {A = ℕ} (cond a (cond b 1 2) 0) 1 → true ≡ (a && characters_allowed p)
      go true true h k = sym (ascii_allowed p h)
      go true false h k = absurd (omega arith)
      go false b h k = absurd (omega arith)

  code_no : n ≡ 0 → false ≡ (scan_accepts q && characters_allowed p)
  unfolding scan_code
  code_no t = go (scan_accepts q) (is_ascii p) (sym e ∙ t)
    where
      go : (a b : Bool) → ◌≡◌ {A = ℕ} (cond a (cond b 1 2) 0) 0 → false ≡ (a && characters_allowed p)
      go true true k = absurd (omega arith)
      go true false k = absurd (omega arith)
      go false b k = refl

  code_asks : (c : Bool) → n ≢ 0 → c ≡ characters_allowed p → c ≡ (scan_accepts q && characters_allowed p)
  unfolding scan_code
  code_asks c z f = go (scan_accepts q) (is_ascii p) e
    where
      go : (a b : Bool) → n ≡ cond a (cond b 1 2) 0 → c ≡ (a && characters_allowed p)
      go true b k = f
      go false b k = absurd (z k)

-- Lemmas for `is_legal_own`.
module _ (p : Text) (n : ℕ) (e : n ≡ scan_code p p) where
  pub own_yes : n ≡ 1 → true ≡ legal_own p
  unfolding legal_own
  own_yes t = code_yes p p n e t

  pub own_no : n ≡ 0 → false ≡ legal_own p
  unfolding legal_own
  own_no t = code_no p p n e t

  pub own_asks : (c : Bool) → n ≢ 0 → c ≡ characters_allowed p → c ≡ legal_own p
  unfolding legal_own
  own_asks c z f = code_asks p p n e c z f

-- Lemmas for `is_legal`, of a text that does not end in a closing bracket.
module _ (p : Text) (l : Bool) (h : l ≡ ends_with_byte 93 p) (o : l ≡ false) (n : ℕ) (e : n ≡ scan_code p p) where
  pub legal_yes : n ≡ 1 → true ≡ legal p
  legal_yes t = legal_scanned p l true h o (own_yes p n e t)

  pub legal_no : n ≡ 0 → false ≡ legal p
  legal_no t = legal_scanned p l false h o (own_no p n e t)

  pub legal_asks : (c : Bool) → n ≢ 0 → c ≡ characters_allowed p → c ≡ legal p
  legal_asks c z f = legal_scanned p l c h o (own_asks p n e c z f)

-- Lemmas for `is_end`.
module _ (p : Text) (n : ℕ) (e : n ≡ scan_code (map end_byte p) p) where
  pub is_end_yes : n ≡ 1 → true ≡ is_end p
  is_end_yes t = rw (ends_by_scan p) (code_yes p (map end_byte p) n e t)

  pub is_end_no : n ≡ 0 → false ≡ is_end p
  is_end_no t = rw (ends_by_scan p) (code_no p (map end_byte p) n e t)

  pub is_end_asks : (c : Bool) → n ≢ 0 → c ≡ characters_allowed p → c ≡ is_end p
  is_end_asks c z f = rw (ends_by_scan p) (code_asks p (map end_byte p) n e c z f)

pub ruleset asking = (own_yes, own_no, own_asks, legal_yes, legal_no, legal_asks, is_end_yes, is_end_no, is_end_asks)
