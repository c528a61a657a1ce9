-- The bytes of names: each is a byte that a name may have, and the automaton reads the bytes of a character as it reads the character.
use mathlib.Core.Path.{◌≡◌, refl, sym, ap, ◌∙◌}
use mathlib.Core.Bool.{Bool, true, false, ◌&&◌, ◌||◌, true≢false}
use mathlib.Core.List.{List, [], ◌∷◌, ◌++◌}
use Prim.Native.Nat.{ℕ, ◌<◌, ◌≤◌}
use native.Mathlib.Omega.{arith}
use lib.Dec.{leb}
use borrow.Author.Tests.{leb-true, leb-false, le-leb, ne_eqb}
use Rattle.text.specs.Text.{Text}
use Rattle.text.proofs.BoolLaws.{and_l, and_r, or_right, or_false}
use Rattle.text.proofs.RangeLaws.{within_above}
use Rattle.characters.specs.Utf8.{is_scalar_value, are_scalar_values, encode, encode_all}
use Rattle.characters.specs.NameCharacter.{is_name_character, is_allowed, are_allowed, characters_allowed, is_ascii}
use Rattle.characters.proofs.EncodeLaws.{encode_1, are_high, HighBytes, encode_high}
use Rattle.characters.proofs.AllowedLaws.{ascii_allowed}
use Rattle.characters.proofs.Theorem.{encoded_allowed, ascii_scalar}
use Rattle.path_grammar.specs.Legal.{ScanState, Slash, Name, Opened, Set, Equals, Sel, Closed, Dot, Prop, Dead, is_ascii_start, is_ascii_digit, is_name_start_byte, is_name_byte, is_variant_byte, starts_name, step, run}
use Rattle.path_grammar.specs.Grammar as g
use Rattle.path_grammar.specs.Grammar.{is_identifier_start, is_identifier_cont, all_cont, are_variant_bytes, name_text, word_text}
use Rattle.path_grammar.proofs.RunLaws.{run_app}
use Rattle.path_grammar.proofs.LegalLaws.{start_cont, variant_cont}

-- A byte outside ASCII.
module _ (a : ℕ) (h : leb 0x80 a ≡ true) where
  pub high_start : is_name_start_byte a ≡ true
  unfolding is_name_start_byte
  high_start = or_right (is_ascii_start a) (leb 0x80 a) h

  pub high_name : is_name_byte a ≡ true
  high_name = start_cont a high_start

  pub high_no_variant : is_variant_byte a ≡ false
  unfolding is_variant_byte
  high_no_variant =
      let l : 0x80 ≤ a = leb-true 0x80 a h in
      rw (
        within_above 65 90 a (omega arith),
        within_above 97 122 a (omega arith),
        ne_eqb a 95 (λ e. omega (arith, e)),
        within_above 48 57 a (omega arith),
      )

-- The state after a character outside ASCII, or a byte of one.
abbrev high_step : ScanState → ScanState
high_step Slash = Name
high_step Name = Name
high_step Opened = Set
high_step Set = Set
high_step Equals = Dead
high_step Sel = Dead
high_step Closed = Name
high_step Dot = Prop
high_step Prop = Prop
high_step Dead = Dead

high_steps : (s : ScanState) (a : ℕ) → leb 0x80 a ≡ true → step s a ≡ high_step s
unfolding step
high_steps Slash a h = rw (high_start a h)
high_steps Name a h = rw (high_name a h)
high_steps Opened a h = rw (high_start a h)
high_steps Set a h = rw (high_name a h)
high_steps Equals a h = rw (high_no_variant a h)
high_steps Sel a h = rw (high_no_variant a h, ne_eqb a 125 (λ e. omega (arith, e, leb-true 0x80 a h)))
high_steps Closed a h = rw (high_start a h)
high_steps Dot a h = rw (high_start a h)
high_steps Prop a h = rw (high_name a h)
high_steps Dead a h = refl

high_stays : (s : ScanState) → high_step (high_step s) ≡ high_step s
high_stays Slash = refl
high_stays Name = refl
high_stays Opened = refl
high_stays Set = refl
high_stays Equals = refl
high_stays Sel = refl
high_stays Closed = refl
high_stays Dot = refl
high_stays Prop = refl
high_stays Dead = refl

run_high : (s : ScanState) (t : Text) → are_high t ≡ true → run (high_step s) t ≡ high_step s
unfolding run are_high
run_high s [] e = refl
run_high s (a ∷ t) e =
    rw (high_steps (high_step s) a (and_l (leb 0x80 a) (are_high t) e), high_stays s) (run_high s t (and_r (leb 0x80 a) (are_high t) e))

run_encode : (s : ScanState) (c : ℕ) → run s (encode c) ≡ step s c
unfolding run
run_encode s c = go (leb c 0x7F) refl
  where
    high : HighBytes (encode c) → 0x7F < c → run s (encode c) ≡ step s c
    high w l =
        rw (w.same, high_steps s w.first w.first_high, run_high s w.more w.more_high, high_steps s c (le-leb 0x80 c (omega arith)))

    go : (b : Bool) → leb c 0x7F ≡ b → run s (encode c) ≡ step s c
    go true h = rw (encode_1 c (leb-true c 0x7F h))
    go false h = high (encode_high c (leb-false c 0x7F h)) (leb-false c 0x7F h)

pub run_characters : (s : ScanState) (cs : List ℕ) → run s (encode_all cs) ≡ run s cs
unfolding run encode_all
run_characters s [] = refl
run_characters s (c ∷ r) = run_app s (encode c) (encode_all r) ∙ rw (run_encode s c) (run_characters (step s c) r)

-- Every byte of a text may be part of a name.
unfoldable pub are_name_bytes : Text → Bool
are_name_bytes [] = true
are_name_bytes (a ∷ r) = is_name_byte a && are_name_bytes r

name_bytes_join : (x y : Text) → are_name_bytes x ≡ true → are_name_bytes y ≡ true → are_name_bytes (x ++ y) ≡ true
unfolding are_name_bytes
name_bytes_join [] y e f = f
name_bytes_join (a ∷ x) y e f = rw (and_l (is_name_byte a) (are_name_bytes x) e) (name_bytes_join x y (and_r (is_name_byte a) (are_name_bytes x) e) f)

high_bytes : (t : Text) → are_high t ≡ true → are_name_bytes t ≡ true
unfolding are_high are_name_bytes
high_bytes [] e = refl
high_bytes (a ∷ t) e = rw (high_name a (and_l (leb 0x80 a) (are_high t) e)) (high_bytes t (and_r (leb 0x80 a) (are_high t) e))

-- A character that a name may have, as a number: it is no less than U+0080, or it is a byte that a name may have.
name_high : (c : ℕ) → is_name_character c ≡ true → leb 0x80 c ≡ true
unfolding is_name_character
name_high c e = and_l (leb 0x80 c) _ (and_r (is_scalar_value c) _ e)

pub start_number : (c : ℕ) → is_identifier_start c ≡ true → is_name_start_byte c ≡ true
unfolding is_identifier_start is_name_start_byte
start_number c e = go (is_ascii_start c) (is_name_character c) refl e
  where
    go : (a n : Bool) → is_name_character c ≡ n → (a || n) ≡ true → (a || leb 0x80 c) ≡ true
    go true n h k = refl
    go false n h k = name_high c (h ∙ k)

pub cont_number : (c : ℕ) → is_identifier_cont c ≡ true → is_name_byte c ≡ true
unfolding is_identifier_cont is_name_byte
cont_number c e = go (is_identifier_start c) refl e
  where
    go : (b : Bool) → is_identifier_start c ≡ b → (b || is_ascii_digit c) ≡ true → (is_name_start_byte c || is_ascii_digit c) ≡ true
    go true h k = rw (start_number c h)
    go false h k = or_right (is_name_start_byte c) (is_ascii_digit c) k

-- The bytes of such a character.
cont_bytes : (c : ℕ) → is_identifier_cont c ≡ true → are_name_bytes (encode c) ≡ true
unfolding are_name_bytes
cont_bytes c e = go (leb c 0x7F) refl
  where
    high : HighBytes (encode c) → are_name_bytes (encode c) ≡ true
    high w = rw (w.same, high_name w.first w.first_high) (high_bytes w.more w.more_high)

    go : (b : Bool) → leb c 0x7F ≡ b → are_name_bytes (encode c) ≡ true
    go true h = rw (encode_1 c (leb-true c 0x7F h), cont_number c e)
    go false h = high (encode_high c (leb-false c 0x7F h))

start_is_cont : (c : ℕ) → is_identifier_start c ≡ true → is_identifier_cont c ≡ true
unfolding is_identifier_cont
start_is_cont c h = rw h

all_bytes : (cs : List ℕ) → all_cont cs ≡ true → are_name_bytes (encode_all cs) ≡ true
unfolding all_cont encode_all are_name_bytes
all_bytes [] e = refl
all_bytes (c ∷ r) e = name_bytes_join (encode c) (encode_all r) (cont_bytes c (and_l (is_identifier_cont c) (all_cont r) e)) (all_bytes r (and_r (is_identifier_cont c) (all_cont r) e))

all_cont_lem : (n : g.Name) → all_cont (n.first ∷ n.more) ≡ true
unfolding all_cont
all_cont_lem n = rw (start_is_cont n.first n.first_is) n.more_are

pub name_bytes : (n : g.Name) → are_name_bytes (name_text n) ≡ true
unfolding name_text
name_bytes n = all_bytes (n.first ∷ n.more) (all_cont_lem n)

-- A text that is not empty and has bytes of names only begins with one.
starts : (x y : Text) (a : ℕ) (r : Text) → x ≡ a ∷ r → are_name_bytes x ≡ true → starts_name (x ++ y) ≡ true
unfolding are_name_bytes
starts [] y a r h e = absurd (nothing_is h)
  where
    nothing_is : [] ≡ a ∷ r → ⊥
    nothing_is h = let z : ◌≡◌ {A = ℕ} 0 1 = cc in omega arith
starts (b ∷ x) y a r h e = and_l (is_name_byte b) (are_name_bytes x) e

pub name_starts : (n : g.Name) (y : Text) → starts_name (name_text n ++ y) ≡ true
unfolding name_text encode_all
name_starts n y = go (leb c 0x7F) refl
  where
    c : ℕ
    c = n.first

    high : HighBytes (encode c) → starts_name (name_text n ++ y) ≡ true
    high w = starts (name_text n) y w.first (w.more ++ encode_all n.more) (ap (λ (t : Text). t ++ encode_all n.more) w.same) (name_bytes n)

    go : (b : Bool) → leb c 0x7F ≡ b → starts_name (name_text n ++ y) ≡ true
    go true h = starts (name_text n) y c (encode_all n.more) (ap (λ (t : Text). t ++ encode_all n.more) (encode_1 c (leb-true c 0x7F h))) (name_bytes n)
    go false h = high (encode_high c (leb-false c 0x7F h))

-- The bytes of a variant are ASCII, and bytes that a name may have.
pub variant_ascii : (a : ℕ) → is_variant_byte a ≡ true → leb a 0x7F ≡ true
variant_ascii a e = go (leb 0x80 a) refl
  where
    go : (b : Bool) → leb 0x80 a ≡ b → leb a 0x7F ≡ true
    go true h = absurd (true≢false (sym e ∙ high_no_variant a h))
    go false h = le-leb a 0x7F (omega (arith, leb-false 0x80 a h))

variants_ascii : (t : Text) → are_variant_bytes t ≡ true → is_ascii t ≡ true
unfolding are_variant_bytes is_ascii
variants_ascii [] e = refl
variants_ascii (a ∷ t) e = rw (variant_ascii a (and_l (is_variant_byte a) (are_variant_bytes t) e)) (variants_ascii t (and_r (is_variant_byte a) (are_variant_bytes t) e))

variants_bytes : (t : Text) → are_variant_bytes t ≡ true → are_name_bytes t ≡ true
unfolding are_variant_bytes are_name_bytes
variants_bytes [] e = refl
variants_bytes (a ∷ t) e = rw (variant_cont a (and_l (is_variant_byte a) (are_variant_bytes t) e)) (variants_bytes t (and_r (is_variant_byte a) (are_variant_bytes t) e))

word_are : (w : g.Word) → are_variant_bytes (word_text w) ≡ true
unfolding are_variant_bytes word_text
word_are w = rw w.first_is w.more_are

pub word_bytes : (w : g.Word) → are_name_bytes (word_text w) ≡ true
word_bytes w = variants_bytes (word_text w) (word_are w)

-- The characters of names and variants are allowed.
pub word_allowed : (w : g.Word) → characters_allowed (word_text w) ≡ true
word_allowed w = ascii_allowed (word_text w) (variants_ascii (word_text w) (word_are w))

ascii_name : (c : ℕ) → leb c 0x7F ≡ true → (is_scalar_value c ≡ true) × (is_allowed c ≡ true)
ascii_name c h = (ascii_scalar c (leb-true c 0x7F h), rw h)

high_allowed : (c : ℕ) → is_name_character c ≡ true → (is_scalar_value c ≡ true) × (is_allowed c ≡ true)
unfolding is_name_character
high_allowed c h = (and_l (is_scalar_value c) _ h, or_right (leb c 0x7F) (is_name_character c) h)

variant_is : (c : ℕ) → (is_ascii_start c || is_ascii_digit c) ≡ is_variant_byte c
unfolding is_variant_byte
variant_is c = refl

cont_allowed : (c : ℕ) → is_identifier_cont c ≡ true → (is_scalar_value c ≡ true) × (is_allowed c ≡ true)
unfolding is_identifier_cont is_identifier_start
cont_allowed c e = go (leb c 0x7F) (is_name_character c) refl refl
  where
    other : leb c 0x7F ≡ false → is_name_character c ≡ false → ⊥
    other h k =
        let l : 0x7F < c = leb-false c 0x7F h in
        let v : is_variant_byte c ≡ false = high_no_variant c (le-leb 0x80 c (omega arith)) in
        true≢false (sym e ∙ rw (k, or_false (is_ascii_start c)) (variant_is c ∙ v))

    go : (b n : Bool) → leb c 0x7F ≡ b → is_name_character c ≡ n → (is_scalar_value c ≡ true) × (is_allowed c ≡ true)
    go true n h k = ascii_name c h
    go false true h k = high_allowed c k
    go false false h k = absurd (other h k)

characters_allowed_lem : (cs : List ℕ) → all_cont cs ≡ true → (are_scalar_values cs ≡ true) × (are_allowed cs ≡ true)
unfolding all_cont are_scalar_values are_allowed
characters_allowed_lem [] e = (refl, refl)
characters_allowed_lem (c ∷ r) e =
    let h = cont_allowed c (and_l (is_identifier_cont c) (all_cont r) e) in
    let w = characters_allowed_lem r (and_r (is_identifier_cont c) (all_cont r) e) in
    (rw h.0 w.0, rw h.1 w.1)

pub name_allowed : (n : g.Name) → characters_allowed (name_text n) ≡ true
unfolding name_text
name_allowed n = let h = characters_allowed_lem (n.first ∷ n.more) (all_cont_lem n) in encoded_allowed (n.first ∷ n.more) h.0 h.1
