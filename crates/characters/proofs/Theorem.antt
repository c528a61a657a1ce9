-- The theorem that the well-formed texts are the bytes of characters, one after the other.
use Rattle.std.specs.Prelude.{Option, Some, None}
use mathlib.Core.Path.{◌≡◌, refl, ap, ◌∙◌}
use mathlib.Core.Bool.{Bool, true, false, cond, ◌&&◌, false≢true}
use mathlib.Core.List.{List, [], ◌∷◌, ◌++◌}
use Prim.Native.Nat.{ℕ, zero, suc, ◌+◌, ◌/◌, ◌%◌, ◌≤◌, ◌<◌}
use native.Mathlib.Omega.{arith}
use lib.Dec.{leb}
use lib.ListN.{length}
use borrow.Author.Tests.{leb-true, le-leb}
use Rattle.text.specs.Text.{Text}
use Rattle.text.specs.Range.{in_range}
use Rattle.text.proofs.BoolLaws.{and_l, and_r}
use Rattle.text.proofs.RangeLaws.{within_below, within_low, within_high}
use Rattle.characters.specs.Utf8.{is_scalar_value, are_scalar_values, continuation, encode, encode_all, Between, Inside, is_continuation, is_shortest, with_bits, prepend, decode_from, decode, Encoded, DecodesExactly}
use Rattle.characters.specs.NameCharacter.{are_allowed, allowed_in, characters_allowed}
use Rattle.characters.proofs.EncodeLaws.{encode_1, encode_2, encode_3, encode_4, decodes}

-- Encoding and then decoding.
pub encoded_decodes : (cs : List ℕ) → are_scalar_values cs ≡ true → decode_from Between (encode_all cs) ≡ Some cs
unfolding are_scalar_values encode_all decode_from
encoded_decodes [] e = refl
encoded_decodes (c ∷ r) e =
    decodes c (and_l (is_scalar_value c) (are_scalar_values r) e) (encode_all r) ∙ ap (prepend c) (encoded_decodes r (and_r (is_scalar_value c) (are_scalar_values r) e))

-- A character of ASCII is a scalar value.
pub ascii_scalar : (a : ℕ) → a ≤ 0x7F → is_scalar_value a ≡ true
unfolding is_scalar_value
ascii_scalar a h = rw (le-leb a 0x10FFFF (omega arith), within_below 0xD800 0xDFFF a (omega arith))

no_list : {cs : List ℕ} → None ≡ Some cs → ⊥
no_list e = let z : ◌≡◌ {A = ℕ} 0 1 = cc in omega arith

-- What was decoded begins with a character.
record Begins (c : ℕ) (d : Option (List ℕ)) (cs : List ℕ) : Type 0 where
  rest : List ℕ
  decoded : d ≡ Some rest
  all : cs ≡ c ∷ rest

begins : (c : ℕ) (d : Option (List ℕ)) (cs : List ℕ) → prepend c d ≡ Some cs → Begins c d cs
begins c None cs e = absurd (no_list e)
begins c (Some r) cs e = record { rest = r; decoded = refl; all = cc e }

-- If a text could be decoded from inside a character, its first byte continues the character or completes it.
record Continued (least bits a : ℕ) (t : Text) (more : ℕ) (cs : List ℕ) : Type 0 where
  low : 0x80 ≤ a
  high : a ≤ 0xBF
  on : decode_from (Inside more least (with_bits bits a)) t ≡ Some cs

record Completed (least bits a : ℕ) (t : Text) (cs : List ℕ) : Type 0 where
  low : 0x80 ≤ a
  high : a ≤ 0xBF
  shortest : least ≤ with_bits bits a
  scalar : is_scalar_value (with_bits bits a) ≡ true
  begun : Begins (with_bits bits a) (decode_from Between t) cs

module _ (least bits a : ℕ) (t : Text) (cs : List ℕ) where
  continued : (more : ℕ) → decode_from (Inside (suc more) least bits) (a ∷ t) ≡ Some cs → Continued least bits a t more cs
  unfolding decode_from
  continued more e = go (is_continuation a) refl e
    where
      go : (b : Bool) → is_continuation a ≡ b → cond b (decode_from (Inside more least (with_bits bits a)) t) None ≡ Some cs → Continued least bits a t more cs
      go true h f = record { low = within_low 0x80 0xBF a h; high = within_high 0x80 0xBF a h; on = f }
      go false h f = absurd (no_list f)

  completed : decode_from (Inside 0 least bits) (a ∷ t) ≡ Some cs → Completed least bits a t cs
  unfolding decode_from
  completed e = go (is_continuation a && is_shortest least (with_bits bits a)) refl e
    where
      go : (b : Bool) → (is_continuation a && is_shortest least (with_bits bits a)) ≡ b
          → cond b (prepend (with_bits bits a) (decode_from Between t)) None ≡ Some cs → Completed least bits a t cs
      go true h f =
          let k : is_continuation a ≡ true = and_l (is_continuation a) (is_shortest least (with_bits bits a)) h in
          let l : is_shortest least (with_bits bits a) ≡ true = and_r (is_continuation a) (is_shortest least (with_bits bits a)) h in
          record {
            low = within_low 0x80 0xBF a k;
            high = within_high 0x80 0xBF a k;
            shortest = leb-true least (with_bits bits a) (and_l (leb least (with_bits bits a)) (is_scalar_value (with_bits bits a)) l);
            scalar = and_r (leb least (with_bits bits a)) (is_scalar_value (with_bits bits a)) l;
            begun = begins (with_bits bits a) (decode_from Between t) cs f;
          }
      go false h f = absurd (no_list f)

-- A character before a text.
encoded_cons : (c : ℕ) (x y : Text) (cs : List ℕ) (d : Option (List ℕ)) → is_scalar_value c ≡ true → encode c ≡ x → (w : Begins c d cs) → Encoded y w.rest → Encoded (x ++ y) cs
unfolding are_scalar_values encode_all
encoded_cons c x y cs d s e w r =
    rw w.all (record { scalar = rw s r.scalar; same = rw e (ap (λ (t : Text). x ++ t) r.same) })

-- Texts shorter than n bytes are the bytes of their characters.
abbrev Below : ℕ → Type 0
Below n = (t : Text) → length t < n → (cs : List ℕ) → decode_from Between t ≡ Some cs → Encoded t cs

module _ (a : ℕ) (n : ℕ) (ih : Below n) (cs : List ℕ) where
  back_1 : (t : Text) → length t < n → a ≤ 0x7F → prepend a (decode_from Between t) ≡ Some cs → Encoded (a ∷ t) cs
  back_1 t l h e =
      let w = begins a (decode_from Between t) cs e in
      encoded_cons a (a ∷ []) t cs (decode_from Between t) (ascii_scalar a h) (encode_1 a h) w (ih t l w.rest w.decoded)

  back_2 : (t : Text) → length t ≤ n → 0xC0 ≤ a → a ≤ 0xDF → decode_from (Inside 0 0x80 (a % 32)) t ≡ Some cs → Encoded (a ∷ t) cs
  unfolding decode_from
  back_2 [] l h k e = absurd (no_list e)
  back_2 (b ∷ t) l h k e =
      let w = completed 0x80 (a % 32) b t cs e in
      let c : ℕ = with_bits (a % 32) b in
      let i : 0xC0 + c / 64 ≡ a = omega (arith, w.low, w.high) in
      let j : continuation c ≡ b = omega (arith, w.low, w.high) in
      encoded_cons c (a ∷ b ∷ []) t cs (decode_from Between t) w.scalar
      (encode_2 c (omega (arith, w.shortest)) (omega (arith, w.low, w.high)) ∙ rw (i, j)) w.begun
      (ih t (omega arith) w.begun.rest w.begun.decoded)

  back_3 : (t : Text) → length t ≤ n → 0xE0 ≤ a → a ≤ 0xEF → decode_from (Inside 1 0x800 (a % 16)) t ≡ Some cs → Encoded (a ∷ t) cs
  unfolding decode_from
  back_3 [] l h k e = absurd (no_list e)
  back_3 (b ∷ t) l h k e = go t l (continued 0x800 (a % 16) b t cs 0 e)
    where
      go : (t : Text) → length (b ∷ t) ≤ n → Continued 0x800 (a % 16) b t 0 cs → Encoded (a ∷ b ∷ t) cs
      go [] l v = absurd (no_list v.on)
      go (d ∷ t) l v =
          let w = completed 0x800 (with_bits (a % 16) b) d t cs v.on in
          let c : ℕ = with_bits (with_bits (a % 16) b) d in
          let i : 0xE0 + c / 64 / 64 ≡ a = omega (arith, v.low, v.high, w.low, w.high) in
          let j : continuation (c / 64) ≡ b = omega (arith, v.low, v.high, w.low, w.high) in
          let m : continuation c ≡ d = omega (arith, w.low, w.high) in
          encoded_cons c (a ∷ b ∷ d ∷ []) t cs (decode_from Between t) w.scalar
          (encode_3 c (omega (arith, w.shortest)) (omega (arith, v.low, v.high, w.low, w.high)) ∙ rw (i, j, m)) w.begun
          (ih t (omega arith) w.begun.rest w.begun.decoded)

  back_4 : (t : Text) → length t ≤ n → 0xF0 ≤ a → a ≤ 0xF7 → decode_from (Inside 2 0x10000 (a % 8)) t ≡ Some cs → Encoded (a ∷ t) cs
  unfolding decode_from
  back_4 [] l h k e = absurd (no_list e)
  back_4 (b ∷ t) l h k e = go t l (continued 0x10000 (a % 8) b t cs 1 e)
    where
      go : (t : Text) → length (b ∷ t) ≤ n → Continued 0x10000 (a % 8) b t 1 cs → Encoded (a ∷ b ∷ t) cs
      go [] l v = absurd (no_list v.on)
      go (d ∷ t) l v = last t l (continued 0x10000 (with_bits (a % 8) b) d t cs 0 v.on)
        where
          last : (t : Text) → length (b ∷ d ∷ t) ≤ n → Continued 0x10000 (with_bits (a % 8) b) d t 0 cs → Encoded (a ∷ b ∷ d ∷ t) cs
          last [] l u = absurd (no_list u.on)
          last (f ∷ t) l u =
              let w = completed 0x10000 (with_bits (with_bits (a % 8) b) d) f t cs u.on in
              let c : ℕ = with_bits (with_bits (with_bits (a % 8) b) d) f in
              let i : 0xF0 + c / 64 / 64 / 64 ≡ a = omega (arith, v.low, v.high, u.low, u.high, w.low, w.high) in
              let j : continuation (c / 64 / 64) ≡ b = omega (arith, v.low, v.high, u.low, u.high, w.low, w.high) in
              let m : continuation (c / 64) ≡ d = omega (arith, u.low, u.high, w.low, w.high) in
              let o : continuation c ≡ f = omega (arith, w.low, w.high) in
              encoded_cons c (a ∷ b ∷ d ∷ f ∷ []) t cs (decode_from Between t) w.scalar
              (encode_4 c (omega (arith, w.shortest)) ∙ rw (i, j, m, o)) w.begun
              (ih t (omega arith) w.begun.rest w.begun.decoded)

-- Decoding and then encoding, by induction over the length of the text.
decoded_encodes : (n : ℕ) → Below n
unfolding decode_from encode_all are_scalar_values
decoded_encodes zero t l cs e = absurd (omega arith)
decoded_encodes (suc n) [] l cs e = let h : cs ≡ [] = cc in rw h (record { scalar = refl; same = refl })
decoded_encodes (suc n) (a ∷ r) l cs e =
    go (leb a 0x7F) (in_range 0xC0 0xDF a) (in_range 0xE0 0xEF a) (in_range 0xF0 0xF7 a) refl refl refl refl e (λ t. decoded_encodes n t)
  where
    go : (one two three four : Bool) → leb a 0x7F ≡ one → in_range 0xC0 0xDF a ≡ two → in_range 0xE0 0xEF a ≡ three → in_range 0xF0 0xF7 a ≡ four
        → cond one (prepend a (decode_from Between r)) (cond two (decode_from (Inside 0 0x80 (a % 32)) r) (cond three (decode_from (Inside 1 0x800 (a % 16)) r) (cond four (decode_from (Inside 2 0x10000 (a % 8)) r) None))) ≡ Some cs
        → Below n → Encoded (a ∷ r) cs
    go true two three four h i j k f ih = back_1 a n ih cs r (omega arith) (leb-true a 0x7F h) f
    go false true three four h i j k f ih = back_2 a n ih cs r (omega arith) (within_low 0xC0 0xDF a i) (within_high 0xC0 0xDF a i) f
    go false false true four h i j k f ih = back_3 a n ih cs r (omega arith) (within_low 0xE0 0xEF a j) (within_high 0xE0 0xEF a j) f
    go false false false true h i j k f ih = back_4 a n ih cs r (omega arith) (within_low 0xF0 0xF7 a k) (within_high 0xF0 0xF7 a k) f
    go false false false false h i j k f ih = absurd (no_list f)

pub decodes_exactly : DecodesExactly
unfolding decode
decodes_exactly p cs =
    (λ e. decoded_encodes (suc (length p)) p (omega arith) cs e, λ w. rw (← w.same) (encoded_decodes cs w.scalar))

-- The allowed texts are the bytes of allowed characters.
pub encoded_allowed : (cs : List ℕ) → are_scalar_values cs ≡ true → are_allowed cs ≡ true → characters_allowed (encode_all cs) ≡ true
unfolding characters_allowed decode
encoded_allowed cs s e = rw (encoded_decodes cs s) e

pub record AllowedCharacters (p : Text) : Type 0 where
  pub characters : List ℕ
  pub allowed : are_allowed characters ≡ true
  pub encoded : Encoded p characters

pub allowed_characters : (p : Text) → characters_allowed p ≡ true → AllowedCharacters p
unfolding characters_allowed
allowed_characters p e = go (decode p) refl e
  where
    go : (d : Option (List ℕ)) → decode p ≡ d → allowed_in d ≡ true → AllowedCharacters p
    go None h f = absurd (false≢true f)
    go (Some cs) h f = record { characters = cs; allowed = f; encoded = (decodes_exactly p cs).0 h }
