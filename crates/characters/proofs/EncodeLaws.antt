-- The bytes of a character: how they are decoded, and that they lie in ASCII exactly if the character does.
use mathlib.Core.Path.{◌≡◌, refl, ap, ◌∙◌}
use mathlib.Core.Bool.{Bool, true, false, ◌&&◌}
use mathlib.Core.List.{[], ◌∷◌, ◌++◌}
use Prim.Native.Nat.{ℕ, suc, ◌+◌, ◌/◌, ◌%◌, ◌≤◌, ◌<◌}
use native.Mathlib.Omega.{arith}
use lib.Dec.{leb}
use borrow.Author.Tests.{leb-true, leb-false, le-leb, lt-leb}
use Rattle.text.specs.Text.{Text}
use Rattle.text.proofs.BoolLaws.{and_l}
use Rattle.text.proofs.RangeLaws.{within_yes, within_above}
use Rattle.characters.specs.Utf8.{is_scalar_value, continuation, encode, Between, Inside, with_bits, prepend, decode_from}

-- The bytes of a character, by its size.
module _ (c : ℕ) where
  pub encode_1 : c ≤ 0x7F → encode c ≡ c ∷ []
  unfolding encode
  encode_1 h = rw (le-leb c 0x7F h)

  pub encode_2 : 0x7F < c → c ≤ 0x7FF → encode c ≡ (0xC0 + c / 64) ∷ continuation c ∷ []
  unfolding encode
  encode_2 h k = rw (lt-leb c 0x7F h, le-leb c 0x7FF k)

  pub encode_3 : 0x7FF < c → c ≤ 0xFFFF → encode c ≡ (0xE0 + c / 64 / 64) ∷ continuation (c / 64) ∷ continuation c ∷ []
  unfolding encode
  encode_3 h k = let l : 0x7F < c = omega arith in rw (lt-leb c 0x7F l, lt-leb c 0x7FF h, le-leb c 0xFFFF k)

  pub encode_4 : 0xFFFF < c → encode c ≡ (0xF0 + c / 64 / 64 / 64) ∷ continuation (c / 64 / 64) ∷ continuation (c / 64) ∷ continuation c ∷ []
  unfolding encode
  encode_4 h =
      let l : 0x7F < c = omega arith in
      let m : 0x7FF < c = omega arith in
      rw (lt-leb c 0x7F l, lt-leb c 0x7FF m, lt-leb c 0xFFFF h)

-- The first byte says how many follow.
module _ (a : ℕ) (t : Text) where
  pub first_1 : a ≤ 0x7F → decode_from Between (a ∷ t) ≡ prepend a (decode_from Between t)
  unfolding decode_from
  first_1 h = rw (le-leb a 0x7F h)

  pub first_2 : 0xC0 ≤ a → a ≤ 0xDF → decode_from Between (a ∷ t) ≡ decode_from (Inside 0 0x80 (a % 32)) t
  unfolding decode_from
  first_2 h k = let l : 0x7F < a = omega arith in rw (lt-leb a 0x7F l, within_yes 0xC0 0xDF a h k)

  pub first_3 : 0xE0 ≤ a → a ≤ 0xEF → decode_from Between (a ∷ t) ≡ decode_from (Inside 1 0x800 (a % 16)) t
  unfolding decode_from
  first_3 h k =
      let l : 0x7F < a = omega arith in
      let m : 0xDF < a = omega arith in
      rw (lt-leb a 0x7F l, within_above 0xC0 0xDF a m, within_yes 0xE0 0xEF a h k)

  pub first_4 : 0xF0 ≤ a → a ≤ 0xF7 → decode_from Between (a ∷ t) ≡ decode_from (Inside 2 0x10000 (a % 8)) t
  unfolding decode_from
  first_4 h k =
      let l : 0x7F < a = omega arith in
      let m : 0xDF < a = omega arith in
      let n : 0xEF < a = omega arith in
      rw (lt-leb a 0x7F l, within_above 0xC0 0xDF a m, within_above 0xE0 0xEF a n, within_yes 0xF0 0xF7 a h k)

-- A byte that continues a character, and the one that completes it.
module _ (least bits a : ℕ) (t : Text) (h : 0x80 ≤ a) (k : a ≤ 0xBF) where
  pub continues : (more : ℕ) → decode_from (Inside (suc more) least bits) (a ∷ t) ≡ decode_from (Inside more least (with_bits bits a)) t
  unfolding decode_from
  continues more = rw (within_yes 0x80 0xBF a h k)

  pub completes : (c : ℕ) → with_bits bits a ≡ c → least ≤ c → is_scalar_value c ≡ true → decode_from (Inside 0 least bits) (a ∷ t) ≡ prepend c (decode_from Between t)
  unfolding decode_from
  completes c e l s = rw (within_yes 0x80 0xBF a h k, e, le-leb least c l, s)

-- A number is made of its lowest six bits and the others.
join_bits : (x : ℕ) → with_bits (x / 64) (continuation x) ≡ x
join_bits x = omega arith

-- So the bytes of a character are decoded as that character.
module _ (c : ℕ) (s : is_scalar_value c ≡ true) (r : Text) where
  decodes_2 : 0x7F < c → c ≤ 0x7FF → decode_from Between (encode c ++ r) ≡ prepend c (decode_from Between r)
  decodes_2 h k =
      let a : ℕ = 0xC0 + c / 64 in
      let b : ℕ = continuation c in
      let q : a % 32 ≡ c / 64 = omega arith in
      rw (encode_2 c h k)
      (first_2 a (b ∷ r) (omega arith) (omega arith)
      ∙ completes 0x80 (a % 32) b r (omega arith) (omega arith) c (ap (λ (x : ℕ). with_bits x b) q ∙ join_bits c) (omega arith) s)

  decodes_3 : 0x7FF < c → c ≤ 0xFFFF → decode_from Between (encode c ++ r) ≡ prepend c (decode_from Between r)
  decodes_3 h k =
      let a : ℕ = 0xE0 + c / 64 / 64 in
      let b : ℕ = continuation (c / 64) in
      let d : ℕ = continuation c in
      let q : a % 16 ≡ c / 64 / 64 = omega arith in
      let bits : with_bits (a % 16) b ≡ c / 64 = ap (λ (x : ℕ). with_bits x b) q ∙ join_bits (c / 64) in
      rw (encode_3 c h k)
      (first_3 a (b ∷ d ∷ r) (omega arith) (omega arith) ∙ continues 0x800 (a % 16) b (d ∷ r) (omega arith) (omega arith) 0
      ∙ completes 0x800 (with_bits (a % 16) b) d r (omega arith) (omega arith) c (ap (λ (x : ℕ). with_bits x d) bits ∙ join_bits c) (omega arith) s)

  decodes_4 : 0xFFFF < c → c ≤ 0x10FFFF → decode_from Between (encode c ++ r) ≡ prepend c (decode_from Between r)
  decodes_4 h k =
      let a : ℕ = 0xF0 + c / 64 / 64 / 64 in
      let b : ℕ = continuation (c / 64 / 64) in
      let d : ℕ = continuation (c / 64) in
      let f : ℕ = continuation c in
      let q : a % 8 ≡ c / 64 / 64 / 64 = omega arith in
      let bits : with_bits (a % 8) b ≡ c / 64 / 64 = ap (λ (x : ℕ). with_bits x b) q ∙ join_bits (c / 64 / 64) in
      let more : with_bits (with_bits (a % 8) b) d ≡ c / 64 = ap (λ (x : ℕ). with_bits x d) bits ∙ join_bits (c / 64) in
      rw (encode_4 c h)
      (first_4 a (b ∷ d ∷ f ∷ r) (omega arith) (omega arith) ∙ continues 0x10000 (a % 8) b (d ∷ f ∷ r) (omega arith) (omega arith) 1
      ∙ continues 0x10000 (with_bits (a % 8) b) d (f ∷ r) (omega arith) (omega arith) 0
      ∙ completes 0x10000 (with_bits (with_bits (a % 8) b) d) f r (omega arith) (omega arith) c (ap (λ (x : ℕ). with_bits x f) more ∙ join_bits c) (omega arith) s)

  pub decodes : decode_from Between (encode c ++ r) ≡ prepend c (decode_from Between r)
  unfolding is_scalar_value
  decodes = go (leb c 0x7F) (leb c 0x7FF) (leb c 0xFFFF) refl refl refl
    where
      go : (one two three : Bool) → leb c 0x7F ≡ one → leb c 0x7FF ≡ two → leb c 0xFFFF ≡ three
          → decode_from Between (encode c ++ r) ≡ prepend c (decode_from Between r)
      go true two three h k l = rw (encode_1 c (leb-true c 0x7F h)) (first_1 c r (leb-true c 0x7F h))
      go false true three h k l = decodes_2 (leb-false c 0x7F h) (leb-true c 0x7FF k)
      go false false true h k l = decodes_3 (leb-false c 0x7FF k) (leb-true c 0xFFFF l)
      go false false false h k l = decodes_4 (leb-false c 0xFFFF l) (leb-true c 0x10FFFF (and_l (leb c 0x10FFFF) _ s))

-- Every byte lies outside ASCII.
unfoldable pub are_high : Text → Bool
are_high [] = true
are_high (a ∷ r) = leb 0x80 a && are_high r

-- The bytes of a character outside ASCII: a first one, and more.
pub record HighBytes (t : Text) : Type 0 where
  pub first : ℕ
  pub more : Text
  pub same : t ≡ first ∷ more
  pub first_high : leb 0x80 first ≡ true
  pub more_high : are_high more ≡ true

pub encode_high : (c : ℕ) → 0x7F < c → HighBytes (encode c)
unfolding are_high
encode_high c h = go (leb c 0x7FF) (leb c 0xFFFF) refl refl
  where
    high : (n : ℕ) → leb 0x80 (0x80 + n) ≡ true
    high n = le-leb 0x80 (0x80 + n) (omega arith)

    go : (two three : Bool) → leb c 0x7FF ≡ two → leb c 0xFFFF ≡ three → HighBytes (encode c)
    go true three k l =
        record {
          first = 0xC0 + c / 64;
          more = continuation c ∷ [];
          same = encode_2 c h (leb-true c 0x7FF k);
          first_high = le-leb 0x80 (0xC0 + c / 64) (omega arith);
          more_high = rw (high (c % 64));
        }
    go false true k l =
        record {
          first = 0xE0 + c / 64 / 64;
          more = continuation (c / 64) ∷ continuation c ∷ [];
          same = encode_3 c (leb-false c 0x7FF k) (leb-true c 0xFFFF l);
          first_high = le-leb 0x80 (0xE0 + c / 64 / 64) (omega arith);
          more_high = rw (high (c / 64 % 64), high (c % 64));
        }
    go false false k l =
        record {
          first = 0xF0 + c / 64 / 64 / 64;
          more = continuation (c / 64 / 64) ∷ continuation (c / 64) ∷ continuation c ∷ [];
          same = encode_4 c (leb-false c 0xFFFF l);
          first_high = le-leb 0x80 (0xF0 + c / 64 / 64 / 64) (omega arith);
          more_high = rw (high (c / 64 / 64 % 64), high (c / 64 % 64), high (c % 64));
        }
