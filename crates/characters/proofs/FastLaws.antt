-- The theorem that a text which the first scan accepts is allowed.
use Rattle.std.specs.Prelude.{Some}
use mathlib.Core.Path.{◌≡◌, refl, sym, ◌∙◌}
use mathlib.Core.Bool.{Bool, true, false, cond, ◌&&◌, ◌||◌, true≢false, false≢true}
use mathlib.Core.List.{[], ◌∷◌}
use Prim.Native.Nat.{ℕ, suc, ◌+◌, ◌*◌, ◌%◌, ◌≤◌}
use native.Mathlib.Omega.{arith}
use lib.Dec.{eqb, leb, ltb}
use borrow.Author.Tests.{eqb-true, leb-true, le-leb, lt-leb, ltb-true}
use Rattle.text.specs.Text.{Text}
use Rattle.text.specs.Range.{in_range}
use Rattle.text.proofs.BoolLaws.{and_l, and_r, or_right}
use Rattle.text.proofs.RangeLaws.{within_yes, within_below, within_above, within_low, within_high}
use Rattle.characters.specs.Utf8.{is_scalar_value, Reading, Between, Inside, with_bits}
use Rattle.characters.specs.NameCharacter.{is_name_character}
use Rattle.characters.specs.FastScan.{FastState, Start, Unsure, One, Two, Three, AfterC2, AfterE0, AfterE1E3, AfterED, AfterF0, AfterF4, fast_step, fast_run, fast_accept, fast_accepts, FastIsSound}
use Rattle.characters.proofs.ReadingLaws.{allowed_from, next, allowed_after, reads_byte, nothing_read, ascii_between}
use Rattle.characters.proofs.AllowedLaws.{allowed_from_lem}

-- The numbers from low to high are apart from those from x to y.
abbrev apart_from : ℕ → ℕ → ℕ → ℕ → Bool
apart_from low high x y = ltb y low || ltb high x

-- They are apart from all that no name may have.
abbrev apart : ℕ → ℕ → Bool
apart low high =
    leb 0x80 low
    && (leb high 0x10FFFF
    && (apart_from low high 0xD800 0xDFFF
    && (apart_from low high 0x80 0x9F
    && (apart_from low high 0xA0 0xA0
    && (apart_from low high 0x1680 0x1680
    && (apart_from low high 0x2000 0x200A
    && (apart_from low high 0x2028 0x2029
    && (apart_from low high 0x202F 0x202F
    && (apart_from low high 0x205F 0x205F
    && apart_from low high 0x3000 0x3000)))))))))

module _ (low high c : ℕ) (h : low ≤ c) (k : c ≤ high) where
  outside : (x y : ℕ) → apart_from low high x y ≡ true → in_range x y c ≡ false
  outside x y e = go (ltb y low) (ltb high x) refl refl e
    where
      go : (a b : Bool) → ltb y low ≡ a → ltb high x ≡ b → (a || b) ≡ true → in_range x y c ≡ false
      go true b f g t = within_above x y c (omega (arith, ltb-true y low f))
      go false true f g t = within_below x y c (omega (arith, ltb-true high x g))
      go false false f g t = absurd (false≢true t)

  -- A number in a range that the others are apart from.
  unlike : (x y n : ℕ) → x ≤ n → n ≤ y → apart_from low high x y ≡ true → eqb c n ≡ false
  unlike x y n l m e = go (eqb c n) refl
    where
      go : (b : Bool) → eqb c n ≡ b → b ≡ false
      go true f = let z : c ≡ n = eqb-true c n f in absurd (true≢false (sym (within_yes x y n l m) ∙ rw (← z) (outside x y e)))
      go false f = refl

  name_between : apart low high ≡ true → is_name_character c ≡ true
  unfolding is_name_character is_scalar_value
  name_between e0 =
      let e1 = and_r (leb 0x80 low) _ e0 in
      let e2 = and_r (leb high 0x10FFFF) _ e1 in
      let e3 = and_r (apart_from low high 0xD800 0xDFFF) _ e2 in
      let e4 = and_r (apart_from low high 0x80 0x9F) _ e3 in
      let e5 = and_r (apart_from low high 0xA0 0xA0) _ e4 in
      let e6 = and_r (apart_from low high 0x1680 0x1680) _ e5 in
      let e7 = and_r (apart_from low high 0x2000 0x200A) _ e6 in
      let e8 = and_r (apart_from low high 0x2028 0x2029) _ e7 in
      let e9 = and_r (apart_from low high 0x202F 0x202F) _ e8 in
      let lines = and_l (apart_from low high 0x2028 0x2029) _ e7 in
      rw (
        le-leb c 0x10FFFF (omega (arith, leb-true high 0x10FFFF (and_l (leb high 0x10FFFF) _ e1))),
        outside 0xD800 0xDFFF (and_l (apart_from low high 0xD800 0xDFFF) _ e2),
        outside 0x80 0x9F (and_l (apart_from low high 0x80 0x9F) _ e3),
        le-leb 0x80 c (omega (arith, leb-true 0x80 low (and_l (leb 0x80 low) _ e0))),
        unlike 0xA0 0xA0 0xA0 (omega arith) (omega arith) (and_l (apart_from low high 0xA0 0xA0) _ e4),
        unlike 0x1680 0x1680 0x1680 (omega arith) (omega arith) (and_l (apart_from low high 0x1680 0x1680) _ e5),
        outside 0x2000 0x200A (and_l (apart_from low high 0x2000 0x200A) _ e6),
        unlike 0x2028 0x2029 0x2028 (omega arith) (omega arith) lines,
        unlike 0x2028 0x2029 0x2029 (omega arith) (omega arith) lines,
        unlike 0x202F 0x202F 0x202F (omega arith) (omega arith) (and_l (apart_from low high 0x202F 0x202F) _ e8),
        unlike 0x205F 0x205F 0x205F (omega arith) (omega arith) (and_l (apart_from low high 0x205F 0x205F) _ e9),
        unlike 0x3000 0x3000 0x3000 (omega arith) (omega arith) (and_r (apart_from low high 0x205F 0x205F) _ e9),
      )

-- The four ranges of characters that a name may have and that the automaton knows.
module _ (c : ℕ) where
  fine_1 : 0xA1 ≤ c → c ≤ 0x167F → is_name_character c ≡ true
  fine_1 h k = name_between 0xA1 0x167F c h k refl

  fine_2 : 0x1681 ≤ c → c ≤ 0x1FFF → is_name_character c ≡ true
  fine_2 h k = name_between 0x1681 0x1FFF c h k refl

  fine_3 : 0x3001 ≤ c → c ≤ 0xD7FF → is_name_character c ≡ true
  fine_3 h k = name_between 0x3001 0xD7FF c h k refl

  fine_4 : 0xE000 ≤ c → c ≤ 0x10FFFF → is_name_character c ≡ true
  fine_4 h k = name_between 0xE000 0x10FFFF c h k refl

-- Every number from low to high is no less than `least`, and a character that a name may have.
abbrev Fine : ℕ → ℕ → ℕ → Type 0
Fine least low high = (c : ℕ) → low ≤ c → c ≤ high → (least ≤ c) × (is_name_character c ≡ true)

-- What the states say of the reader: which characters the next bytes can make.
data Sound : FastState → Reading → Type 0 where
  start : Sound Start Between
  one : (least bits : ℕ) → Fine least (bits * 64) (bits * 64 + 63) → Sound One (Inside 0 least bits)
  two : (least bits : ℕ) → Fine least (bits * 4096) (bits * 4096 + 4095) → Sound Two (Inside 1 least bits)
  three : (least bits : ℕ) → Fine least (bits * 262144) (bits * 262144 + 262143) → Sound Three (Inside 2 least bits)
  c2 : Sound AfterC2 (Inside 0 0x80 2)
  e0 : Sound AfterE0 (Inside 1 0x800 0)
  e1 : Sound AfterE1E3 (Inside 1 0x800 1)
  e3 : Sound AfterE1E3 (Inside 1 0x800 3)
  ed : Sound AfterED (Inside 1 0x800 13)
  f0 : Sound AfterF0 (Inside 2 0x10000 0)
  f4 : Sound AfterF4 (Inside 2 0x10000 4)

-- The next state says it of the next reader, unless it is unsure.
data Follows (u : Reading) (a : ℕ) : FastState → Type 0 where
  unsure : Follows u a Unsure
  goes : {s : FastState} (v : Reading) → next u a ≡ Some v → Sound s v → Follows u a s

choose : (u : Reading) (a : ℕ) (b : Bool) (x y : FastState) → (b ≡ true → Follows u a x) → Follows u a y → Follows u a (cond b x y)
choose u a true x y f g = f refl
choose u a false x y f g = g

-- The first byte of a character.
module _ (a : ℕ) where
  next_2 : 0xC0 ≤ a → a ≤ 0xDF → next Between a ≡ Some (Inside 0 0x80 (a % 32))
  unfolding next
  next_2 h k = rw (lt-leb a 0x7F (omega arith), within_yes 0xC0 0xDF a h k)

  next_3 : 0xE0 ≤ a → a ≤ 0xEF → next Between a ≡ Some (Inside 1 0x800 (a % 16))
  unfolding next
  next_3 h k = rw (lt-leb a 0x7F (omega arith), within_above 0xC0 0xDF a (omega arith), within_yes 0xE0 0xEF a h k)

  next_4 : 0xF0 ≤ a → a ≤ 0xF7 → next Between a ≡ Some (Inside 2 0x10000 (a % 8))
  unfolding next
  next_4 h k =
      rw (lt-leb a 0x7F (omega arith), within_above 0xC0 0xDF a (omega arith), within_above 0xE0 0xEF a (omega arith), within_yes 0xF0 0xF7 a h k)

scalar : (c : ℕ) → is_name_character c ≡ true → is_scalar_value c ≡ true
unfolding is_name_character
scalar c n = and_l (is_scalar_value c) _ n

-- The bytes that follow it.
module _ (least bits a : ℕ) (h : 0x80 ≤ a) (k : a ≤ 0xBF) where
  next_on : (more : ℕ) → next (Inside (suc more) least bits) a ≡ Some (Inside more least (with_bits bits a))
  unfolding next
  next_on more = rw (within_yes 0x80 0xBF a h k)

  next_last : least ≤ with_bits bits a → is_name_character (with_bits bits a) ≡ true → next (Inside 0 least bits) a ≡ Some Between
  unfolding next
  next_last l n =
      rw (
        within_yes 0x80 0xBF a h k,
        or_right (leb (with_bits bits a) 0x7F) (is_name_character (with_bits bits a)) n,
        le-leb least (with_bits bits a) l,
        scalar (with_bits bits a) n,
      )

module _ (a : ℕ) where
  first_byte : Follows Between a (fast_step Start a)
  unfolding fast_step next
  first_byte =
      choose Between a (leb a 0x7E) Start _ (λ h. goes Between (ascii_between a (le-leb a 0x7F (omega (arith, leb-true a 0x7E h)))) start)
      (choose Between a (eqb a 0xC2) AfterC2 _ (λ h. rw (eqb-true a 0xC2 h) (goes (Inside 0 0x80 2) refl c2))
      (choose Between a (in_range 0xC3 0xDF a) One _ (λ h. latin (within_low 0xC3 0xDF a h) (within_high 0xC3 0xDF a h))
      (choose Between a (eqb a 0xE0) AfterE0 _ (λ h. rw (eqb-true a 0xE0 h) (goes (Inside 1 0x800 0) refl e0))
      (choose Between a (eqb a 0xE1) AfterE1E3 _ (λ h. rw (eqb-true a 0xE1 h) (goes (Inside 1 0x800 1) refl e1))
      (choose Between a (eqb a 0xE3) AfterE1E3 _ (λ h. rw (eqb-true a 0xE3 h) (goes (Inside 1 0x800 3) refl e3))
      (choose Between a (in_range 0xE4 0xEC a) Two _ (λ h. middle (within_low 0xE4 0xEC a h) (within_high 0xE4 0xEC a h))
      (choose Between a (eqb a 0xED) AfterED _ (λ h. rw (eqb-true a 0xED h) (goes (Inside 1 0x800 13) refl ed))
      (choose Between a (in_range 0xEE 0xEF a) Two _ (λ h. private_use (within_low 0xEE 0xEF a h) (within_high 0xEE 0xEF a h))
      (choose Between a (eqb a 0xF0) AfterF0 _ (λ h. rw (eqb-true a 0xF0 h) (goes (Inside 2 0x10000 0) refl f0))
      (choose Between a (in_range 0xF1 0xF3 a) Three _ (λ h. planes (within_low 0xF1 0xF3 a h) (within_high 0xF1 0xF3 a h))
      (choose Between a (eqb a 0xF4) AfterF4 Unsure (λ h. rw (eqb-true a 0xF4 h) (goes (Inside 2 0x10000 4) refl f4)) unsure)))))))))))
    where
      latin : 0xC3 ≤ a → a ≤ 0xDF → Follows Between a One
      latin h k =
          goes (Inside 0 0x80 (a % 32)) (next_2 a (omega arith) k)
          (one 0x80 (a % 32) (λ c l m. (omega arith, fine_1 c (omega arith) (omega arith))))

      middle : 0xE4 ≤ a → a ≤ 0xEC → Follows Between a Two
      middle h k =
          goes (Inside 1 0x800 (a % 16)) (next_3 a (omega arith) (omega arith))
          (two 0x800 (a % 16) (λ c l m. (omega arith, fine_3 c (omega arith) (omega arith))))

      private_use : 0xEE ≤ a → a ≤ 0xEF → Follows Between a Two
      private_use h k =
          goes (Inside 1 0x800 (a % 16)) (next_3 a (omega arith) k)
          (two 0x800 (a % 16) (λ c l m. (omega arith, fine_4 c (omega arith) (omega arith))))

      planes : 0xF1 ≤ a → a ≤ 0xF3 → Follows Between a Three
      planes h k =
          goes (Inside 2 0x10000 (a % 8)) (next_4 a (omega arith) (omega arith))
          (three 0x10000 (a % 8) (λ c l m. (omega arith, fine_4 c (omega arith) (omega arith))))

-- Every other byte.
follows : {s : FastState} {u : Reading} → Sound s u → (a : ℕ) → Follows u a (fast_step s a)
unfolding fast_step
follows start a = first_byte a
follows (one least bits f) a =
    choose (Inside 0 least bits) a (in_range 0x80 0xBF a) Start Unsure
    (λ h.
    let w = f (with_bits bits a) (omega arith) (omega arith) in
    goes Between (next_last least bits a (within_low 0x80 0xBF a h) (within_high 0x80 0xBF a h) w.0 w.1) start)
    unsure
follows (two least bits f) a =
    choose (Inside 1 least bits) a (in_range 0x80 0xBF a) One Unsure
    (λ h.
    goes (Inside 0 least (with_bits bits a)) (next_on least bits a (within_low 0x80 0xBF a h) (within_high 0x80 0xBF a h) 0)
    (one least (with_bits bits a) (λ c l m. f c (omega arith) (omega arith))))
    unsure
follows (three least bits f) a =
    choose (Inside 2 least bits) a (in_range 0x80 0xBF a) Two Unsure
    (λ h.
    goes (Inside 1 least (with_bits bits a)) (next_on least bits a (within_low 0x80 0xBF a h) (within_high 0x80 0xBF a h) 1)
    (two least (with_bits bits a) (λ c l m. f c (omega arith) (omega arith))))
    unsure
follows c2 a =
    choose (Inside 0 0x80 2) a (in_range 0xA1 0xBF a) Start Unsure
    (λ h.
    let l : 0xA1 ≤ a = within_low 0xA1 0xBF a h in
    let m : a ≤ 0xBF = within_high 0xA1 0xBF a h in
    goes Between (next_last 0x80 2 a (omega arith) m (omega arith) (fine_1 (with_bits 2 a) (omega arith) (omega arith))) start)
    unsure
follows e0 a =
    choose (Inside 1 0x800 0) a (in_range 0xA0 0xBF a) One Unsure
    (λ h.
    let l : 0xA0 ≤ a = within_low 0xA0 0xBF a h in
    let m : a ≤ 0xBF = within_high 0xA0 0xBF a h in
    goes (Inside 0 0x800 (with_bits 0 a)) (next_on 0x800 0 a (omega arith) m 0)
    (one 0x800 (with_bits 0 a) (λ c i j. (omega arith, fine_1 c (omega arith) (omega arith)))))
    unsure
follows e1 a =
    choose (Inside 1 0x800 1) a (in_range 0x81 0x99 a) One _
    (λ h.
    let l : 0x81 ≤ a = within_low 0x81 0x99 a h in
    let m : a ≤ 0x99 = within_high 0x81 0x99 a h in
    goes (Inside 0 0x800 (with_bits 1 a)) (next_on 0x800 1 a (omega arith) (omega arith) 0)
    (one 0x800 (with_bits 1 a) (λ c i j. (omega arith, fine_1 c (omega arith) (omega arith)))))
    (choose (Inside 1 0x800 1) a (in_range 0x9B 0xBF a) One Unsure
    (λ h.
    let l : 0x9B ≤ a = within_low 0x9B 0xBF a h in
    let m : a ≤ 0xBF = within_high 0x9B 0xBF a h in
    goes (Inside 0 0x800 (with_bits 1 a)) (next_on 0x800 1 a (omega arith) m 0)
    (one 0x800 (with_bits 1 a) (λ c i j. (omega arith, fine_2 c (omega arith) (omega arith)))))
    unsure)
follows e3 a =
    choose (Inside 1 0x800 3) a (in_range 0x81 0x99 a) One _
    (λ h.
    let l : 0x81 ≤ a = within_low 0x81 0x99 a h in
    let m : a ≤ 0x99 = within_high 0x81 0x99 a h in
    goes (Inside 0 0x800 (with_bits 3 a)) (next_on 0x800 3 a (omega arith) (omega arith) 0)
    (one 0x800 (with_bits 3 a) (λ c i j. (omega arith, fine_3 c (omega arith) (omega arith)))))
    (choose (Inside 1 0x800 3) a (in_range 0x9B 0xBF a) One Unsure
    (λ h.
    let l : 0x9B ≤ a = within_low 0x9B 0xBF a h in
    let m : a ≤ 0xBF = within_high 0x9B 0xBF a h in
    goes (Inside 0 0x800 (with_bits 3 a)) (next_on 0x800 3 a (omega arith) m 0)
    (one 0x800 (with_bits 3 a) (λ c i j. (omega arith, fine_3 c (omega arith) (omega arith)))))
    unsure)
follows ed a =
    choose (Inside 1 0x800 13) a (in_range 0x80 0x9F a) One Unsure
    (λ h.
    let l : 0x80 ≤ a = within_low 0x80 0x9F a h in
    let m : a ≤ 0x9F = within_high 0x80 0x9F a h in
    goes (Inside 0 0x800 (with_bits 13 a)) (next_on 0x800 13 a l (omega arith) 0)
    (one 0x800 (with_bits 13 a) (λ c i j. (omega arith, fine_3 c (omega arith) (omega arith)))))
    unsure
follows f0 a =
    choose (Inside 2 0x10000 0) a (in_range 0x90 0xBF a) Two Unsure
    (λ h.
    let l : 0x90 ≤ a = within_low 0x90 0xBF a h in
    let m : a ≤ 0xBF = within_high 0x90 0xBF a h in
    goes (Inside 1 0x10000 (with_bits 0 a)) (next_on 0x10000 0 a (omega arith) m 1)
    (two 0x10000 (with_bits 0 a) (λ c i j. (omega arith, fine_4 c (omega arith) (omega arith)))))
    unsure
follows f4 a =
    choose (Inside 2 0x10000 4) a (in_range 0x80 0x8F a) Two Unsure
    (λ h.
    let l : 0x80 ≤ a = within_low 0x80 0x8F a h in
    let m : a ≤ 0x8F = within_high 0x80 0x8F a h in
    goes (Inside 1 0x10000 (with_bits 4 a)) (next_on 0x10000 4 a l (omega arith) 1)
    (two 0x10000 (with_bits 4 a) (λ c i j. (omega arith, fine_4 c (omega arith) (omega arith)))))
    unsure

stays_unsure : (r : Text) → fast_run Unsure r ≡ Unsure
unfolding fast_run fast_step
stays_unsure [] = refl
stays_unsure (a ∷ r) = stays_unsure r

accepted : {s : FastState} {u : Reading} → Sound s u → fast_accept s ≡ true → allowed_from u [] ≡ true
accepted start e = nothing_read
accepted (one least bits f) e = absurd (false≢true e)
accepted (two least bits f) e = absurd (false≢true e)
accepted (three least bits f) e = absurd (false≢true e)
accepted c2 e = absurd (false≢true e)
accepted e0 e = absurd (false≢true e)
accepted e1 e = absurd (false≢true e)
accepted e3 e = absurd (false≢true e)
accepted ed e = absurd (false≢true e)
accepted f0 e = absurd (false≢true e)
accepted f4 e = absurd (false≢true e)

sound_run : {s : FastState} {u : Reading} → Sound s u → (r : Text) → fast_accept (fast_run s r) ≡ true → allowed_from u r ≡ true
unfolding fast_run
sound_run w [] e = accepted w e
sound_run {s} {u} w (a ∷ r) e = reads_byte u a r ∙ go (fast_step s a) (follows w a) e (λ t v x. sound_run x r)
  where
    go : (t : FastState) → Follows u a t → fast_accept (fast_run t r) ≡ true
        → ((t : FastState) (v : Reading) → Sound t v → fast_accept (fast_run t r) ≡ true → allowed_from v r ≡ true) → allowed_after (next u a) r ≡ true
    go Unsure unsure f ih = absurd (false≢true (rw (stays_unsure r) at f))
    go t (goes v n x) f ih = rw n (ih t v x f)

pub fast_is_sound : FastIsSound
unfolding fast_accepts
fast_is_sound p e = allowed_from_lem p ∙ sound_run start p e
