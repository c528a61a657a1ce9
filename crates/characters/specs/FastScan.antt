-- Method: A first scan of the characters of a text: a table-driven automaton that does not decode. It accepts most allowed texts and no other text;
-- what it does not accept is decoded. It is unsure of the characters that begin with the byte 0xE2 and of a few others, among which the white
-- space of three bytes is. It is unsure of the byte 0x7F, which no path contains, so that the last byte of the table is not the default.
use Rattle.std.specs.Prelude.{ℕ, ◌+◌, ◌*◌, ◌^◌, ◌≡◌, Bool, true, false, cond, [], ◌∷◌, eqb, leb}
use Rattle.text.specs.Text.{Text}
use Rattle.text.specs.Range.{in_range}
use Rattle.characters.specs.NameCharacter.{characters_allowed}

-- The state of the automaton.
pub data FastState : Type 0 where
  -- Between two characters.
  Start : FastState
  -- The text may not be allowed; the automaton stays in this state.
  Unsure : FastState
  -- In a character: one, two or three bytes follow, and with any that continue it the character is allowed.
  One : FastState
  Two : FastState
  Three : FastState
  -- After a first byte whose next byte decides: 0xC2, 0xE0, 0xE1 or 0xE3, 0xED, 0xF0, 0xF4.
  AfterC2 : FastState
  AfterE0 : FastState
  AfterE1E3 : FastState
  AfterED : FastState
  AfterF0 : FastState
  AfterF4 : FastState

-- The next state after the byte a.
unfoldable pub fast_step : FastState → ℕ → FastState
fast_step Start a =
    cond (leb a 0x7E) Start
    (cond (eqb a 0xC2) AfterC2
    (cond (in_range 0xC3 0xDF a) One
    (cond (eqb a 0xE0) AfterE0
    (cond (eqb a 0xE1) AfterE1E3
    (cond (eqb a 0xE3) AfterE1E3
    (cond (in_range 0xE4 0xEC a) Two
    (cond (eqb a 0xED) AfterED
    (cond (in_range 0xEE 0xEF a) Two
    (cond (eqb a 0xF0) AfterF0
    (cond (in_range 0xF1 0xF3 a) Three
    (cond (eqb a 0xF4) AfterF4 Unsure)))))))))))
fast_step Unsure a = Unsure
fast_step One a = cond (in_range 0x80 0xBF a) Start Unsure
fast_step Two a = cond (in_range 0x80 0xBF a) One Unsure
fast_step Three a = cond (in_range 0x80 0xBF a) Two Unsure
fast_step AfterC2 a = cond (in_range 0xA1 0xBF a) Start Unsure
fast_step AfterE0 a = cond (in_range 0xA0 0xBF a) One Unsure
fast_step AfterE1E3 a = cond (in_range 0x81 0x99 a) One (cond (in_range 0x9B 0xBF a) One Unsure)
fast_step AfterED a = cond (in_range 0x80 0x9F a) One Unsure
fast_step AfterF0 a = cond (in_range 0x90 0xBF a) Two Unsure
fast_step AfterF4 a = cond (in_range 0x80 0x8F a) Two Unsure

-- The state after all bytes of a text.
unfoldable pub fast_run : FastState → Text → FastState
unfolding fast_step
fast_run s [] = s
fast_run s (a ∷ r) = fast_run (fast_step s a) r

-- A text may end between two characters.
abbrev pub fast_accept : FastState → Bool
fast_accept Start = true
fast_accept Unsure = false
fast_accept One = false
fast_accept Two = false
fast_accept Three = false
fast_accept AfterC2 = false
fast_accept AfterE0 = false
fast_accept AfterE1E3 = false
fast_accept AfterED = false
fast_accept AfterF0 = false
fast_accept AfterF4 = false

-- The automaton accepts the text.
unfoldable pub fast_accepts : Text → Bool
unfolding fast_run
fast_accepts p = fast_accept (fast_run Start p)

-- Theorem (proofs/FastLaws.antt): a text that the automaton accepts is allowed.
abbrev pub FastIsSound : Type 0
FastIsSound = (p : Text) → fast_accepts p ≡ true → characters_allowed p ≡ true

-- The bit offset of a state in the packed number of a byte, which holds the next state of every state (as in the scan of paths). Six bits hold a
-- state; the last offset has four bits left, which are enough for the two states that follow there.
unfoldable pub fast_code : FastState → ℕ
fast_code Start = 0
fast_code Unsure = 6
fast_code Two = 12
fast_code Three = 18
fast_code AfterE0 = 24
fast_code AfterED = 30
fast_code AfterF0 = 36
fast_code AfterF4 = 42
fast_code AfterC2 = 48
fast_code AfterE1E3 = 54
fast_code One = 60

-- The part of the packed number for state s and byte a.
unfoldable pub packed_fast_step : FastState → ℕ → ℕ
unfolding fast_code fast_step
packed_fast_step s a = fast_code (fast_step s a) * 2 ^ fast_code s

-- The packed number of byte a.
unfoldable pub packed_fast_steps : ℕ → ℕ
unfolding packed_fast_step
packed_fast_steps a =
    packed_fast_step Start a
    + packed_fast_step Unsure a
    + packed_fast_step Two a
    + packed_fast_step Three a
    + packed_fast_step AfterE0 a
    + packed_fast_step AfterED a
    + packed_fast_step AfterF0 a
    + packed_fast_step AfterF4 a
    + packed_fast_step AfterC2 a
    + packed_fast_step AfterE1E3 a
    + packed_fast_step One a
