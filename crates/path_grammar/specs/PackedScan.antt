-- Method: The transition table of the automaton: one number for each byte, with six bits for each state that hold the next state. The scan loads
-- the number of a byte and shifts it right by the current state.
use Rattle.std.specs.Prelude.{ℕ, ◌+◌, ◌*◌, ◌^◌, ◌≡◌, cond, ◌&&◌, ◌||◌, map, eqb}
use Rattle.text.specs.Text.{Text}
use Rattle.text.specs.Bytes.{dot, open_brace}
use Rattle.characters.specs.NameCharacter.{characters_allowed, is_ascii}
use Rattle.path_grammar.specs.Legal.{ScanState, Name, Closed, Prop, Slash, Opened, Set, Equals, Sel, Dot, Dead, step, scan_accepts, is_end}

-- The bit offset of a state in the packed number: six times its index. The accepting states are those below 18.
unfoldable pub state_code : ScanState → ℕ
state_code Name = 0
state_code Closed = 6
state_code Prop = 12
state_code Slash = 18
state_code Opened = 24
state_code Set = 30
state_code Equals = 36
state_code Sel = 42
state_code Dot = 48
state_code Dead = 54

-- The part of the packed number for state s and byte a: the next state, shifted to the bit offset of s.
unfoldable pub packed_step : ScanState → ℕ → ℕ
unfolding state_code step
packed_step s a = state_code (step s a) * 2 ^ state_code s

-- The packed number of byte a: the next state of every state.
unfoldable pub packed_steps : ℕ → ℕ
unfolding packed_step
packed_steps a =
    packed_step Name a
    + packed_step Closed a
    + packed_step Prop a
    + packed_step Slash a
    + packed_step Opened a
    + packed_step Set a
    + packed_step Equals a
    + packed_step Sel a
    + packed_step Dot a
    + packed_step Dead a

-- The byte as the scan for ends reads it: `.` and `{`, which no end contains, are replaced by a byte that no path contains.
abbrev pub end_byte : ℕ → ℕ
end_byte a = cond (eqb a dot || eqb a open_brace) 0 a

-- What the scan tells of the text p, which it reads as q: 0 if it refuses it, 1 if it accepts it and every byte is one of ASCII, and otherwise 2.
unfoldable pub scan_code : Text → Text → ℕ
scan_code q p = cond (scan_accepts q) (cond (is_ascii p) 1 2) 0

-- Theorem (proofs/EndLaws.antt): a text is an end exactly if the automaton accepts it after this replacement and its characters are allowed.
abbrev pub EndsByScan : Type 0
EndsByScan = (s : Text) → is_end s ≡ (scan_accepts (map end_byte s) && characters_allowed s)
