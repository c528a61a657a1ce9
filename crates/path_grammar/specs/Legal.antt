-- Meaning: Legal path texts: an automaton reads a path's own part byte by byte, its characters outside ASCII are decoded and tested, and the path
-- in its brackets is asked the same. Grammar.antt defines the same texts by data types; proofs/Theorem.antt proves that the two agree. The bytes:
-- . is 46, / is 47, : is 58, = is 61, [ is 91, ] is 93, _ is 95, { is 123, } is 125.
use Rattle.std.specs.Prelude.{ℕ, zero, suc, ◌≡◌, Bool, true, false, not, cond, ◌&&◌, ◌||◌, [], ◌∷◌, eqb, leb, length}
use Rattle.text.specs.Text.{Text, is_nil, ends_with_byte, drop_last}
use Rattle.text.specs.Range.{in_range}
use Rattle.text.specs.Bytes.{close_brace, close_bracket, colon, digit0, digit9, dot, equals_sign, lower_a, lower_z, open_brace, slash, underscore, upper_a, upper_z}
use Rattle.characters.specs.NameCharacter.{characters_allowed}
use Rattle.path_grammar.specs.Own.{own_part, target_part, has_variant_selection, has_property}

-- The number is that of an ASCII letter or of `_`; in UTF-8 such a byte is the whole character. Requirements: "A name is a letter or `_`, then letters, digits, `_`."
abbrev pub is_ascii_start : ℕ → Bool
is_ascii_start a = in_range upper_a upper_z a || in_range lower_a lower_z a || eqb a underscore

-- The number is that of an ASCII digit.
abbrev pub is_ascii_digit : ℕ → Bool
is_ascii_digit a = in_range digit0 digit9 a

-- The byte may begin a name: an ASCII letter, `_`, or a byte of a character outside ASCII. Requirements: "Names may hold characters outside
-- ASCII, in UTF-8." Which of these characters a name may have is tested separately, by `characters_allowed`.
unfoldable pub is_name_start_byte : ℕ → Bool
is_name_start_byte a = is_ascii_start a || leb 0x80 a

-- The byte may be part of a name.
unfoldable pub is_name_byte : ℕ → Bool
unfolding is_name_start_byte
is_name_byte a = is_name_start_byte a || is_ascii_digit a

-- The byte may be part of a variant. Requirements: "`sel` is one or more letters, digits, `_`." These are letters and digits of ASCII:
-- the characters outside ASCII are for names, and a variant is not a name.
unfoldable pub is_variant_byte : ℕ → Bool
is_variant_byte a = is_ascii_start a || is_ascii_digit a

-- The text begins with a byte of a name.
abbrev pub starts_name : Text → Bool
starts_name [] = false
starts_name (a ∷ r) = is_name_byte a

-- The state of the automaton: what was read last.
pub data ScanState : Type 0 where
  -- A slash, which a name must follow.
  Slash : ScanState
  -- A byte of a prim's name.
  Name : ScanState
  -- The `{` of a variant selection.
  Opened : ScanState
  -- A byte of the variant set's name.
  Set : ScanState
  -- The `=` of a variant selection.
  Equals : ScanState
  -- A byte of the variant.
  Sel : ScanState
  -- The `}` of a variant selection.
  Closed : ScanState
  -- The `.` of a property, or a `:` in it.
  Dot : ScanState
  -- A byte of a property's name.
  Prop : ScanState
  -- A byte that no legal text has at this point; the automaton stays in this state.
  Dead : ScanState

-- The next state after the byte a.
unfoldable pub step : ScanState → ℕ → ScanState
unfolding is_name_start_byte is_name_byte is_variant_byte
step Slash a = cond (is_name_start_byte a) Name Dead
step Name a = cond (is_name_byte a) Name (cond (eqb a slash) Slash (cond (eqb a open_brace) Opened (cond (eqb a dot) Dot Dead)))
step Opened a = cond (is_name_start_byte a) Set Dead
step Set a = cond (is_name_byte a) Set (cond (eqb a equals_sign) Equals Dead)
step Equals a = cond (is_variant_byte a) Sel Dead
step Sel a = cond (is_variant_byte a) Sel (cond (eqb a close_brace) Closed Dead)
step Closed a = cond (is_name_start_byte a) Name (cond (eqb a open_brace) Opened (cond (eqb a dot) Dot Dead))
step Dot a = cond (is_name_start_byte a) Prop Dead
step Prop a = cond (is_name_byte a) Prop (cond (eqb a colon) Dot Dead)
step Dead a = Dead

-- The state after all bytes of a text.
unfoldable pub run : ScanState → Text → ScanState
unfolding step
run s [] = s
run s (a ∷ r) = run (step s a) r

-- The accepting states: a text may end after a name, a selection or a property's name.
unfoldable pub accept : ScanState → Bool
accept Slash = false
accept Name = true
accept Opened = false
accept Set = false
accept Equals = false
accept Sel = false
accept Closed = true
accept Dot = false
accept Prop = true
accept Dead = false

-- The text is `/`.
abbrev pub is_root : Text → Bool
is_root [] = false
is_root (a ∷ r) = eqb a slash && is_nil r

-- The automaton accepts the text: it has the form of a path without brackets. Requirements: "It is empty, or `/`, or `/` and a name followed
-- by elements, then perhaps a property."
unfoldable pub scan_accepts : Text → Bool
unfolding run accept
scan_accepts [] = true
scan_accepts (a ∷ r) = eqb a slash && (is_nil r || accept (run Slash r))

-- The text is a legal path without brackets. Requirements: "A character from U+0080 up may begin or continue a name unless it is a control ..
-- or white space .. Malformed UTF-8 gets 2."
unfoldable pub legal_own : Text → Bool
unfolding scan_accepts characters_allowed
legal_own p = scan_accepts p && characters_allowed p

-- The path is absolute: it begins with a slash.
abbrev pub is_absolute : Text → Bool
is_absolute [] = false
is_absolute (a ∷ r) = eqb a slash

-- The text that follows a `[` is an absolute path that passes the test, then a `]`, which ends the text.
unfoldable pub closes_target : (Text → Bool) → Text → Bool
unfolding ends_with_byte drop_last
closes_target test r = ends_with_byte close_bracket r && (is_absolute (drop_last r) && test (drop_last r))

-- The target part of a path is legal: there is none, or it follows a property. Requirements: "A property may be followed by a legal absolute path
-- in brackets, which ends the text".
unfoldable pub legal_target : (Text → Bool) → Bool → Text → Bool
unfolding closes_target
legal_target test property [] = true
legal_target test property (a ∷ r) = property && closes_target test r

-- The text is a legal path with at most d opening brackets.
unfoldable pub legal_within : ℕ → Text → Bool
unfolding legal_own legal_target own_part target_part has_property
legal_within zero p = legal_own p
legal_within (suc d) p = legal_own (own_part p) && legal_target (λ (t : Text). legal_within d t) (has_property p) (target_part p)

-- The text is a legal path; its length is checked separately, by `at_most255`. Requirements: "a bracketed path may hold another, four deep, so a
-- text has at most four opening brackets".
unfoldable pub legal : Text → Bool
unfolding legal_within
legal p = legal_within 4 p

-- The text has at most 255 bytes. Requirements: "The 255 limit counts bytes."
unfoldable pub at_most255 : Text → Bool
at_most255 p = leb (length p) 255

-- The text may be an end of a pair: a prim path, `/` or empty, that is, a legal text with no selection and no property. Requirements: "A
-- prim path has names only."
unfoldable pub is_end : Text → Bool
unfolding legal has_variant_selection has_property
is_end s = legal s && (not (has_variant_selection s) && not (has_property s))

-- Theorem (proofs/LegalLaws.antt): a legal text, with its brackets, is well-formed UTF-8, and each of its characters outside ASCII is one that a name
-- may have.
abbrev pub LegalIsAllowed : Type 0
LegalIsAllowed = (p : Text) → legal p ≡ true → characters_allowed p ≡ true
