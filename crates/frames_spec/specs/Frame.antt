-- Meaning: A frame: the bytes that one line encodes in hexadecimal. Requirements: "The first byte is the kind". Question 9: "Is the frame well
-- formed (.. known kind, lengths filling it exactly ..)?" The table `kinds` has a line for each kind; all that depends on the kind of a
-- frame is read off it.
use Rattle.std.specs.Prelude.{ℕ, ◌+◌, ◌*◌, Bool, true, false, cond, List, [], ◌∷◌, eqb, leb, length, take, drop, Option, Some, None}
use Rattle.text.specs.Text.{Text, is_nil}

-- What a frame asks for, with the texts of its payload.
pub data Action : Type 0 where
  -- Add the pair of a source and a target to the open list.
  add_one_pair : Text → Text → Action
  -- Reply with the statuses of the open list.
  statuses : Action
  -- Close the open list, as a relocate leg if the flag is set, otherwise as a map leg.
  close : Bool → Action
  -- Map a path over the legs, home if the flag is set, otherwise out.
  route : Bool → Text → Action
  -- Reply with the count of 05 frames answered 00.
  count : Action

-- A well-formed frame: its first byte, and what it asks for.
pub data Frame : Type 0 where
  frame : ℕ → Action → Frame

-- The first byte of a frame.
abbrev pub kind : Frame → ℕ
kind (frame k a) = k

-- The form of the bytes after the kind byte, with the action that they make.
pub data Form : Type 0 where
  -- No bytes.
  no_payload : Action → Form
  -- "pair, being source length (2 bytes, high first), source, target length, target"
  pair_payload : (Text → Text → Action) → Form
  -- A path, which is all bytes.
  path_payload : (Text → Action) → Form

-- The kinds: the first byte of a frame, with the form of the bytes after it and what they ask for. Requirements: "01: pair ..", "02: statuses
-- of the open list", "03: close it as a map leg", "04: close as a relocate leg", "05: path out", "06: path home", "07: count of 05 frames
-- answered 00".
abbrev pub kinds : List (ℕ × Form)
kinds =
    (1, pair_payload add_one_pair)
    ∷ (2, no_payload statuses)
    ∷ (3, no_payload (close false))
    ∷ (4, no_payload (close true))
    ∷ (5, path_payload (route false))
    ∷ (6, path_payload (route true))
    ∷ (7, no_payload count)
    ∷ []

-- The form of a kind in a table; none if the kind is unknown.
abbrev pub form_of : ℕ → List (ℕ × Form) → Option Form
form_of k [] = None
form_of k (x ∷ xs) = cond (eqb k x.0) (Some x.1) (form_of k xs)

-- A text preceded by its length, and the bytes after it.
pub record Field : Type 0 where
  pub text : Text
  pub rest : Text

-- The field of n bytes at the beginning of r; none if r is shorter.
abbrev pub field : ℕ → Text → Option Field
field n r = cond (leb n (length r)) (Some (record { text = take n r; rest = drop n r })) None

-- The field at the beginning of the bytes, its length in two bytes, high first; none if the bytes are too few.
abbrev pub first_field : Text → Option Field
first_field [] = None
first_field (h ∷ []) = None
first_field (h ∷ l ∷ r) = field (256 * h + l) r

-- What an action makes of a source and of the target field that fills the remaining bytes exactly.
abbrev pub with_target : (Text → Text → Action) → Text → Option Field → Option Action
with_target f s None = None
with_target f s (Some t) = cond (is_nil t.rest) (Some (f s t.text)) None

-- What an action makes of the source field and of the target field that follows it.
abbrev pub with_source : (Text → Text → Action) → Option Field → Option Action
with_source f None = None
with_source f (Some s) = with_target f s.text (first_field s.rest)

-- The action that the bytes after the kind byte make in their form; none if they are not well formed.
abbrev pub decode_payload : Form → Text → Option Action
decode_payload (no_payload a) r = cond (is_nil r) (Some a) None
decode_payload (pair_payload f) r = with_source f (first_field r)
decode_payload (path_payload f) r = Some (f r)

-- The action of the bytes after the kind byte; none if the kind is unknown or they are not well formed.
abbrev pub decode_form : Option Form → Text → Option Action
decode_form None r = None
decode_form (Some f) r = decode_payload f r

-- The frame of a kind and what it asks for.
abbrev pub with_kind : ℕ → Option Action → Option Frame
with_kind k None = None
with_kind k (Some a) = Some (frame k a)

-- The frame that the bytes encode; none if they are not well formed.
unfoldable pub decode_frame : Text → Option Frame
decode_frame [] = None
decode_frame (k ∷ r) = with_kind k (decode_form (form_of k kinds) r)

-- The frames that the theorems about a run name: 05 and 06 with a path, and 07.
abbrev pub out : Text → Frame
out p = frame 5 (route false p)

abbrev pub home : Text → Frame
home p = frame 6 (route true p)

abbrev pub count_frame : Frame
count_frame = frame 7 count
