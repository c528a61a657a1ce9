-- Method: The result of parsing the bytes of a frame, and the frame that it denotes.
use Rattle.std.specs.Prelude.{ℕ, ◌+◌, ◌-◌, cond, length, take, drop, Option, Some, None}
use Rattle.text.specs.Text.{Text, is_nil}
use Rattle.frames_spec.specs.Frame.{Frame, frame, Action, add_one_pair, statuses, close, route, count}
use Rattle.frame_decode.specs.declared.FrameHeader.{FrameHeader}
use Rattle.frame_decode.specs.declared.FrameHeader.TheVariants.{AddPair, Statuses, Close, Route, Count}

-- What a frame asks for, with the lengths of the texts instead of the texts.
abbrev pub header_of : Action → FrameHeader
header_of (add_one_pair s t) = AddPair (length s) (length t)
header_of statuses = Statuses
header_of (close relocates) = Close relocates
header_of (route back p) = Route back (length p)
header_of count = Count

-- The parse result for a frame.
abbrev pub decoded_of : Option Frame → Option (ℕ × FrameHeader)
decoded_of None = None
decoded_of (Some (frame k a)) = Some (k, header_of a)

-- The last n bytes of b.
abbrev pub last_bytes : ℕ → Text → Text
last_bytes n b = drop (length b - n) b

-- What the header of a frame with the bytes b denotes. The texts end the frame: a path is its last bytes, a target too, and the source is
-- before the two bytes of the target's length.
unfoldable pub action_in : Text → FrameHeader → Action
action_in b (AddPair n m) = add_one_pair (take n (last_bytes (n + 2 + m) b)) (last_bytes m b)
action_in b Statuses = statuses
action_in b (Close relocates) = close relocates
action_in b (Route back n) = route back (last_bytes n b)
action_in b Count = count

-- The number of bytes at the end of a frame that the texts of its header take.
abbrev pub reach : FrameHeader → ℕ
reach (AddPair n m) = n + 2 + m
reach Statuses = 0
reach (Close relocates) = 0
reach (Route back n) = n
reach Count = 0

-- The frame that a parse result of the bytes b denotes.
abbrev pub frame_in : Text → Option (ℕ × FrameHeader) → Option Frame
frame_in b (Some (k, h)) = Some (frame k (action_in b h))
frame_in b None = None

-- The parse result for a kind that has no bytes after the kind byte.
abbrev pub decoded_alone : ℕ → Text → FrameHeader → Option (ℕ × FrameHeader)
decoded_alone k p h = cond (is_nil p) (Some (k, h)) None
