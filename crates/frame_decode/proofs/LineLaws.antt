-- Lemmas about decoding the digits of a line: its branches, and the frame that the decoded bytes encode.
use Rattle.std.specs.Prelude.{Result, Ok, Err, Option, Some, None}
use Rattle.std.specs.Result.{result_unwrap_or}
use mathlib.Core.Path.{◌≡◌, refl, ap, ◌∙◌}
use mathlib.Core.Bool.{Bool, true, false, cond}
use Prim.Native.Nat.{ℕ, ◌≤◌, ◌<◌}
use native.Mathlib.Omega.{arith}
use lib.Dec.{leb}
use lib.ListN.{length, take, drop, length-append}
use lib.Seq.{length-take-le}
use borrow.Author.Tests.{le-leb, lt-leb, leb-true, leb-false}
use Rattle.text.specs.Text.{Text, written}
use Rattle.text.proofs.WriteLaws.{placed_first, read_back}
use Rattle.line_reader.specs.Lines.{text, overlong, line_capacity, line_in_buffer}
use Rattle.hex_digits.specs.Hex.{decode_hex}
use Rattle.hex_digits.specs.Calls.{decode_reply, decode_buffer}
use Rattle.hex_digits.proofs.DecodeLaws.{decoded_length}
use Rattle.frames_spec.specs.Frame.{decode_frame}
use Rattle.frames_spec.specs.Input.{frame_of_bytes, parse_line}
use Rattle.frame_decode.specs.LineBytes.{line_bytes, decoded_count}
use Rattle.hex_digits.specs.declared.DecodeError.{DecodeError}
use Rattle.hex_digits.specs.declared.DecodeError.TheVariants.{BufferTooShort}

-- The capacity of a line buffer is its length, but at most 4,096.
capacity_most : (n : ℕ) → (line_capacity n ≤ 4096) × (line_capacity n ≤ n)
unfolding line_capacity
capacity_most n = go (leb n 4096) refl
  where
    go : (b : Bool) → leb n 4096 ≡ b → (cond b n 4096 ≤ 4096) × (cond b n 4096 ≤ n)
    go true e = (leb-true n 4096 e, omega arith)
    go false e = (omega arith, omega (arith, leb-false n 4096 e))

capacity_least : (n len : ℕ) → len ≤ 4096 → len ≤ n → len ≤ line_capacity n
unfolding line_capacity
capacity_least n len h i = go (leb n 4096)
  where
    go : (b : Bool) → len ≤ cond b n 4096
    go true = i
    go false = h

counts : (o : Option Text) (room : ℕ) → result_unwrap_or (decode_reply o room) 0 ≡ decoded_count o room
counts None room = refl
counts (Some t) room = go (leb (length t) room)
  where
    go : (b : Bool) → result_unwrap_or (cond b (Ok (length t)) (Err BufferTooShort)) 0 ≡ cond b (length t) 0
    go true = refl
    go false = refl

-- `decode_line`
module _ (line : Text) (len : ℕ) where
  -- The function returned the number r and left these bytes in the buffer.
  abbrev pub Decodes : ℕ → Text → Text → Type 0
  Decodes r before bytes =
      (r ≡ decoded_count (line_bytes (line_in_buffer len line)) (length before)) × (bytes ≡ decode_buffer (line_bytes (line_in_buffer len line)) before)

  silent : (before : Text) → line_capacity (length line) < len → Decodes 0 before before
  unfolding line_bytes line_in_buffer
  silent before h = rw (lt-leb len (line_capacity (length line)) h) (refl, refl)

  pub line_long : (before : Text) → 4096 < len → Decodes 0 before before
  line_long before h = silent before (omega (arith, (capacity_most (length line)).0))

  pub line_beyond : (before : Text) → length line < len → Decodes 0 before before
  line_beyond before h = silent before (omega (arith, (capacity_most (length line)).1))

  module _ (h : len ≤ 4096) (i : len ≤ length line) (d : Result ℕ DecodeError) (before bytes : Text)
      (e : d ≡ decode_reply (decode_hex (take len line)) (length before)) (f : bytes ≡ decode_buffer (decode_hex (take len line)) before) where
    in_line : line_bytes (line_in_buffer len line) ≡ decode_hex (take len line)
    unfolding line_bytes line_in_buffer
    in_line = rw (le-leb len (line_capacity (length line)) (capacity_least (length line) len h i)) refl

    pub line_decoded : Decodes (result_unwrap_or d 0) before bytes
    line_decoded = rw in_line (ap (λ (r : Result ℕ DecodeError). result_unwrap_or r 0) e ∙ counts (decode_hex (take len line)) (length before), f)

-- In a buffer of 2,048 bytes, the decoded bytes encode the frame of the line.
module _ (line : Text) (len r : ℕ) (before bytes : Text) (room : length before ≡ 2048) (w : Decodes line len r before bytes) where
  fits : (o : Option Text) → line_bytes (line_in_buffer len line) ≡ o → (t : Text) → o ≡ Some t → length t ≤ 2048
  unfolding line_bytes line_in_buffer
  fits o e t f = go (leb len (line_capacity (length line))) refl (e ∙ f)
    where
      go : (b : Bool) → leb len (line_capacity (length line)) ≡ b → line_bytes (cond b (text (take len line)) overlong) ≡ Some t → length t ≤ 2048
      go true i k =
          let c = capacity_most (length line) in
          let s : len ≤ line_capacity (length line) = leb-true len (line_capacity (length line)) i in
          omega (arith, decoded_length (take len line) t k, length-take-le len line (omega (arith, s, c.1)), s, c.0)
      go false i k = absurd (let z : ◌≡◌ {A = ℕ} 0 1 = cc in omega arith)

  parsed : (o : Option Text) → line_bytes (line_in_buffer len line) ≡ o → r ≡ decoded_count o (length before) → bytes ≡ decode_buffer o before
      → (r ≤ length bytes) × (decode_frame (take r bytes) ≡ frame_of_bytes o)
  unfolding decode_frame
  parsed None e f g = rw f (omega arith, refl)
  parsed (Some t) e f g =
      let l : length t ≤ 2048 = fits (Some t) e t refl in
      let k : r ≡ length t = f ∙ rw (room, le-leb (length t) 2048 l) refl in
      let v : bytes ≡ written t before = g ∙ placed_first t before (rw room l) in (
        omega (arith, k, ap length v, length-append t (drop (length t) before)),
        ap decode_frame (ap (λ (j : ℕ). take j bytes) k ∙ ap (take (length t)) v ∙ read_back t before),
      )

  pub line_within : r ≤ length bytes
  line_within = (parsed (line_bytes (line_in_buffer len line)) refl w.0 w.1).0

  pub line_parsed : decode_frame (take r bytes) ≡ parse_line (line_in_buffer len line)
  unfolding parse_line line_bytes
  line_parsed = (parsed (line_bytes (line_in_buffer len line)) refl w.0 w.1).1 ∙ same (line_in_buffer len line)
    where
      same : (l : _) → frame_of_bytes (line_bytes l) ≡ parse_line l
      same (text t) = refl
      same overlong = refl
