-- Meaning: The reply of a call that builds a map or chains a path, encoded as one number for the C interface: the low byte is the refusal number (0
-- if accepted), the remainder is 256 times the value.
use Rattle.std.specs.Prelude.{◌≡◌, ℕ, ◌+◌, ◌*◌, ◌%◌, ◌^◌, Bool, cond, List, leb, Float, Result, Ok, Err}
use Rattle.text.specs.Text.{Text}
use Rattle.layer_offset.specs.declared.LayerOffset.{LayerOffset}
use Rattle.layer_offset.specs.Offset.{layer_offset}
use Rattle.refusal.specs.declared.Refusal.TheVariants.{TooMany}
use Rattle.refusal.specs.Refusal.{refusal_number}
use Rattle.map_function.specs.declared.MapFunction.{MapFunction}
use Rattle.map_function.specs.MapOutcome.{MapOutcome, map_reply, map_bytes, map_slots}
use Rattle.map_function.specs.MapFunction.{with_time_offset}
use Rattle.ffi_values.specs.Time.{offset_numbers}
use Rattle.refusal.specs.declared.Refusal.{Refusal}

-- A map's header from plain numbers: the number of pairs, the mark, and offset and scale of the time offset.
abbrev pub map_from_numbers : ℕ → Bool → Float → Float → MapFunction
map_from_numbers count mark offset scale = record { count = count; has_root_identity = mark; time_offset = layer_offset offset scale }

-- The encoded value of a map: twice the number of pairs, plus one if it has the mark. A map has at most 64 pairs, so the remainder changes
-- nothing; it rules out overflow.
unfoldable pub map_value : ℕ → Bool → ℕ
map_value count mark = cond mark (512 * (count % 2 ^ 55) + 256) (512 * (count % 2 ^ 55))

-- The encoded reply of a call that builds a map.
unfoldable pub map_code : Result MapFunction Refusal → ℕ
unfolding map_value
map_code (Ok f) = map_value f.count f.has_root_identity
map_code (Err x) = refusal_number x

-- The two lent floats after the call: the map's time offset. Requirements: "A refused call writes nothing."
unfoldable pub map_time : Result MapFunction Refusal → List Float → List Float
unfolding offset_numbers
map_time (Ok f) time = offset_numbers f.time_offset
map_time (Err x) time = time

-- The call returned the given outcome in encoded form: the reply, both lent buffers and the two lent floats of the time offset.
abbrev pub ReturnsMapCode : MapOutcome → ℕ → Text → Text → List ℕ → List ℕ → List Float → List Float → Type 0
ReturnsMapCode o r out out' slots slots' time time' =
    (r ≡ map_code (map_reply o)) × ((out' ≡ map_bytes o out) × ((slots' ≡ map_slots o slots) × (time' ≡ map_time (map_reply o) time)))

-- The reply of replacing a map's time offset. The list of pairs is not lent, so only question 4 applies.
unfoldable pub with_time_offset_call : MapFunction → LayerOffset → Result MapFunction Refusal
with_time_offset_call f time = cond (leb f.count 64) (Ok (with_time_offset f time)) (Err TooMany)

-- The encoded value of a chain: 256 times the number of steps, plus the length. A path has at most 255 bytes and there are at most 64
-- steps, so the remainders change nothing; they rule out overflow.
unfoldable pub chain_value : ℕ → ℕ → ℕ
chain_value len steps = 65536 * (steps % 2 ^ 48) + 256 * (len % 256)

-- The encoded reply of a chaining call.
unfoldable pub chain_code : Result (ℕ × ℕ) Refusal → ℕ
unfolding chain_value
chain_code (Ok (len, steps)) = chain_value len steps
chain_code (Err x) = refusal_number x
