-- Every wrong answer of a call on time offsets differs from the right one, by computing both in IEEE 754.
use mathlib.Core.Path.{refl}
use Prim.Native.Nat.{ℕ, ◌+◌, ◌*◌}
use lib.Ieee.{Float, add, sub, sum, mul, div, neg, eq, lt, round, to_bits}
use Rattle.layer_offset.specs.declared.OffsetBits.{OffsetBits}
use Rattle.layer_offset.specs.Number.{bit_pattern, is_small}
use Rattle.layer_offset.specs.Offset.{is_identity, is_valid, is_valid_composition, sanitized, inverse_offset, is_close}
use Rattle.cases.specs.WrongTimes.{WrongTimes}
use Rattle.cases.proofs.Tell.{apart, bool_number, time_number}

-- The bits of a float, and two patterns, as one number.
float_number : Float → ℕ
float_number x = bit_pattern x

bits_number : OffsetBits → ℕ
bits_number b = b.0 + 18446744073709551616 * b.1

pub wrong_times : WrongTimes
unfolding to_bits add sub sum mul div neg eq lt round is_small is_identity is_valid is_valid_composition sanitized inverse_offset is_close bool_number float_number time_number bits_number
wrong_times = record {
  new_swapped = apart time_number refl;
  scale_with_offset = apart time_number refl;
  infinite_is_valid = apart bool_number refl;
  finite_is_invalid = apart bool_number refl;
  minus_zero_is_none = apart bool_number refl;
  scale_ignored = apart bool_number refl;
  invalid_are_close = apart bool_number refl;
  never_close = apart bool_number refl;
  bits_without_scale = apart bits_number refl;
  sum_first = apart float_number refl;
  scale_added = apart float_number refl;
  zero_scale_kept = apart time_number refl;
  offset_not_divided = apart time_number refl;
  zero_scale_composes = apart bool_number refl;
  negative_kept = apart time_number refl;
  sanitized_to_identity = apart time_number refl;
  concatenated_swapped = apart time_number refl;
  concatenated_sum_first = apart time_number refl;
}
