-- Meaning: Wrong answers of the calls on time offsets. Each field names an input and an answer that the definition excludes; the comment says which mistake
-- would give that answer.
use Rattle.std.specs.Prelude.{◌≢◌, true, false, pos, negsuc, Float}
use Rattle.std.specs.Float.{nan, inf, fin}
use Rattle.layer_offset.specs.declared.LayerOffset.{LayerOffset}
use Rattle.layer_offset.specs.Number.{plus_zero, one}
use Rattle.layer_offset.specs.Offset.{layer_offset, identity_offset, is_identity, is_valid, is_valid_composition, sanitized, apply_offset, concatenate_offsets, inverse_offset, offset_bits, is_close}

-- The floats -0, 2, 3, 5 and -1.
abbrev pub minus_zero_float : Float
minus_zero_float = fin true 0 (pos 0)

abbrev pub two : Float
two = fin false 1 (pos 1)

abbrev pub three : Float
three = fin false 3 (pos 0)

abbrev pub five : Float
five = fin false 5 (pos 0)

abbrev pub minus_one : Float
minus_one = fin true 1 (pos 0)

-- The offset 5 and the scale 2.
abbrev pub five_two : LayerOffset
five_two = layer_offset five two

pub record WrongTimes : Type 0 where
  -- `new` and `scale_only`: the numbers swapped; an offset invented.
  pub new_swapped : layer_offset five two ≢ layer_offset two five
  pub scale_with_offset : layer_offset plus_zero two ≢ layer_offset two two
  -- `is_valid`: an infinite scale passes; a finite time offset does not.
  pub infinite_is_valid : is_valid (layer_offset plus_zero (inf false)) ≢ true
  pub finite_is_invalid : is_valid five_two ≢ false
  -- `is_identity`: minus zero does not count as offset 0; the scale is not looked at.
  pub minus_zero_is_none : is_identity (layer_offset minus_zero_float one) ≢ false
  pub scale_ignored : is_identity (layer_offset plus_zero two) ≢ true
  -- `is_close`: any two invalid time offsets are close; nothing is.
  pub invalid_are_close : is_close (layer_offset nan one) (layer_offset (inf false) one) ≢ true
  pub never_close : is_close five_two five_two ≢ false
  -- `to_bits`: the scale lost.
  pub bits_without_scale : offset_bits five_two ≢ offset_bits (layer_offset five one)
  -- `apply`: the sum before the product; the scale added.
  pub sum_first : apply_offset five_two three ≢ fin false 1 (pos 4)
  pub scale_added : apply_offset five_two three ≢ fin false 5 (pos 1)
  -- `inverse`: scale 0 returned unchanged; the offset not divided.
  pub zero_scale_kept : inverse_offset (layer_offset five plus_zero) ≢ layer_offset five plus_zero
  pub offset_not_divided : inverse_offset (layer_offset two two) ≢ layer_offset (fin true 1 (pos 1)) (fin false 1 (negsuc 0))
  -- `is_valid_composition` and `sanitized`: a scale of zero or below passes; a good one becomes the identity.
  pub zero_scale_composes : is_valid_composition (layer_offset five plus_zero) ≢ true
  pub negative_kept : sanitized (layer_offset five minus_one) ≢ layer_offset five minus_one
  pub sanitized_to_identity : sanitized five_two ≢ identity_offset
  -- `concatenate`: inner and outer exchanged; the sum before the product.
  pub concatenated_swapped : concatenate_offsets five_two (layer_offset three one) ≢ concatenate_offsets (layer_offset three one) five_two
  pub concatenated_sum_first : concatenate_offsets five_two (layer_offset three one) ≢ layer_offset (fin false 1 (pos 4)) two
