-- Meaning: Time offsets: the result of each function of LayerOffset in the Rust sdf/mod.rs, as a formula over IEEE 754. Each operation rounds once,
-- in the order of the formula. OpenUSD: SdfLayerOffset.
use Rattle.std.specs.Prelude.{Bool, not, cond, ◌&&◌, eqb, Float}
use Rattle.std.specs.Float.{binary64}
use Rattle.std.specs.Float.Ieee.{add, sub, mul, div, neg, eq, lt}
use Rattle.layer_offset.specs.declared.LayerOffset.{LayerOffset}
use Rattle.layer_offset.specs.declared.OffsetBits.{OffsetBits}
use Rattle.layer_offset.specs.Number.{plus_zero, one, is_finite, is_small, bit_pattern}

-- The time offset with these two numbers. Requirements: "A time offset is two 64-bit floats, offset and scale."
abbrev pub layer_offset : Float → Float → LayerOffset
layer_offset o s = record { offset = o; scale = s }

-- The identity (0, 1).
abbrev pub identity_offset : LayerOffset
identity_offset = layer_offset plus_zero one

-- The time offset is the identity. Requirements: "Minus zero counts as offset 0 in `is_identity`." OpenUSD: SdfLayerOffset::IsIdentity,
-- which has a tolerance.
unfoldable pub is_identity : LayerOffset → Bool
is_identity o = eq o.offset plus_zero && eq o.scale one

-- Both numbers are finite. OpenUSD: SdfLayerOffset::IsValid.
unfoldable pub is_valid : LayerOffset → Bool
is_valid o = is_finite o.offset && is_finite o.scale

-- The time offset can be composed: it is valid and its scale is above zero.
unfoldable pub is_valid_composition : LayerOffset → Bool
is_valid_composition o = is_valid o && lt plus_zero o.scale

-- The time offset, or the identity if it cannot be composed.
unfoldable pub sanitized : LayerOffset → LayerOffset
sanitized o = cond (is_valid_composition o) o identity_offset

-- The time offset applied to a time: offset + (scale × time), with the product rounded before the sum. OpenUSD: the product of an
-- SdfLayerOffset and a time.
abbrev pub apply_offset : LayerOffset → Float → Float
apply_offset o t = add binary64 o.offset (mul binary64 o.scale t)

-- The concatenation of two time offsets; the inner one is applied first. Requirements: "Concatenation gives outer offset + (outer scale ×
-- inner offset), product rounded before the sum, and scale × scale." OpenUSD: the product of two SdfLayerOffset values.
abbrev pub concatenate_offsets : LayerOffset → LayerOffset → LayerOffset
concatenate_offsets outer inner = layer_offset (apply_offset outer inner.offset) (mul binary64 outer.scale inner.scale)

-- The inverse of a time offset. Requirements: "`inverse` gives (0, 1) for scale 0 of either sign, else (−offset / scale, 1 / scale)."
-- OpenUSD: SdfLayerOffset::GetInverse.
unfoldable pub inverse_offset : LayerOffset → LayerOffset
inverse_offset o =
    cond (eq o.scale plus_zero) identity_offset
    (layer_offset (div binary64 (neg o.offset) o.scale) (div binary64 one o.scale))

-- The bit patterns of both numbers.
abbrev pub offset_bits : LayerOffset → OffsetBits
offset_bits o = record { 0 = bit_pattern o.offset; 1 = bit_pattern o.scale }

-- Both bit patterns are equal.
abbrev pub same_bits : OffsetBits → OffsetBits → Bool
same_bits a b = eqb a.0 b.0 && eqb a.1 b.1

-- Both numbers differ by less than the tolerance.
abbrev pub is_near : LayerOffset → LayerOffset → Bool
is_near a b = is_small (sub binary64 a.offset b.offset) && is_small (sub binary64 a.scale b.scale)

-- Equality as SdfLayerOffset defines it: two valid time offsets that differ by less than the tolerance, or two invalid ones that are
-- exactly equal.
unfoldable pub is_close : LayerOffset → LayerOffset → Bool
is_close a b = cond (is_valid a) (is_valid b && is_near a b) (not (is_valid b) && same_bits (offset_bits a) (offset_bits b))
