-- Meaning: A time offset as two plain numbers, the offset and then the scale.
use Rattle.std.specs.Prelude.{ℕ, List, [], ◌∷◌, Float}
use Rattle.layer_offset.specs.declared.LayerOffset.{LayerOffset}
use Rattle.layer_offset.specs.declared.OffsetBits.{OffsetBits}

-- The offset and the scale as floats.
unfoldable pub offset_numbers : LayerOffset → List Float
offset_numbers o = o.offset ∷ o.scale ∷ []

-- The bit patterns of the offset and the scale.
unfoldable pub offset_patterns : OffsetBits → List ℕ
offset_patterns b = b.0 ∷ b.1 ∷ []
