-- Meaning: The properties of a map's struct. OpenUSD: PcpMapFunction::Identity, IsNull, IsIdentity, HasRootIdentity, GetTimeOffset.
use Rattle.std.specs.Prelude.{ℕ, Bool, not, ◌&&◌, List, eqb}
use Rattle.text.specs.Text.{Text}
use Rattle.layer_offset.specs.declared.LayerOffset.{LayerOffset}
use Rattle.layer_offset.specs.Offset.{is_identity}
use Rattle.validate.specs.Validate.{LentList, lent_list}
use Rattle.map_spec.specs.Map.{Map, lent_map}
use Rattle.map_function.specs.declared.MapFunction.{MapFunction}

-- The list of pairs of a map in lent memory.
abbrev pub list_of : Text → List ℕ → MapFunction → LentList
list_of store places f = lent_list store places f.count

-- The map in lent memory.
abbrev pub map_of : Text → List ℕ → MapFunction → Map
map_of store places f = lent_map store places f.count f.has_root_identity

-- The null map: no pairs and no mark.
unfoldable pub is_null : MapFunction → Bool
is_null f = eqb f.count 0 && not f.has_root_identity

-- The identity on paths, whatever its time offset (Rust: path_is_identity).
unfoldable pub path_is_identity : MapFunction → Bool
path_is_identity f = eqb f.count 0 && f.has_root_identity

-- The identity on both paths and times.
unfoldable pub is_identity_map : MapFunction → Bool
unfolding path_is_identity is_identity
is_identity_map f = path_is_identity f && is_identity f.time_offset

-- The map with its time offset replaced.
abbrev pub with_time_offset : MapFunction → LayerOffset → MapFunction
with_time_offset f time = record { count = f.count; has_root_identity = f.has_root_identity; time_offset = time }
