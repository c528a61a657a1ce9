-- Method: The contents of the buffers in which the list of pairs of a composed map is built, and the capacity they need.
use Rattle.std.specs.Prelude.{◌≡◌, Bool, true, false, cond, ◌&&◌, List, [], ℕ, ◌+◌, ◌/◌, leb, length, Option, Some, None}
use Rattle.text.specs.Text.{Text, written_if_fits}
use Rattle.pair_list.specs.Pair.{Pair, every_end}
use Rattle.pair_list.specs.Places.{end_bytes}
use Rattle.map_spec.specs.Map.{Map, map_source_to_target, map_target_to_source}
use Rattle.map_spec.specs.Compose.{composed_pair, composed_pairs}
use Rattle.pair_list_write.specs.Packed.{ScratchRoom}
use Rattle.pair_buffer.specs.Ends.{at_most}
use Rattle.compose_pairs.specs.declared.Built.{Built}

-- Plain mapping: backward (target to source) if the flag is set.
unfoldable pub map_plainly : Bool → Map → Text → Option Text
unfolding map_source_to_target map_target_to_source
map_plainly false m p = map_source_to_target m p
map_plainly true m p = map_target_to_source m p

-- The path itself, if the map has the root-identity mark.
abbrev pub path_if_marked : Bool → Text → Option Text
path_if_marked mark p = cond mark (Some p) None

-- The result of a mapping as the code returns it: no path, or the length of the path.
abbrev pub image : Option Text → Option ℕ
image None = None
image (Some q) = Some (length q)

-- The number of bytes that the result of a mapping needs.
abbrev pub image_length : Option Text → ℕ
image_length None = 0
image_length (Some q) = length q

-- The buffer after a mapping: the path written from offset `at`.
abbrev pub image_buffer : ℕ → Option Text → Text → Text
image_buffer at None out = out
image_buffer at (Some q) out = written_if_fits at q out

-- The target of an inner pair mapped through the outer map; empty if the outer map yields no path.
unfoldable pub composed_target : Map → Text → Text
unfolding composed_pair
composed_target outer t = (composed_pair outer (record { source = []; target = t })).target

-- An end of at most 511 bytes: the length of a join of two short ends, with its slash.
abbrev pub at_most511 : Text → Bool
at_most511 t = at_most 511 t

-- Whether the capacities suffice for the pairs of both lists, and all ends have at most 511 bytes: a pair that composing makes then has at
-- most 1534 bytes.
unfoldable pub compose_fits : List Pair → List Pair → ℕ → ℕ → Bool
unfolding every_end
compose_fits outer inner room slots =
    leb (length inner + length outer) (room / 1534) && (leb (length inner + length outer) (slots / 4) && (every_end at_most511 outer && every_end at_most511 inner))

-- The same as facts, for lists of `count` pairs together.
pub record CanCompose (outer inner : List Pair) (count : ℕ) (bytes : Text) (slots : List ℕ) : Type 0 where
  pub outer_ends : every_end at_most511 outer ≡ true
  pub inner_ends : every_end at_most511 inner ≡ true
  pub scratch : ScratchRoom 1534 count bytes slots

-- The list that is built: the composed list if the capacity suffices, otherwise the empty list, which leaves the buffers unchanged.
unfoldable pub composed_or_none : Map → Map → ℕ → ℕ → List Pair
unfolding compose_fits composed_pairs
composed_or_none outer inner room slots = cond (compose_fits outer.pairs inner.pairs room slots) (composed_pairs outer inner) []

-- The number of pairs and bytes of a list.
abbrev pub built_of : List Pair → Built
built_of l = record { n = length l; at = end_bytes l }
