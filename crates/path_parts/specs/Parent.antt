-- Meaning: Parents, prim paths, properties and ancestors. All of them are prefixes of the path's text. OpenUSD: SdfPath::GetParentPath,
-- GetPrimPath, GetAncestorsRange.
use Rattle.std.specs.Prelude.{ℕ, zero, suc, ◌-◌, Bool, not, cond, ◌&&◌, ◌||◌, List, [], ◌∷◌, map, eqb, length, take, Option, Some, None}
use Rattle.text.specs.Text.{Text, is_nil, ends_with_byte}
use Rattle.text.specs.Bytes.{close_brace, close_bracket, dot, open_brace, slash}
use Rattle.path_grammar.specs.Own.{own_part, target_part, has_property}
use Rattle.path_grammar.specs.Legal.{is_root, is_name_byte, starts_name}

-- A part (an element or the property) begins at the byte a followed by r.
unfoldable pub starts_part : ℕ → Text → Bool
starts_part a r = eqb a slash && not (is_nil r) || eqb a open_brace || eqb a dot

-- A part begins directly after the byte a followed by r: a name after a selection.
unfoldable pub starts_name_after : ℕ → Text → Bool
unfolding is_name_byte
starts_name_after a r = eqb a close_brace && starts_name r

-- The offset from the byte a at which a part begins: 0, 1 or none.
unfoldable pub part_offset : ℕ → Text → Option ℕ
unfolding starts_part starts_name_after
part_offset a r = cond (starts_part a r) (Some 0) (cond (starts_name_after a r) (Some 1) None)

-- The second index, counted from the next byte, if there is one; otherwise the first.
abbrev pub later_offset : Option ℕ → Option ℕ → Option ℕ
later_offset x None = x
later_offset x (Some k) = Some (suc k)

-- The index at which the last part of a text begins.
unfoldable pub last_part_start : Text → Option ℕ
unfolding part_offset
last_part_start [] = None
last_part_start (a ∷ r) = later_offset (part_offset a r) (last_part_start r)

-- The length of the parent, given the index of the last part: the parent is the text before the last part, or the first byte, `/`, if
-- nothing precedes it.
abbrev pub parent_end : Option ℕ → ℕ
parent_end None = 0
parent_end (Some zero) = 1
parent_end (Some (suc k)) = suc k

-- The length of the parent of a path without brackets.
unfoldable pub own_parent_len : Text → ℕ
unfolding last_part_start
own_parent_len p = parent_end (last_part_start p)

-- The length of the parent. The parent of a path that ends in a closing bracket is its own part, which ends in the property before the brackets.
unfoldable pub parent_len : Text → ℕ
unfolding ends_with_byte own_part own_parent_len
parent_len p = cond (ends_with_byte close_bracket p) (length (own_part p)) (own_parent_len p)

-- Every path except the empty one and `/` has a parent.
abbrev pub has_parent : Text → Bool
has_parent p = not (is_nil p || is_root p)

-- The parent of a path. Requirements: "The parent of `/A.b` is `/A`, of `/A{v=p}B` is `/A{v=p}`, of `/A` is `/`. `/` and the empty path
-- have none."
unfoldable pub parent : Text → Option Text
unfolding parent_len
parent p = cond (has_parent p) (Some (take (parent_len p) p)) None

-- The path is a property path (Rust: is_property): it ends in its property. A path with a target in brackets has a property and is none.
unfoldable pub is_property : Text → Bool
unfolding has_property target_part
is_property p = has_property p && is_nil (target_part p)

-- The length of the prim path: the own part without the property, or without the last selection if it ends in one; otherwise the whole own part.
unfoldable pub prim_len : Text → ℕ
unfolding own_parent_len has_property own_part ends_with_byte
prim_len p = cond (has_property p || ends_with_byte close_brace (own_part p)) (own_parent_len (own_part p)) (length (own_part p))

-- The prim path (Rust: prim_path).
unfoldable pub prim_path : Text → Text
unfolding prim_len
prim_path p = take (prim_len p) p

-- The prim path of a property path. Requirements: "`split_property` writes the prim path, the name being the text after its dot; without a
-- property it gives no path."
unfoldable pub split_property : Text → Option Text
unfolding prim_path is_property
split_property p = cond (is_property p) (Some (prim_path p)) None

-- The list that `go` yields for a path, or the empty list if there is no path.
abbrev pub ancestors_from : (Text → List Text) → Option Text → List Text
ancestors_from go None = []
ancestors_from go (Some q) = go q

-- The path and then parent after parent, at most n of them.
unfoldable pub ancestors_within : ℕ → Text → List Text
unfolding parent
ancestors_within zero p = p ∷ []
ancestors_within (suc n) p = p ∷ ancestors_from (λ (q : Text). ancestors_within n q) (parent p)

-- The path and then parent after parent (Rust: ancestors). A parent is shorter than its path, and a path of one byte has none, so fewer
-- steps than the path has bytes are enough (proved in proofs/AncestorLaws.antt).
unfoldable pub ancestors : Text → List Text
unfolding ancestors_within
ancestors p = ancestors_within (length p - 1) p

-- The lengths of the path and its ancestors. Requirements: "one number per path of `ancestors` (its length)".
unfoldable pub ancestor_lens : Text → List ℕ
unfolding ancestors
ancestor_lens p = map length (ancestors p)
