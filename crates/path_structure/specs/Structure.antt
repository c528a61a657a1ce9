-- Meaning: Parents, prim paths, properties, ancestors and the removal of selections, on the data types of the grammar (crates/path_grammar/specs).
-- crates/path_parts defines them on texts, byte by byte; `StructureTheorems` states that the two agree on every path.
use Rattle.std.specs.Prelude.{ℕ, ◌≡◌, Bool, true, false, cond, List, [], ◌∷◌, ◌++◌, map, Option, Some, None}
use Rattle.text.specs.Text.{Text}
use Rattle.text.specs.Bytes.{dot}
use Rattle.path_grammar.specs.Grammar as g
use Rattle.path_grammar.specs.Grammar.{name_text, more_text, own_text, render}
use Rattle.path_parts.specs.Parent.{parent, prim_path, split_property, ancestors}
use Rattle.path_parts.specs.Strip.{strip}

-- Selections without the last one.
unfoldable pub drop_last_selection : List g.Selection → List g.Selection
drop_last_selection [] = []
drop_last_selection (s ∷ []) = []
drop_last_selection (s ∷ t ∷ r) = s ∷ drop_last_selection (t ∷ r)

-- A prim of this name with these selections, without its last part: without its last selection, or no prim if it has none.
unfoldable pub drop_prim_part : g.Name → List g.Selection → List g.Prim
unfolding drop_last_selection
drop_prim_part n [] = []
drop_prim_part n (s ∷ r) = record { name = n; selections = drop_last_selection (s ∷ r) } ∷ []

-- A prim and the prims after it, without the last part: the last selection of the last prim, or that prim if it has none.
unfoldable pub drop_last_part : g.Prim → List g.Prim → List g.Prim
unfolding drop_prim_part
drop_last_part p [] = drop_prim_part p.name p.selections
drop_last_part p (q ∷ r) = p ∷ drop_last_part q r

-- The path of these prims, without a property: `/` if there are none.
unfoldable pub path_of_prims : {d : ℕ} → List g.Prim → g.Absolute d
path_of_prims [] = g.root
path_of_prims (p ∷ r) = g.prims p r None

-- The absolute path as a path, if there is one.
unfoldable pub absolute_option : Option (g.Absolute 4) → Option g.Path
absolute_option None = None
absolute_option (Some q) = Some (g.absolute q)

-- The parent of an absolute path: the path without its last part, which is the target in brackets, or its property, or else its last selection or
-- name. Requirements: "The parent of `/A.b` is `/A`, of `/A{v=p}B` is `/A{v=p}`, of `/A` is `/`. `/` and the empty path have none."
unfoldable pub absolute_parent : {d : ℕ} → g.Absolute d → Option (g.Absolute d)
unfolding drop_last_part path_of_prims
absolute_parent g.root = None
absolute_parent (g.prims p r None) = Some (path_of_prims (drop_last_part p r))
absolute_parent (g.prims p r (Some x)) = Some (g.prims p r None)
absolute_parent (g.target p r x q) = Some (g.prims p r (Some x))

-- The parent.
unfoldable pub parent_of : g.Path → Option g.Path
unfolding absolute_parent absolute_option
parent_of g.empty = None
parent_of (g.absolute q) = absolute_option (absolute_parent q)

-- There is a selection.
unfoldable pub any_selection : List g.Selection → Bool
any_selection [] = false
any_selection (s ∷ r) = true

-- The last prim has a selection.
unfoldable pub ends_in_selection : g.Prim → List g.Prim → Bool
unfolding any_selection
ends_in_selection p [] = any_selection p.selections
ends_in_selection p (q ∷ r) = ends_in_selection q r

-- The prim path of an absolute path (Rust: prim_path): the path without its target and its property, or without its last selection if it ends
-- in one.
unfoldable pub absolute_prim_path : {d : ℕ} → g.Absolute d → g.Absolute d
unfolding ends_in_selection path_of_prims drop_last_part
absolute_prim_path g.root = g.root
absolute_prim_path (g.prims p r None) = cond (ends_in_selection p r) (path_of_prims (drop_last_part p r)) (g.prims p r None)
absolute_prim_path (g.prims p r (Some x)) = g.prims p r None
absolute_prim_path (g.target p r x q) = g.prims p r None

-- The prim path.
unfoldable pub prim_path_of : g.Path → g.Path
unfolding absolute_prim_path
prim_path_of g.empty = g.empty
prim_path_of (g.absolute q) = g.absolute (absolute_prim_path q)

-- The prim path of an absolute path that ends in its property; no path without a property, or with a target after it.
unfoldable pub absolute_split : {d : ℕ} → g.Absolute d → Option (g.Absolute d)
absolute_split g.root = None
absolute_split (g.prims p r None) = None
absolute_split (g.prims p r (Some x)) = Some (g.prims p r None)
absolute_split (g.target p r x q) = None

-- The prim path of a property path.
unfoldable pub split_property_of : g.Path → Option g.Path
unfolding absolute_split absolute_option
split_property_of g.empty = None
split_property_of (g.absolute q) = absolute_option (absolute_split q)

-- The name of a property: its names, joined by `:`.
unfoldable pub property_name : g.Property → Text
unfolding name_text more_text
property_name x = name_text x.first ++ more_text x.more

-- A prim without its selections.
unfoldable pub strip_prim : g.Prim → g.Prim
strip_prim p = record { name = p.name; selections = [] }

-- An absolute path without its selections (Rust: strip_variant_selections); those of the target are left.
unfoldable pub absolute_strip : {d : ℕ} → g.Absolute d → g.Absolute d
unfolding strip_prim
absolute_strip g.root = g.root
absolute_strip (g.prims p r x) = g.prims (strip_prim p) (map strip_prim r) x
absolute_strip (g.target p r x q) = g.target (strip_prim p) (map strip_prim r) x q

-- The path without its selections.
unfoldable pub strip_of : g.Path → g.Path
unfolding absolute_strip
strip_of g.empty = g.empty
strip_of (g.absolute q) = g.absolute (absolute_strip q)

-- The text of a path, if there is one.
unfoldable pub render_option : Option g.Path → Option Text
unfolding render
render_option None = None
render_option (Some p) = Some (render p)

-- The ancestors of a path's text, or none if there is no path.
unfoldable pub ancestors_of_option : Option g.Path → List Text
unfolding render ancestors
ancestors_of_option None = []
ancestors_of_option (Some p) = ancestors (render p)

-- The theorems (proofs/Theorem.antt). Every legal text is the text of a path, so they determine the five on every legal text.
pub record StructureTheorems : Type 0 where
  -- The parent of a path's text is the text of its parent.
  pub parents : (p : g.Path) → parent (render p) ≡ render_option (parent_of p)
  -- So is the prim path.
  pub prim_paths : (p : g.Path) → prim_path (render p) ≡ render (prim_path_of p)
  -- So is the prim path of a property.
  pub properties : (p : g.Path) → split_property (render p) ≡ render_option (split_property_of p)
  -- The text of a property path is its prim path, a dot and the property's name.
  pub property_names : (p : g.Prim) (r : List g.Prim) (x : g.Property) → own_text p r (Some x) ≡ own_text p r None ++ (dot ∷ property_name x)
  -- Stripping a path's text gives the text of the path without its selections.
  pub strips : (p : g.Path) → strip (render p) ≡ render (strip_of p)
  -- The ancestors are the path itself and then the ancestors of its parent.
  pub ancestors_are : (p : g.Path) → ancestors (render p) ≡ render p ∷ ancestors_of_option (parent_of p)
