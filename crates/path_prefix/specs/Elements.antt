-- Meaning: The number of elements of a path. Requirements: "Elements are names and selections; `/` and the empty path have none.
-- `prim_element_count` counts names." OpenUSD: SdfPath::GetPathElementCount, which also counts a property; the Rust and the requirements do
-- not.
use Rattle.std.specs.Prelude.{ℕ, suc, ◌+◌, ◌≡◌, Bool, true, false, not, cond, ◌&&◌, ◌||◌, List, [], ◌∷◌, eqb}
use Rattle.text.specs.Text.{Text, is_nil}
use Rattle.text.specs.Bytes.{close_brace, open_brace, slash}
use Rattle.path_grammar.specs.Legal.{is_name_byte, starts_name}
use Rattle.path_grammar.specs.Own.{own_part}
use Rattle.path_grammar.specs.Grammar as g
use Rattle.path_grammar.specs.Grammar.{render}

-- An element begins at the byte a followed by r: a name after a slash, a selection (if selections count), or a name directly after a
-- selection.
abbrev pub starts_element : Bool → ℕ → Text → Bool
starts_element selections a r = eqb a slash && not (is_nil r) || eqb a open_brace && selections || eqb a close_brace && starts_name r

-- The number of elements that begin in a text; selections count only if `selections` is set.
unfoldable pub count_elements : Bool → Text → ℕ
unfolding is_name_byte
count_elements selections [] = 0
count_elements selections (a ∷ r) = cond (starts_element selections a r) 1 0 + count_elements selections r

-- The number of names and selections (Rust: element_count) in a text without brackets, such as an end or the own part of a path. Requirements:
-- "Names and selections inside brackets don't count as the path's own".
abbrev pub element_count : Text → ℕ
element_count s = count_elements true s

-- The number of names (Rust: prim_element_count) in such a text.
abbrev pub prim_element_count : Text → ℕ
prim_element_count s = count_elements false s

-- The number of selections in a list, or 0 if selections do not count. This and the next two definitions count over the data types of the
-- grammar; `CountsAgree` states that the counts agree with those of the texts.
unfoldable pub selection_count : Bool → List g.Selection → ℕ
selection_count selections [] = 0
selection_count selections (s ∷ r) = cond selections 1 0 + selection_count selections r

-- The number of elements in a prim and the prims after it.
unfoldable pub prim_count : Bool → g.Prim → List g.Prim → ℕ
unfolding selection_count
prim_count selections p [] = suc (selection_count selections p.selections)
prim_count selections p (q ∷ r) = suc (selection_count selections p.selections) + prim_count selections q r

-- The number of elements in an absolute path: those of the path in brackets are not its own.
unfoldable pub absolute_count : Bool → {d : ℕ} → g.Absolute d → ℕ
unfolding prim_count
absolute_count selections g.root = 0
absolute_count selections (g.prims p r x) = prim_count selections p r
absolute_count selections (g.target p r x q) = prim_count selections p r

-- The number of elements in a path.
unfoldable pub path_count : Bool → g.Path → ℕ
unfolding absolute_count
path_count selections g.empty = 0
path_count selections (g.absolute q) = absolute_count selections q

-- Theorem (proofs/CountTheorem.antt): the number of elements in the own part of a path's text is the number of elements in the path.
abbrev pub CountsAgree : Type 0
CountsAgree = (selections : Bool) (p : g.Path) → count_elements selections (own_part (render p)) ≡ path_count selections p
