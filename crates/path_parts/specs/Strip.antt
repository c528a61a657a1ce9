-- Meaning: The removal of variant selections: `/A{v=p}B.c` becomes `/A/B.c`. OpenUSD: SdfPath::StripAllVariantSelections.
use Rattle.std.specs.Prelude.{ℕ, Bool, true, false, not, cond, [], ◌∷◌, ◌++◌, eqb, leb, length, Option, Some, None}
use Rattle.text.specs.Text.{Text, written}
use Rattle.text.specs.Bytes.{close_brace, open_brace, slash}
use Rattle.path_grammar.specs.Own.{own_part, target_part}
use Rattle.path_parts.specs.Parent.{starts_name_after}

-- The output for the byte a followed by r. Inside a selection it is nothing, or a slash for a `}` that a name follows; outside it is the
-- byte itself, or nothing for a `{`.
unfoldable pub stripped_byte : Bool → ℕ → Text → Text
unfolding starts_name_after
stripped_byte true a r = cond (starts_name_after a r) (slash ∷ []) []
stripped_byte false a r = cond (eqb a open_brace) [] (a ∷ [])

-- The scan is inside a selection after the byte a.
abbrev pub inside_after : Bool → ℕ → Bool
inside_after true a = not (eqb a close_brace)
inside_after false a = eqb a open_brace

-- The output for all bytes of a text, starting inside or outside a selection.
unfoldable pub strip_from : Bool → Text → Text
unfolding stripped_byte
strip_from inside [] = []
strip_from inside (a ∷ r) = stripped_byte inside a r ++ strip_from (inside_after inside a) r

-- The path without its variant selections (Rust: strip_variant_selections). Those of the path in its brackets are left: requirements, "Names and
-- selections inside brackets don't count as the path's own .. and stripping .. leaves them".
unfoldable pub strip : Text → Text
unfolding strip_from own_part target_part
strip p = strip_from false (own_part p) ++ target_part p

-- The result of writing the stripped path. The buffer must have capacity for the original path, since stripping makes no text longer.
unfoldable pub strip_fit : Text → Text → Option ℕ
strip_fit p out = cond (leb (length p) (length out)) (Some (length (strip p))) None

-- The buffer after stripping; unchanged if it is too short for the original path.
unfoldable pub strip_buffer : Text → Text → Text
strip_buffer p out = cond (leb (length p) (length out)) (written (strip p) out) out
