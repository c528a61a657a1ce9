-- Meaning: The grammar of path texts, as data types and their rendering to text. Every value of these types is a path, and a text is legal exactly
-- if it is the rendering of some path (`LegalIsRendered`, proved in proofs/Theorem.antt).
use Rattle.std.specs.Prelude.{◌≡◌, Bool, true, ◌&&◌, ◌||◌, List, [], ◌∷◌, ◌++◌, ◌↔◌, ℕ, suc, Option, Some, None}
use Rattle.text.specs.Text.{Text}
use Rattle.text.specs.Bytes.{close_brace, close_bracket, colon, dot, equals_sign, open_brace, open_bracket, slash}
use Rattle.characters.specs.Utf8.{encode_all}
use Rattle.characters.specs.NameCharacter.{is_name_character}
use Rattle.path_grammar.specs.Legal.{is_ascii_start, is_ascii_digit, is_variant_byte, legal}

-- The character may begin a name (Rust: is_identifier_start). Requirements: "A name is a letter or `_`, then letters, digits, `_`"; "A
-- character from U+0080 up may begin or continue a name unless it is a control .. or white space".
unfoldable pub is_identifier_start : ℕ → Bool
unfolding is_name_character
is_identifier_start c = is_ascii_start c || is_name_character c

-- The character may follow the first one of a name (Rust: is_identifier_cont).
unfoldable pub is_identifier_cont : ℕ → Bool
unfolding is_identifier_start
is_identifier_cont c = is_identifier_start c || is_ascii_digit c

-- Every character may follow the first one of a name.
unfoldable pub all_cont : List ℕ → Bool
unfolding is_identifier_cont
all_cont [] = true
all_cont (c ∷ r) = is_identifier_cont c && all_cont r

-- Every byte may be part of a variant.
unfoldable pub are_variant_bytes : Text → Bool
are_variant_bytes [] = true
are_variant_bytes (a ∷ r) = is_variant_byte a && are_variant_bytes r

-- A name, as its characters.
pub record Name : Type 0 where
  pub first : ℕ
  pub more : List ℕ
  pub first_is : is_identifier_start first ≡ true
  pub more_are : all_cont more ≡ true

-- The variant that a selection names. Requirements: "`sel` is one or more letters, digits, `_`."
pub record Word : Type 0 where
  pub first : ℕ
  pub more : Text
  pub first_is : is_variant_byte first ≡ true
  pub more_are : are_variant_bytes more ≡ true

-- A variant selection. Requirements: "`{set=sel}`"; "`set` is a name".
pub record Selection : Type 0 where
  pub variant_set : Name
  pub variant : Word

-- A prim: a name and the variant selections that follow it.
pub record Prim : Type 0 where
  pub name : Name
  pub selections : List Selection

-- A property. Requirements: "A property is `.` and names joined by single `:`."
pub record Property : Type 0 where
  pub first : Name
  pub more : List Name

-- An absolute path with at most d opening brackets. Requirements: "`/`, or `/` and a name followed by elements, then perhaps a property".
pub data Absolute : ℕ → Type 0 where
  root : {d : ℕ} → Absolute d
  prims : {d : ℕ} → Prim → List Prim → Option Property → Absolute d
  -- A path to a target, which is another path. Requirements: "A property may be followed by a legal absolute path in brackets, which ends the
  -- text".
  target : {d : ℕ} → Prim → List Prim → Property → Absolute d → Absolute (suc d)

-- A path. Requirements: "It is empty, or .."; "a bracketed path may hold another, four deep, so a text has at most four opening brackets".
pub data Path : Type 0 where
  empty : Path
  absolute : Absolute 4 → Path

-- The text of a name: its characters in UTF-8. In this and the following renderings the bytes are: . is 46, / is 47, : is 58, = is 61, [ is 91,
-- ] is 93, { is 123, } is 125.
unfoldable pub name_text : Name → Text
unfolding encode_all
name_text n = encode_all (n.first ∷ n.more)

-- The text of a variant.
unfoldable pub word_text : Word → Text
word_text w = w.first ∷ w.more

-- The text of a variant selection.
unfoldable pub selection_text : Selection → Text
unfolding name_text word_text
selection_text s = open_brace ∷ (name_text s.variant_set ++ (equals_sign ∷ (word_text s.variant ++ (close_brace ∷ []))))

-- The text of a list of variant selections.
unfoldable pub selections_text : List Selection → Text
unfolding selection_text
selections_text [] = []
selections_text (s ∷ r) = selection_text s ++ selections_text r

-- The text of a prim: its name, then its selections.
unfoldable pub prim_text : Prim → Text
unfolding name_text selections_text
prim_text p = name_text p.name ++ selections_text p.selections

-- The separator between a prim with these selections and the next prim: a slash after a name, nothing after a selection. Requirements:
-- "After a name come `/` and a name .. After a selection come another selection, or a name with no slash."
unfoldable pub prim_separator : List Selection → Text
prim_separator [] = slash ∷ []
prim_separator (s ∷ r) = []

-- The text of a prim and of the prims after it.
unfoldable pub prims_text : Prim → List Prim → Text
unfolding prim_text prim_separator
prims_text p [] = prim_text p
prims_text p (q ∷ r) = prim_text p ++ (prim_separator p.selections ++ prims_text q r)

-- The text of the further names of a property, each after a `:`.
unfoldable pub more_text : List Name → Text
unfolding name_text
more_text [] = []
more_text (n ∷ r) = colon ∷ (name_text n ++ more_text r)

-- The text of a property, if there is one.
unfoldable pub property_text : Option Property → Text
unfolding name_text more_text
property_text None = []
property_text (Some x) = dot ∷ (name_text x.first ++ more_text x.more)

-- The text of prims and perhaps a property: the own part of a path.
unfoldable pub own_text : Prim → List Prim → Option Property → Text
unfolding prims_text property_text
own_text p r x = slash ∷ (prims_text p r ++ property_text x)

-- The text of a path in brackets, with the brackets.
unfoldable pub bracket_text : Text → Text
bracket_text t = open_bracket ∷ (t ++ (close_bracket ∷ []))

-- The text of an absolute path.
unfoldable pub absolute_text : {d : ℕ} → Absolute d → Text
unfolding own_text bracket_text
absolute_text root = slash ∷ []
absolute_text (prims p r x) = own_text p r x
absolute_text (target p r x q) = own_text p r (Some x) ++ bracket_text (absolute_text q)

-- The text of a path.
unfoldable pub render : Path → Text
unfolding absolute_text
render empty = []
render (absolute q) = absolute_text q

-- The text s is the rendering of some path.
pub record Rendered (s : Text) : Type 0 where
  pub path : Path
  pub same : render path ≡ s

-- Theorem (proofs/Theorem.antt): a text is legal exactly if it is the rendering of some path.
abbrev pub LegalIsRendered : Type 0
LegalIsRendered = (s : Text) → (legal s ≡ true) ↔ Rendered s
