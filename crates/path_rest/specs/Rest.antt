-- Meaning: The rest of a path: the part at its end that follows a prefix and is carried over unaltered when the prefix is replaced. It differs from
-- the remainder of crates/path_join in one case: "A separating slash belongs to the rest, so under the key `/` the rest of a longer text is that
-- whole text."
use Rattle.std.specs.Prelude.{ℕ, ◌≡◌, true, not, cond, ◌&&◌, [], ◌++◌, length, drop, Option, Some, None}
use Prim.Native.String.{String}
use Rattle.text.specs.Text.{Text, bytes, is_nil}
use Rattle.path_grammar.specs.Legal.{is_root}
use Rattle.path_prefix.specs.Prefix.{has_prefix}

-- The index at which the rest of the path p begins, if s is a prefix of p: where s ends, but 0 if s is `/` and p is longer.
unfoldable pub rest_index : Text → Text → ℕ
rest_index p s = cond (is_root s && not (is_root p)) 0 (length s)

-- Where the rest of the path p after the prefix s begins. Requirements: "The prefix test now says also where the rest begins", "the prefix
-- test names a place only with a yes".
unfoldable pub rest_start : Text → Text → Option ℕ
unfolding has_prefix rest_index
rest_start p s = cond (has_prefix p s) (Some (rest_index p s)) None

-- The rest as a part of the text p; empty if there is none.
unfoldable pub rest_text : Text → Option ℕ → Text
rest_text p (Some n) = drop n p
rest_text p None = []

-- After the prefix s the rest of the path p is the text r, from the index n.
abbrev pub RestAfter : String → String → ℕ → String → Type 0
RestAfter p s n r = (rest_start (bytes p) (bytes s) ≡ Some n) × (rest_text (bytes p) (Some n) ≡ bytes r)

-- Worked examples (proofs/RestLaws.antt): what may follow a prefix, and the prefixes `/` and empty.
pub record RestExamples : Type 0 where
  -- The separating slash belongs to the rest.
  pub child : RestAfter "/A/B" "/A" 2 "/B"
  pub property : RestAfter "/A.b" "/A" 2 ".b"
  pub selection : RestAfter "/A{v=p}B" "/A" 2 "{v=p}B"
  -- After a selection there is no separator.
  pub child_of_selection : RestAfter "/A{v=p}B" "/A{v=p}" 7 "B"
  pub exact_match : RestAfter "/A" "/A" 2 ""
  -- After `/` the separating slash is the one with which the path begins.
  pub below_root : RestAfter "/A/B" "/" 0 "/A/B"
  pub root_itself : RestAfter "/" "/" 1 ""
  pub empty_prefix : RestAfter "/A" "" 0 "/A"
  -- A text that is no prefix has no rest: a name goes on, or the prefix is longer than the path.
  pub longer_name : rest_start (bytes "/AB") (bytes "/A") ≡ None
  pub longer_prefix : rest_start (bytes "/A") (bytes "/A/B") ≡ None

-- The text s followed by the rest r. After `/` the slash with which r begins is the separator.
unfoldable pub followed_by : Text → Text → Text
followed_by s r = cond (is_root s && not (is_nil r)) r (s ++ r)

-- Theorem (proofs/RestLaws.antt): a path is its prefix followed by the rest.
abbrev pub PrefixAndRest : Type 0
PrefixAndRest = (p s : Text) → has_prefix p s ≡ true → p ≡ followed_by s (rest_text p (rest_start p s))

-- The text p ends with the text r.
abbrev pub EndsWith : Text → Text → Type 0
EndsWith p r = (s : Text) × (p ≡ s ++ r)
