-- Meaning: Byte texts, as lists of numbers (a byte is a number below 256). These definitions do not depend on the path syntax.
use Rattle.std.specs.Option.{is_some}
use Rattle.std.specs.Prelude.{ℕ, ◌+◌, Bool, true, false, not, cond, ◌&&◌, List, [], ◌∷◌, ◌++◌, eqb, leb, length, take, drop, Option, Some, None}
use Prim.Native.Char.{code}
use Prim.Native.String.{String, [] as []ˢ, ◌∷◌ as ◌∷ˢ◌}

-- A text: a list of bytes.
abbrev pub Text : Type 0
Text = List ℕ

-- The bytes of an ASCII string, which makes tables of cases readable.
abbrev pub bytes : String → Text
bytes []ˢ = []
bytes (c ∷ˢ s) = code c ∷ bytes s

-- The text is empty.
abbrev pub is_nil : Text → Bool
is_nil [] = true
is_nil (a ∷ r) = false

-- The two texts are equal, byte for byte.
unfoldable pub equal : Text → Text → Bool
equal [] [] = true
equal [] (b ∷ t) = false
equal (a ∷ s) [] = false
equal (a ∷ s) (b ∷ t) = eqb a b && equal s t

-- The remainder of the text p after the prefix s; none if p does not begin with s.
unfoldable pub strip_prefix : Text → Text → Option Text
strip_prefix [] p = Some p
strip_prefix (a ∷ s) [] = None
strip_prefix (a ∷ s) (b ∷ p) = cond (eqb a b) (strip_prefix s p) None

-- The text p begins with the prefix s.
unfoldable pub starts_with : Text → Text → Bool
unfolding strip_prefix
starts_with s p = is_some (strip_prefix s p)

-- The last byte is b; false for the empty text.
unfoldable pub ends_with_byte : ℕ → Text → Bool
ends_with_byte b [] = false
ends_with_byte b (a ∷ []) = eqb a b
ends_with_byte b (a ∷ c ∷ r) = ends_with_byte b (c ∷ r)

-- No byte of the text is b.
unfoldable pub lacks_byte : ℕ → Text → Bool
lacks_byte b [] = true
lacks_byte b (a ∷ r) = not (eqb a b) && lacks_byte b r

-- The bytes before the first byte b; the whole text if there is none.
unfoldable pub take_until : ℕ → Text → Text
take_until b [] = []
take_until b (a ∷ r) = cond (eqb a b) [] (a ∷ take_until b r)

-- The text from the first byte b on; empty if there is none.
unfoldable pub drop_until : ℕ → Text → Text
drop_until b [] = []
drop_until b (a ∷ r) = cond (eqb a b) (a ∷ r) (drop_until b r)

-- The text without its last byte.
unfoldable pub drop_last : Text → Text
drop_last [] = []
drop_last (a ∷ []) = []
drop_last (a ∷ c ∷ r) = a ∷ drop_last (c ∷ r)

-- The buffer `out` with the text t written over its beginning: the text, then the remaining old bytes.
abbrev pub written : Text → Text → Text
written t out = t ++ drop (length t) out

-- The buffer `out` with the text t written over it from index `at`.
abbrev pub written_at : ℕ → Text → Text → Text
written_at at t out = take at out ++ (t ++ drop (at + length t) out)

-- The result of writing a text over the beginning of a buffer: the length written, or `None` if the text does not fit.
unfoldable pub fit_of : Text → Text → Option ℕ
fit_of t out = cond (leb (length t) (length out)) (Some (length t)) None

-- The buffer `out` with the text t written over it from index `at` if it fits there; otherwise the buffer unchanged.
unfoldable pub written_if_fits : ℕ → Text → Text → Text
written_if_fits at t out = cond (leb (at + length t) (length out)) (written_at at t out) out
