-- Meaning: The target part of a path as a plain tail. Requirements: "Mapping treats the bracketed part as plain tail and leaves it."
use Rattle.std.specs.Prelude.{◌≡◌, true, ◌++◌, Option, Some, None}
use Rattle.text.specs.Text.{Text}
use Rattle.path_grammar.specs.Own.{own_part, target_part}
use Rattle.path_grammar.specs.Legal.{legal, is_end}
use Rattle.path_prefix.specs.Prefix.{has_prefix}
use Rattle.path_join.specs.Join.{replace_prefix}

-- The answer for the own part of the path p, then the target part of p; no path if there is no answer.
unfoldable pub followed_by_target : Text → Option Text → Option Text
followed_by_target p None = None
followed_by_target p (Some q) = Some (q ++ target_part p)

-- Theorem (proofs/TailLaws.antt): a legal path has the prefixes, among ends, that its own part has.
abbrev pub PrefixOfOwnPart : Type 0
PrefixOfOwnPart = (p s : Text) → legal p ≡ true → is_end s ≡ true → has_prefix p s ≡ has_prefix (own_part p) s

-- Theorem (proofs/TailLaws.antt): replacing such a prefix replaces that of the own part, and leaves the target part.
abbrev pub ReplaceLeavesTarget : Type 0
ReplaceLeavesTarget =
    (p s t : Text) → legal p ≡ true → is_end s ≡ true → replace_prefix p s t ≡ followed_by_target p (replace_prefix (own_part p) s t)
