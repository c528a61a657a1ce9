-- Meaning: Prefix replacement: the new prefix, a separator, and the remainder without its own leading slash. OpenUSD: SdfPath::ReplacePrefix; unlike
-- there, a path without the prefix yields no path here.
use Rattle.std.specs.Prelude.{ℕ, ◌≡◌, Bool, true, false, not, cond, ◌&&◌, ◌||◌, [], ◌∷◌, ◌++◌, eqb, length, take, drop, Option, Some, None}
use Prim.Native.String.{String}
use Rattle.text.specs.Text.{Text, bytes, is_nil, strip_prefix, ends_with_byte}
use Rattle.text.specs.Bytes.{close_brace, dot, open_brace, slash}
use Rattle.path_grammar.specs.Legal.{is_root, is_name_byte, legal, is_end}
use Rattle.path_prefix.specs.Prefix.{can_follow}

-- The remainder after s, which begins with byte a, is a child prim: it begins with a slash, or it is a name directly after a selection.
unfoldable pub is_child : Text → ℕ → Bool
unfolding ends_with_byte is_name_byte
is_child s a = eqb a slash || ends_with_byte close_brace s && is_name_byte a

-- A child prim is appended to t without a slash: `/` already ends in one, and after a selection there is none.
unfoldable pub ends_with_separator : Text → Bool
unfolding ends_with_byte
ends_with_separator t = is_root t || ends_with_byte close_brace t

-- The length, 0 or 1, of the separator between the new prefix t and the remainder r that followed the old prefix s. Requirements: "write the
-- separator's length as a number, 0 or 1". `SeparatorExamples` below has an example for each clause.
unfoldable pub separator_len : Text → Text → Text → ℕ
unfolding is_child ends_with_separator
-- An empty remainder needs no separator.
separator_len s t [] = 0
separator_len s t (a ∷ r) =
    -- After the old prefix `/` the remainder is a name without a slash: it needs one, unless the new prefix is `/` too.
    cond (is_root s) (cond (is_root t) 0 1)
    -- A property or a selection follows any prefix directly.
    (cond (not (is_child s a)) 0
    -- A child follows `/`, or a prefix that ends in `}`, directly.
    (cond (ends_with_separator t) 0
    -- Any other child follows a slash.
    1))

-- The separator: that many bytes of a slash.
unfoldable pub separator : Text → Text → Text → Text
unfolding separator_len
separator s t r = take (separator_len s t r) (slash ∷ [])

-- The remainder after s without its own leading slash; after `/` it has none.
unfoldable pub body : Text → Text → Text
body s [] = []
body s (a ∷ r) = cond (not (is_root s) && eqb a slash) r (a ∷ r)

-- The new prefix t followed by the remainder r, which followed the old prefix s.
unfoldable pub join : Text → Text → Text → Text
unfolding separator body
join s t r = t ++ (separator s t r ++ body s r)

-- The joined text if there is a remainder and it may follow s; otherwise none.
abbrev pub join_some : Text → Text → Option Text → Option Text
unfolding can_follow join
join_some s t None = None
join_some s t (Some r) = cond (can_follow s r) (Some (join s t r)) None

-- The path p with its prefix s replaced by t; none if s is not a prefix of p (Rust: replace_prefix).
unfoldable pub replace_prefix : Text → Text → Text → Option Text
unfolding strip_prefix join_some
replace_prefix p s t = join_some s t (strip_prefix s p)

-- The path p with its prefix s replaced by t is q, and the separator has length k.
abbrev pub Replaces : String → String → String → ℕ → String → Type 0
Replaces p s t k q =
    (separator_len (bytes s) (bytes t) (drop (length (bytes s)) (bytes p)) ≡ k) × (replace_prefix (bytes p) (bytes s) (bytes t) ≡ Some (bytes q))

-- Worked examples (proofs/JoinParts.antt): one for each clause of `separator_len`, and the empty old prefix, which is not `/`.
pub record SeparatorExamples : Type 0 where
  pub exact_match : Replaces "/A" "/A" "/C" 0 "/C"
  -- Below `/` a slash is needed even after a selection, where no name may follow it: question 8 refuses the joined text.
  pub below_root : Replaces "/B" "/" "/C{v=p}" 1 "/C{v=p}/B"
  pub below_root_illegal : legal (bytes "/C{v=p}/B") ≡ false
  pub property : Replaces "/A.b" "/A" "/C" 0 "/C.b"
  pub child_of_selection : Replaces "/A/B" "/A" "/C{v=p}" 0 "/C{v=p}B"
  pub child_of_prim : Replaces "/A{v=p}B" "/A{v=p}" "/C" 1 "/C/B"
  pub empty_prefix : Replaces "/A/B" "" "/X" 1 "/X/A/B"

-- The remainder begins with `.` or `{`, a suffix that attaches without a slash.
unfoldable pub starts_suffix : Text → Bool
starts_suffix [] = false
starts_suffix (a ∷ r) = eqb a dot || eqb a open_brace

-- The joined path would be illegal: a remainder that begins with `.` or `{` cannot follow `/` or the empty path.
unfoldable pub join_illegal : Text → Text → Bool
unfolding starts_suffix
join_illegal t r = (is_nil t || is_root t) && starts_suffix r

-- Theorem (proofs/JoinLegal.antt): for a legal path and ends s and t, s not empty, the joined path is legal exactly if `join_illegal` does not
-- hold. So the code need not scan the joined path again.
abbrev pub JoinLegal : Type 0
JoinLegal =
    (s t r : Text) → legal (s ++ r) ≡ true → is_end s ≡ true → is_nil s ≡ false → is_end t ≡ true → can_follow s r ≡ true
    → legal (join s t r) ≡ not (join_illegal t r)
