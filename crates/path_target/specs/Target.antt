-- Meaning: The target of a path: the path in its brackets, and the path with another target in its place. Defined for any bytes: the brackets are
-- the first `[` and the `]` that is balanced with it. In a legal path that `]` is the last byte.
use Rattle.std.specs.Prelude.{ℕ, suc, ◌+◌, ◌-◌, Bool, cond, [], ◌∷◌, ◌++◌, eqb, leb, ltb, length, take, drop, Result, Ok, Err, Option, Some, None}
use Rattle.text.specs.Text.{Text, written_if_fits}
use Rattle.text.specs.Bytes.{close_bracket, open_bracket}
use Rattle.path_grammar.specs.Own.{own_part, target_part}
use Rattle.refusal.specs.declared.Refusal.{Refusal}
use Rattle.refusal.specs.declared.Refusal.TheVariants.{MadeTooLong, NoPath}

-- The number of brackets that are open after the byte a, if d are open before it.
unfoldable pub bracket_depth : ℕ → ℕ → ℕ
bracket_depth d a = cond (eqb a open_bracket) (suc d) (cond (eqb a close_bracket) (d - 1) d)

-- The number of bytes before the first byte after which no bracket is open, if d are open before the text; the length of the text if there is
-- none. In a text that begins with `[`, that byte is the `]` which is balanced with it.
unfoldable pub close_len : ℕ → Text → ℕ
unfolding bracket_depth
close_len d [] = 0
close_len d (a ∷ r) = cond (eqb (bracket_depth d a) 0) 0 (suc (close_len (bracket_depth d a) r))

-- The index of the closing `]` in the target part of a path.
unfoldable pub closed_at : Text → ℕ
unfolding close_len target_part
closed_at p = close_len 0 (target_part p)

-- The path has a target: it has a `[`, and a `]` that is balanced with it.
unfoldable pub has_target : Text → Bool
unfolding closed_at
has_target p = ltb (closed_at p) (length (target_part p))

-- The indices of the first `[` and of the `]` that is balanced with it (Rust: target_brackets).
unfoldable pub target_brackets : Text → Option (ℕ × ℕ)
unfolding has_target closed_at own_part
target_brackets p = cond (has_target p) (Some (length (own_part p), length (own_part p) + closed_at p)) None

-- The target of a path: the text between its brackets; none if it has no brackets (Rust: embedded_target). Requirements: "Port `embedded_target`
-- and `replace_embedded_target`."
unfoldable pub embedded_target : Text → Option Text
unfolding has_target closed_at target_part
embedded_target p = cond (has_target p) (Some (drop 1 (take (closed_at p) (target_part p)))) None

-- The text, or the empty text if there is none.
abbrev pub or_empty : Option Text → Text
or_empty None = []
or_empty (Some t) = t

-- The path p with its target replaced by t; none if p has no brackets (Rust: replace_embedded_target). Requirements: "Port `embedded_target` and
-- `replace_embedded_target`."
unfoldable pub replace_embedded_target : Text → Text → Option Text
unfolding has_target closed_at own_part target_part
replace_embedded_target p t = cond (has_target p) (Some (own_part p ++ (open_bracket ∷ (t ++ drop (closed_at p) (target_part p))))) None

-- The reply of a function that writes such a path to the buffer `out`, if there is one and it fits.
unfoldable pub replaced_reply : Option Text → Text → Result ℕ Refusal
replaced_reply None out = (Err NoPath)
replaced_reply (Some q) out = cond (leb (length q) (length out)) (Ok (length q)) (Err MadeTooLong)

-- The buffer afterwards: unchanged if there is no such path or it does not fit.
unfoldable pub replaced_buffer : Option Text → Text → Text
unfolding written_if_fits
replaced_buffer None out = out
replaced_buffer (Some q) out = written_if_fits 0 q out
