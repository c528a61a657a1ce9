-- Method: Copying a path from a scratch buffer to the lent buffer.
use Rattle.std.specs.Prelude.{ℕ, ◌≤◌, take, Result, Ok, Err}
use Rattle.text.specs.Text.{Text, written_if_fits}
use Rattle.refusal.specs.declared.Refusal.{Refusal}

-- The reply states no more bytes than the scratch buffer has.
abbrev pub reply_within : Result ℕ Refusal → ℕ → Type 0
reply_within (Ok n) k = n ≤ k
reply_within (Err x) k = Unit {0}

-- The lent buffer after the copy; unchanged for a refusal.
abbrev pub copied_out : Result ℕ Refusal → Text → Text → Text
copied_out (Ok n) made out = written_if_fits 0 (take n made) out
copied_out (Err x) made out = out
