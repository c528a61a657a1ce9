-- Meaning: The three parts of a join.
use Rattle.std.specs.Prelude.{ℕ, ◌+◌, ◌≡◌, length, take, drop}
use Rattle.text.specs.Text.{Text, written}
use Rattle.path_join.specs.Join.{separator_len, separator, body, join}

-- The first n bytes of the buffer `out` are the parts of a join, one after the other: the new prefix t, the separator, and the remainder r without
-- its own leading slash. Each part begins where the lengths of those before it end, and n is the sum of the three lengths. Requirements: "target,
-- separator and the rest without its own leading slash follow one another and their lengths sum to the joined length".
pub record JoinParts (s t r : Text) (n : ℕ) (out : Text) : Type 0 where
  pub prefix_part : take (length t) out ≡ t
  pub separator_part : take (separator_len s t r) (drop (length t) out) ≡ separator s t r
  pub body_part : take (length (body s r)) (drop (length t + separator_len s t r) out) ≡ body s r
  pub lengths : n ≡ length t + separator_len s t r + length (body s r)

-- Theorem (proofs/JoinParts.antt): so it is for every join, over any bytes, written to the beginning of any buffer.
abbrev pub JoinInParts : Type 0
JoinInParts = (s t r out : Text) → JoinParts s t r (length (join s t r)) (written (join s t r) out)
