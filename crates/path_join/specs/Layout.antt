-- Method: How the code computes the layout of a join: from the lengths of the texts and the bytes at their ends, by tests that become numbers.
use Rattle.std.specs.Prelude.{ℕ, ◌-◌, ◌≤◌, ◌≡◌, Bool, not, cond, ◌&&◌, length, get_or, drop}
use Rattle.text.specs.Text.{Text}
use Rattle.path_join.specs.Join.{separator_len, body}

-- A test as a number: 1 if it holds, otherwise 0.
unfoldable pub as_number : Bool → ℕ
as_number b = cond b 1 0

-- The first byte; 0 for the empty text.
unfoldable pub first_byte : Text → ℕ
first_byte s = get_or s 0 0

-- The last byte; 0 for the empty text.
unfoldable pub last_byte : Text → ℕ
last_byte s = get_or s (length s - 1) 0

-- The length of the separator, by the tests that decide it: there is a remainder, the old prefix is `/`, the new one is `/`, the remainder is a
-- child, and a child follows the new prefix directly.
unfoldable pub separator_by : Bool → Bool → Bool → Bool → Bool → ℕ
unfolding as_number
separator_by follows oldIsRoot newIsRoot child direct = as_number (follows && cond oldIsRoot (not newIsRoot) (child && not direct))

-- The numbers k and i lay out the join of s, t and r: k is the length of the separator, and the remainder begins at index i without its own leading
-- slash.
pub record LaysOut (s t r : Text) (k i : ℕ) : Type 0 where
  pub separator_is : k ≡ separator_len s t r
  pub separator_short : k ≤ 1
  pub body_is : drop i r ≡ body s r
  pub body_inside : i ≤ length r
