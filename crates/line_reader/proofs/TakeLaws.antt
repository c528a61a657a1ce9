-- Lemmas for the branches of the functions of this crate.
use mathlib.Core.Path.{◌≡◌, refl, sym}
use mathlib.Core.Bool.{Bool, true, false, cond}
use mathlib.Core.List.{[], ◌∷◌}
use Prim.Native.Nat.{ℕ, suc, min, ◌+◌, ◌-◌, ◌≤◌, ◌<◌}
use native.Mathlib.Omega.{arith}
use lib.Dec.{eqb, leb}
use lib.ListN.{length, take}
use lib.Seq.{length-take-le}
use borrow.Author.Tests.{le-leb, lt-leb, leb-true, leb-false, lt-ltb, le-ltb}
use Rattle.std.specs.List.{position_or_len}
use Rattle.std.proofs.lemmas.List.Recursion.{is_position_or_len}
use Rattle.std.proofs.lemmas.Bool.Decides.{nat_tests}
use Rattle.text.specs.Text.{Text, written_if_fits}
use Rattle.line_reader.specs.TakeLine.{newline_index, line_length_after, line_buffer_after, take_line_reply, take_line_buffer}
use Rattle.line_reader.specs.Lines.{line_capacity}

-- The index of the first newline is what `position` finds.
pub newline_position : (s : Text) → newline_index s ≡ position_or_len (λ b. eqb b 10) s
unfolding newline_index
newline_position s = is_position_or_len newline_index (λ b. eqb b 10) refl step s
  where
    step : (b : ℕ) (r : Text) → newline_index (b ∷ r) ≡ cond (eqb b 10) 0 (1 + newline_index r)
    step b r = go (eqb b 10)
      where
        go : (t : Bool) → cond t 0 (suc (newline_index r)) ≡ cond t 0 (1 + newline_index r)
        go true = refl
        go false = omega arith

-- The first newline, or the end, lies within the text.
pub stop_le : (s : Text) → newline_index s ≤ length s
unfolding newline_index
stop_le [] = omega arith
stop_le (b ∷ s) = go (eqb b 10) (stop_le s)
  where
    go : (t : Bool) → newline_index s ≤ length s → cond t 0 (suc (newline_index s)) ≤ suc (length s)
    go true h = omega arith
    go false h = omega arith

-- The lesser of the capacity and the maximum length.
pub most_min : (room : ℕ) → min room 4096 ≡ line_capacity room
unfolding line_capacity
most_min room = grind (arith, nat_tests)

pub most_small : (room : ℕ) → line_capacity room ≤ 4096
unfolding line_capacity
most_small room = go (leb room 4096) refl
  where
    go : (t : Bool) → leb room 4096 ≡ t → cond t room 4096 ≤ 4096
    go true e = leb-true room 4096 e
    go false e = omega arith

-- A line fits in its buffer.
pub most_le : (room : ℕ) → line_capacity room ≤ room
unfolding line_capacity
most_le room = go (leb room 4096) refl
  where
    go : (t : Bool) → leb room 4096 ≡ t → cond t room 4096 ≤ room
    go true e = omega arith
    go false e = omega (arith, leb-false room 4096 e)

-- Lemmas for `append_to_line`.
module _ (room most n : ℕ) (s mem : Text) (e : most ≡ line_capacity room) where
  too_long : most < n + length s → most + 1 ≡ line_length_after (line_capacity room) n (length s)
  unfolding line_length_after
  too_long h = rw (← e, lt-leb (n + length s) most h)

  too_long_kept : most < n + length s → mem ≡ line_buffer_after (line_capacity room) n s mem
  unfolding line_buffer_after
  too_long_kept h = rw (← e, lt-leb (n + length s) most h)

  pub add_overlong : most < n → most + 1 ≡ line_length_after (line_capacity room) n (length s)
  add_overlong h = too_long (omega arith)

  pub overlong_kept : most < n → mem ≡ line_buffer_after (line_capacity room) n s mem
  overlong_kept h = too_long_kept (omega arith)

  module _ (h : n ≤ most) where
    pub add_over : most - n < length s → most + 1 ≡ line_length_after (line_capacity room) n (length s)
    add_over k = too_long (omega arith)

    pub over_kept : most - n < length s → mem ≡ line_buffer_after (line_capacity room) n s mem
    over_kept k = too_long_kept (omega arith)

    pub add_fits : length s ≤ most - n → n + length s ≡ line_length_after (line_capacity room) n (length s)
    unfolding line_length_after
    add_fits k = rw (← e, le-leb (n + length s) most (omega arith))

    pub fits_placed : (mem' : Text) → length s ≤ most - n → mem' ≡ written_if_fits n s mem → mem' ≡ line_buffer_after (line_capacity room) n s mem
    unfolding line_buffer_after
    fits_placed mem' k w = rw (← e, le-leb (n + length s) most (omega arith)) w

pub ruleset adds = (add_overlong, overlong_kept, add_over, over_kept, add_fits, fits_placed)

-- Lemmas for `take_line`.
pub part_length : (block : Text) (k : ℕ) → k ≡ newline_index block → k ≡ length (take k block)
part_length block k e = sym (length-take-le k block (rw e (stop_le block)))

pub taken_memory : (block mem mem' : Text) (len k : ℕ) → k ≡ newline_index block → mem' ≡ line_buffer_after (line_capacity (length mem)) len (take k block) mem
    → mem' ≡ take_line_buffer block len mem
unfolding take_line_buffer
taken_memory block mem mem' len k e w = rw (← e) w

module _ (block : Text) (room len k n : ℕ) (e : k ≡ newline_index block) (f : n ≡ line_length_after (line_capacity room) len (length (take k block))) where
  taken_length : n ≡ line_length_after (line_capacity room) len k
  taken_length = rw (← part_length block k e) at f

  pub taken_line : k < length block → record { used = k + 1; done = true; len = n } ≡ take_line_reply block len room
  unfolding take_line_reply
  taken_line h = rw (← e, lt-ltb k (length block) h, taken_length)

  pub taken_part : length block ≤ k → record { used = length block; done = false; len = n } ≡ take_line_reply block len room
  unfolding take_line_reply
  taken_part h = rw (← e, le-ltb k (length block) h, taken_length)

pub ruleset takes = (part_length, taken_memory, taken_line, taken_part)
