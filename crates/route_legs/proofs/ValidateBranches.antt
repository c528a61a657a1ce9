-- Lemmas about the branches of the functions that read and validate legs.
use Rattle.std.specs.Prelude.{Result, Ok, Err, ⊤}
use mathlib.Core.Path.{◌≡◌, refl, sym, ◌∙◌}
use mathlib.Core.Bool.{cond}
use mathlib.Core.List.{List, [], ◌∷◌}
use Prim.Native.Nat.{ℕ, zero, suc, ◌+◌, ◌-◌, ◌*◌, ◌/◌, ◌≤◌, ◌<◌}
use native.Mathlib.Omega.{arith}
use native.Mathlib.Numerals.{add-one}
use lib.ListN.{length, get_or, take, drop, drop_of_length-le, get_or-eq_default}
use borrow.Author.Tests.{le-leb, lt-leb}
use Rattle.text.specs.Text.{Text}
use Rattle.text.proofs.WriteLaws.{rest_whole}
use Rattle.refusal.specs.declared.Refusal.TheVariants.{TooMany}
use Rattle.validate.specs.Validate.{every, first_failed, validate_call, first_refusal}
use Rattle.validate.proofs.RefusalLaws.{list_more}
use Rattle.route_legs.specs.LentRoute.{lent_route, first_at, size_at, list_at, lists_in, present_legs, leg_count_within_limit, validate_route}
use Rattle.route_legs.proofs.RouteLaws.{lists_then_count}
use Rattle.refusal.specs.declared.Refusal.{Refusal}

-- `entry_at`
pub number_gone : (legs : List ℕ) (k j : ℕ) → length legs / 3 < k → 0 ≡ get_or legs (3 * k + j) 0
number_gone legs k j h = sym (get_or-eq_default legs 0 (omega arith))

-- `kind_at`
pub first_number : (legs : List ℕ) (k r : ℕ) → r ≡ get_or legs (3 * k + 0) 0 → r ≡ get_or legs (3 * k) 0
first_number legs k r h = let z : 3 * k + 0 ≡ 3 * k = omega arith in rw z at h

-- `leg_places`
module _ (places : List ℕ) (m n : ℕ) (e : m ≡ n) where
  pub places_gone : length places / 4 < m → [] ≡ drop (4 * n) places
  places_gone h = sym (drop_of_length-le places {i = 4 * n} (omega arith))

  pub places_from : take (length places - 4 * m) (drop (4 * m) places) ≡ drop (4 * n) places
  places_from = rw e (rest_whole places (4 * n))

module _ (legs : List ℕ) (count : ℕ) where
  -- `validate_count`
  abbrev counted : Result ⊤ Refusal
  counted = cond (leg_count_within_limit (lent_route [] [] legs count)) (Ok tt) (Err TooMany)

  pub count_over : 16 < count → Err TooMany ≡ counted
  unfolding leg_count_within_limit
  count_over h = rw (lt-leb count 16 h)

  pub count_beyond : count ≤ 16 → length legs / 3 < count → Err TooMany ≡ counted
  unfolding leg_count_within_limit
  count_beyond h k = rw (le-leb count 16 h, lt-leb count (length legs / 3) k)

  pub count_passed : count ≤ 16 → count ≤ length legs / 3 → (Ok tt) ≡ counted
  unfolding leg_count_within_limit
  count_passed h k = rw (le-leb count 16 h, le-leb count (length legs / 3) k)

pub ruleset reads = (number_gone, first_number)

module _ (store : Text) (places legs : List ℕ) where
  -- `validate_leg`
  pub leg_validated : (k s : ℕ) (part : List ℕ) (q : Result ⊤ Refusal) → part ≡ drop (4 * first_at legs k) places → s ≡ size_at legs k
      → q ≡ validate_call (record { store = store; places = part; count = s } ∷ []) [] [] → q ≡ validate_call (list_at (lent_route store places legs k) k ∷ []) [] []
  unfolding list_at
  leg_validated k s part q e f h = rw (e, f) at h

  -- `validate_leg_lists`
  module _ (n : ℕ) where
    pub lists_none : (Ok tt) ≡ validate_call (lists_in (lent_route store places legs n) 0) [] []
    unfolding lists_in validate_call every first_failed
    lists_none = refl

    pub lists_on : (k : ℕ) (q a b : Result ⊤ Refusal) → q ≡ validate_call (lists_in (lent_route store places legs n) k) [] [] → a ≡ validate_call (list_at (lent_route store places legs k) k ∷ []) [] []
        → b ≡ first_refusal q a → b ≡ validate_call (lists_in (lent_route store places legs n) (k + 1)) [] []
    unfolding lists_in list_at
    lists_on k q a b h i j =
        j ∙ rw (h, i, add-one k) (sym (list_more (lists_in (lent_route store places legs n) k) (list_at (lent_route store places legs n) k)))

    pub lists_end : (k : ℕ) (q : Result ⊤ Refusal) → n ≤ k → k ≤ n → q ≡ validate_call (lists_in (lent_route store places legs n) k) [] [] → q ≡ validate_call (lists_in (lent_route store places legs n) n) [] []
    lists_end k q h i e = let z : k ≡ n = omega arith in rw z at e

  -- `validate_legs`
  lists_same : (m n k : ℕ) → lists_in (lent_route store places legs m) k ≡ lists_in (lent_route store places legs n) k
  unfolding lists_in list_at
  lists_same m n zero = refl
  lists_same m n (suc k) = rw (lists_same m n k) refl

  pub route_validated : (count n : ℕ) (q a r : Result ⊤ Refusal) → n ≡ present_legs (lent_route [] [] legs count) → q ≡ validate_call (lists_in (lent_route store places legs n) n) [] []
      → a ≡ counted legs count → r ≡ first_refusal q a → r ≡ validate_route (lent_route store places legs count) []
  unfolding present_legs leg_count_within_limit
  route_validated count n q a r e h i j =
      j ∙ rw (h, i, e, lists_same (present_legs (lent_route [] [] legs count)) count (present_legs (lent_route [] [] legs count))) (lists_then_count (lent_route store places legs count))
