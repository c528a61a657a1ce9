-- Properties of lists and texts that passed questions 1 to 4.
use Rattle.std.specs.Prelude.{Ok}
use mathlib.Core.Path.{◌≡◌, refl}
use mathlib.Core.Bool.{Bool, true, false, ◌&&◌}
use mathlib.Core.List.{List, [], ◌∷◌}
use Prim.Native.Nat.{ℕ, ◌*◌, ◌/◌, ◌≤◌}
use native.Mathlib.Omega.{arith}
use lib.Dec.{leb}
use lib.ListN.{length}
use borrow.Author.Tests.{le-leb, leb-true}
use Rattle.text.specs.Text.{Text}
use Rattle.text.proofs.BoolLaws.{and_l, and_r}
use Rattle.path_grammar.specs.Legal.{legal, at_most255, is_end}
use Rattle.pair_list.specs.Pair.{all_short, all_ends}
use Rattle.pair_list.proofs.PlaceLaws.{every_pair_in, fit_texts}
use Rattle.validate.specs.Validate.{LentList, ValidList, present_places, list_short, list_all, count_within_limit, every, first_failed, validate_call}

all_yes : (a b c d : Bool) → first_failed a b c d ≡ Ok tt → (a ≡ true) × (b ≡ true) × (c ≡ true) × (d ≡ true)
unfolding first_failed
all_yes true true true true h = (refl, refl, refl, refl)
all_yes true true true false h = absurd (let z : ◌≡◌ {A = ℕ} 0 1 = cc in omega arith)
all_yes true true false d h = absurd (let z : ◌≡◌ {A = ℕ} 0 1 = cc in omega arith)
all_yes true false c d h = absurd (let z : ◌≡◌ {A = ℕ} 0 1 = cc in omega arith)
all_yes false b c d h = absurd (let z : ◌≡◌ {A = ℕ} 0 1 = cc in omega arith)

present_all : (l : LentList) → l.count ≤ length l.places / 4 → present_places l ≡ 2 * l.count
unfolding present_places
present_all l h = rw (le-leb l.count (length l.places / 4) h)

valid : (l : LentList) → list_short l ≡ true → list_all is_end l ≡ true → count_within_limit l ≡ true → ValidList l
unfolding list_short list_all count_within_limit all_ends all_short
valid l f e c =
    let held : l.count ≤ length l.places / 4 = leb-true l.count (length l.places / 4) (and_r (leb l.count 64) (leb l.count (length l.places / 4)) c) in
    record {
      few = leb-true l.count 64 (and_l (leb l.count 64) (leb l.count (length l.places / 4)) c);
      held = held;
      ends = every_pair_in l.store l.places is_end l.count (rw (← present_all l held) e);
      shorts = every_pair_in l.store l.places at_most255 l.count (fit_texts l.store l.places (2 * l.count) (rw (← present_all l held) f));
    }

module _ (ls : List LentList) (ts es : List Text) (h : validate_call ls ts es ≡ Ok tt) where
  answers : (every at_most255 ts && every list_short ls ≡ true) × (every legal ts && every (list_all legal) ls ≡ true)
      × (every is_end es && every (list_all is_end) ls ≡ true) × (every count_within_limit ls ≡ true)
  unfolding validate_call
  answers = all_yes (every at_most255 ts && every list_short ls) (every legal ts && every (list_all legal) ls) (every is_end es && every (list_all is_end) ls) (every count_within_limit ls) h

  short_lists : every list_short ls ≡ true
  short_lists = and_r (every at_most255 ts) (every list_short ls) answers.0

  end_lists : every (list_all is_end) ls ≡ true
  end_lists = and_r (every is_end es) (every (list_all is_end) ls) answers.2

  short_texts : every at_most255 ts ≡ true
  short_texts = and_l (every at_most255 ts) (every list_short ls) answers.0

  legal_texts : every legal ts ≡ true
  legal_texts = and_l (every legal ts) (every (list_all legal) ls) answers.1

  end_texts : every is_end es ≡ true
  end_texts = and_l (every is_end es) (every (list_all is_end) ls) answers.2

  counted_lists : every count_within_limit ls ≡ true
  counted_lists = answers.3

  -- The lists also pass without the texts.
  pub lists_pass : validate_call ls [] [] ≡ Ok tt
  unfolding validate_call every first_failed
  lists_pass = rw (short_lists, and_r (every legal ts) (every (list_all legal) ls) answers.1, end_lists, counted_lists) refl

module _ {A : Type 0} (f : A → Bool) (x : A) (xs : List A) (h : every f (x ∷ xs) ≡ true) where
  head_passes : f x ≡ true
  unfolding every
  head_passes = and_l (f x) (every f xs) h

  tail_passes : every f xs ≡ true
  unfolding every
  tail_passes = and_r (f x) (every f xs) h

-- The first list, the second, and the texts of a call that passed.
module _ (l : LentList) (ls : List LentList) (ts es : List Text) (h : validate_call (l ∷ ls) ts es ≡ Ok tt) where
  pub first_sound : ValidList l
  first_sound =
      valid l (head_passes list_short l ls (short_lists (l ∷ ls) ts es h)) (head_passes (list_all is_end) l ls (end_lists (l ∷ ls) ts es h))
      (head_passes count_within_limit l ls (counted_lists (l ∷ ls) ts es h))

pub second_sound : (k l : LentList) (ls : List LentList) (ts es : List Text) → validate_call (k ∷ l ∷ ls) ts es ≡ Ok tt → ValidList l
second_sound k l ls ts es h =
    valid l (head_passes list_short l ls (tail_passes list_short k (l ∷ ls) (short_lists (k ∷ l ∷ ls) ts es h)))
    (head_passes (list_all is_end) l ls (tail_passes (list_all is_end) k (l ∷ ls) (end_lists (k ∷ l ∷ ls) ts es h)))
    (head_passes count_within_limit l ls (tail_passes count_within_limit k (l ∷ ls) (counted_lists (k ∷ l ∷ ls) ts es h)))

module _ (ls : List LentList) (p : Text) (ts es : List Text) (h : validate_call ls (p ∷ ts) es ≡ Ok tt) where
  pub text_short : length p ≤ 255
  unfolding at_most255
  text_short = leb-true (length p) 255 (head_passes at_most255 p ts (short_texts ls (p ∷ ts) es h))

  pub text_legal : legal p ≡ true
  text_legal = head_passes legal p ts (legal_texts ls (p ∷ ts) es h)

pub text_end_lem : (ls : List LentList) (ts : List Text) (e : Text) (es : List Text) → validate_call ls ts (e ∷ es) ≡ Ok tt → is_end e ≡ true
text_end_lem ls ts e es h = head_passes is_end e es (end_texts ls ts (e ∷ es) h)

pub second_end : (ls : List LentList) (ts : List Text) (d e : Text) (es : List Text) → validate_call ls ts (d ∷ e ∷ es) ≡ Ok tt → is_end e ≡ true
second_end ls ts d e es h = head_passes is_end e es (tail_passes is_end d (e ∷ es) (end_texts ls ts (d ∷ e ∷ es) h))

pub second_short : (ls : List LentList) (p q : Text) (ts es : List Text) → validate_call ls (p ∷ q ∷ ts) es ≡ Ok tt → length q ≤ 255
unfolding at_most255
second_short ls p q ts es h = leb-true (length q) 255 (head_passes at_most255 q ts (tail_passes at_most255 p (q ∷ ts) (short_texts ls (p ∷ q ∷ ts) es h)))

-- A list may be validated together with an empty path, which passes every question.
pub empty_validated : (l : LentList) → validate_call (l ∷ []) ([] ∷ []) [] ≡ validate_call (l ∷ []) [] []
unfolding validate_call every at_most255 legal
empty_validated l = refl
