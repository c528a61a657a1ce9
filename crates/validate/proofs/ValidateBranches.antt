-- Lemmas about ends that are legal, and about lists and texts that a call does not have.
use mathlib.Core.Path.{◌≡◌, refl, sym}
use mathlib.Core.Bool.{Bool, true, false, not, ◌&&◌, ◌||◌}
use mathlib.Core.List.{List, [], ◌∷◌}
use Prim.Native.Nat.{ℕ, zero, suc, ◌/◌}
use native.Mathlib.Omega.{arith}
use lib.ListN.{length}
use borrow.Author.Tests.{le-leb}
use Rattle.text.specs.Text.{Text}
use Rattle.text.proofs.BoolLaws.{and_l, and_r}
use Rattle.path_grammar.specs.Legal.{legal, at_most255, is_end}
use Rattle.path_grammar.proofs.LegalLaws.{end_legal}
use Rattle.text_list.specs.Places.{text_at}
use Rattle.pair_list.specs.Places.{places_short, places_all}
use Rattle.validate.specs.Validate.{LentList, lent_list, present_places, list_short, list_all, count_within_limit, every, validate_call}

-- If a list has only ends, its texts are legal.
ends_legal : (store : Text) (places : List ℕ) (n : ℕ) → places_all is_end store places n ≡ true → places_all legal store places n ≡ true
unfolding places_all
ends_legal store places zero h = refl
ends_legal store places (suc n) h =
    rw (ends_legal store places n (and_l (places_all is_end store places n) (is_end (text_at store places n)) h))
    (end_legal (text_at store places n) (and_r (places_all is_end store places n) (is_end (text_at store places n)) h))

pub legal_if_ends : (l : LentList) (e f : Text) (a : Bool) → a ≡ (every is_end (e ∷ f ∷ []) && list_all is_end l) → (not a || list_all legal l) ≡ true
unfolding list_all
legal_if_ends l e f a h = go a h
  where
    go : (b : Bool) → b ≡ (every is_end (e ∷ f ∷ []) && list_all is_end l) → (not b || list_all legal l) ≡ true
    go true h = ends_legal l.store l.places (present_places l) (and_r (every is_end (e ∷ f ∷ [])) (list_all is_end l) (sym h))
    go false h = refl

-- A text that a call does not have is empty.
pub validate_one : (l : LentList) (p e : Text) → e ≡ [] → validate_call (l ∷ []) (p ∷ e ∷ []) (e ∷ e ∷ []) ≡ validate_call (l ∷ []) (p ∷ []) []
unfolding validate_call every at_most255 legal is_end
validate_one l p e h = rw h refl

pub validate_none : (l : LentList) (e : Text) → e ≡ [] → validate_call (l ∷ []) (e ∷ e ∷ []) (e ∷ e ∷ []) ≡ validate_call (l ∷ []) [] []
unfolding validate_call every at_most255 legal is_end
validate_none l e h = rw h refl

-- A list that a call does not have is empty.
pub validate_empty : (store : Text) (places : List ℕ) (ts es : List Text) → validate_call (lent_list store places 0 ∷ []) ts es ≡ validate_call [] ts es
unfolding validate_call every list_short list_all count_within_limit present_places places_short places_all
validate_empty store places ts es = rw (le-leb 0 (length places / 4) (omega arith)) refl
