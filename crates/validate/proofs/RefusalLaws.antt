-- Validating lists and texts one at a time: of their results, the refusal whose question is put first decides.
use Rattle.std.specs.Prelude.{Result, Ok, Err, ⊤}
use mathlib.Core.Path.{◌≡◌, refl, sym, ap, ◌∙◌}
use mathlib.Core.Bool.{Bool, true, false, cond, ◌&&◌}
use mathlib.Core.List.{List, [], ◌∷◌, ◌++◌}
use Prim.Native.Nat.{ℕ}
use native.Mathlib.Omega.{arith}
use lib.Dec.{leb}
use Rattle.text.specs.Text.{Text}
use Rattle.text.proofs.BoolLaws.{and_yes}
use Rattle.path_grammar.specs.Legal.{legal, at_most255, is_end}
use Rattle.refusal.specs.declared.Refusal.{Refusal}
use Rattle.refusal.specs.Refusal.{refusal_rank, all_texts_short, all_texts_legal, validate_texts}
use Rattle.path.specs.Calls.{path_new_call}
use Rattle.validate.specs.Validate.{LentList, list_short, list_all, count_within_limit, every, first_failed, validate_call, first_refusal}

-- A refusal differs from a passed validation.
pub never : (x : Refusal) → ◌≡◌ {A = Result ⊤ Refusal} (Err x) (Ok tt) → ⊥
never x h = let z : ◌≡◌ {A = ℕ} 0 1 = cc in omega arith

-- If the combined result is no refusal, both results passed.
pub none_earlier : (a b : Result ⊤ Refusal) → first_refusal a b ≡ Ok tt → (a ≡ Ok tt) × (b ≡ Ok tt)
unfolding first_refusal
none_earlier (Ok tt) b h = (refl, h)
none_earlier (Err x) (Ok tt) h = absurd (never x h)
none_earlier (Err x) (Err y) h = absurd (go (leb (refusal_rank x) (refusal_rank y)) h)
  where
    go : (t : Bool) → ◌≡◌ {A = Result ⊤ Refusal} (cond t (Err x) (Err y)) (Ok tt) → ⊥
    go true k = never x k
    go false k = never y k

-- Combining a result with one that passed leaves it unchanged.
one_passed : (a : Result ⊤ Refusal) → first_refusal a (Ok tt) ≡ a
unfolding first_refusal
one_passed (Ok tt) = refl
one_passed (Err x) = refl

-- Validating two things yields, of the two results, the refusal whose question is put first.
pub each : (a b c d f l e k : Bool) → first_refusal (first_failed f l e k) (first_failed a b c d) ≡ first_failed (a && f) (b && l) (c && e) (d && k)
unfolding first_refusal first_failed
each true true true true f l e k = one_passed (first_failed f l e k)
each true true true false true true true true = refl
each true true true false true true true false = refl
each true true true false true true false k = refl
each true true true false true false e k = refl
each true true true false false l e k = refl
each true true false d true true true true = refl
each true true false d true true true false = refl
each true true false d true true false k = refl
each true true false d true false e k = refl
each true true false d false l e k = refl
each true false c d true true true true = refl
each true false c d true true true false = refl
each true false c d true true false k = refl
each true false c d true false e k = refl
each true false c d false l e k = refl
each false b c d true true true true = refl
each false b c d true true true false = refl
each false b c d true true false k = refl
each false b c d true false e k = refl
each false b c d false l e k = refl

-- A text together with lists.
pub one_by_one : (ls : List LentList) (p : Text) → first_refusal (validate_call ls [] []) (path_new_call p) ≡ validate_call ls (p ∷ []) []
unfolding validate_call path_new_call validate_texts all_texts_short all_texts_legal every first_failed
one_by_one ls p =
    each (at_most255 p && true) (legal p && true) true true (every list_short ls) (every (list_all legal) ls) (every (list_all is_end) ls) (every count_within_limit ls)

-- One more list.
every_more : {A : Type 0} (f : A → Bool) (xs : List A) (x : A) → every f (xs ++ x ∷ []) ≡ (every f (x ∷ []) && every f xs)
unfolding every
every_more f [] x = sym (and_yes (f x && true))
every_more f (y ∷ xs) x = ap (λ (b : Bool). f y && b) (every_more f xs x) ∙ swap (f y) (f x && true) (every f xs)
  where
    swap : (a b c : Bool) → (a && (b && c)) ≡ (b && (a && c))
    swap true b c = refl
    swap false true c = refl
    swap false false c = refl

pub list_more : (ls : List LentList) (l : LentList) → validate_call (ls ++ l ∷ []) [] [] ≡ first_refusal (validate_call ls [] []) (validate_call (l ∷ []) [] [])
unfolding validate_call
list_more ls l =
    rw (every_more list_short ls l, every_more (list_all legal) ls l, every_more (list_all is_end) ls l, every_more count_within_limit ls l)
    (sym (each (every list_short (l ∷ [])) (every (list_all legal) (l ∷ [])) (every (list_all is_end) (l ∷ [])) (every count_within_limit (l ∷ [])) (every list_short ls) (every (list_all legal) ls) (every (list_all is_end) ls) (every count_within_limit ls)))
