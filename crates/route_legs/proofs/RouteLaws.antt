-- Lemmas about a route that passed questions 1 to 4.
use Rattle.std.specs.Prelude.{Result, Ok, Err, ⊤}
use mathlib.Core.Path.{◌≡◌, refl, sym, ap, ◌∙◌}
use mathlib.Core.Bool.{Bool, true, false, cond, ◌&&◌}
use mathlib.Core.List.{List, [], ◌∷◌}
use Prim.Native.Nat.{ℕ, zero, suc, ◌/◌, ◌≤◌, ◌<◌}
use native.Mathlib.Omega.{arith}
use native.Mathlib.Decide.{ℕ_discrete}
use lib.Dec.{leb}
use lib.ListN.{length}
use borrow.Author.Tests.{le-leb, leb-true}
use Rattle.text.specs.Text.{Text}
use Rattle.text.proofs.BoolLaws.{and_l, and_r}
use Rattle.path_grammar.specs.Legal.{legal, at_most255, is_end}
use Rattle.pair_list.specs.Pair.{Pair, all_ends}
use Rattle.refusal.specs.declared.Refusal.TheVariants.{TooMany}
use Rattle.refusal.specs.Refusal.{refused_or, all_texts_short, all_texts_legal, validate_texts}
use Rattle.path.specs.Calls.{path_new_call}
use Rattle.validate.specs.Validate.{LentList, pairs_of, list_short, list_all, count_within_limit, every, first_failed, validate_call, first_refusal, ValidList}
use Rattle.validate.proofs.RefusalLaws.{never, none_earlier, each, list_more}
use Rattle.validate.proofs.PassedLaws.{lists_pass, first_sound, text_short, text_legal}
use Rattle.route_spec.specs.Leg.{leg_ends}
use Rattle.route_spec.specs.Route.{route_ends}
use Rattle.route_legs.specs.LentRoute.{LentRoute, kind_at, list_at, leg_of, leg_at, legs_in, lists_in, present_legs, leg_count_within_limit, validate_route}
use Rattle.route_spec.proofs.RouteLaws.{legs_more}
use Rattle.refusal.specs.declared.Refusal.{Refusal}

-- The number of legs is checked last, like the number of pairs.
counted_last : (a b c d t : Bool) → refused_or (first_failed a b c d) Err (cond t (Ok tt) (Err TooMany)) ≡ first_failed a b c (t && d)
unfolding first_failed
counted_last true true true true true = refl
counted_last true true true true false = refl
counted_last true true true false true = refl
counted_last true true true false false = refl
counted_last true true false d t = refl
counted_last true false c d t = refl
counted_last false b c d t = refl

-- The result of validating a route is the earlier refusal of its lists and of its number of legs.
pub lists_then_count : (r : LentRoute) → first_refusal (validate_call (lists_in r (present_legs r)) [] []) (cond (leg_count_within_limit r) (Ok tt) (Err TooMany)) ≡ validate_route r []
unfolding validate_route validate_call every first_failed
lists_then_count r =
    let ls : List LentList = lists_in r (present_legs r) in
    each true true true (leg_count_within_limit r) (every list_short ls) (every (list_all legal) ls) (every (list_all is_end) ls) (every count_within_limit ls)
    ∙ sym (counted_last (every list_short ls) (every (list_all legal) ls) (every (list_all is_end) ls) (every count_within_limit ls) (leg_count_within_limit r))

-- A path given beside the route may be validated separately.
pub route_one_by_one : (r : LentRoute) (p : Text) → first_refusal (validate_route r []) (path_new_call p) ≡ validate_route r (p ∷ [])
unfolding validate_route validate_call path_new_call validate_texts all_texts_short all_texts_legal every first_failed
route_one_by_one r p =
    let ls : List LentList = lists_in r (present_legs r) in
    let f : Bool = every list_short ls in
    let l : Bool = every (list_all legal) ls in
    let e : Bool = every (list_all is_end) ls in
    let c : Bool = every count_within_limit ls in
    ap (λ (q : Result ⊤ Refusal). first_refusal q (path_new_call p)) (counted_last f l e c (leg_count_within_limit r))
    ∙ each (at_most255 p && true) (legal p && true) true true f l e (leg_count_within_limit r && c)
    ∙ sym (counted_last (at_most255 p && true && f) (legal p && true && l) e c (leg_count_within_limit r))

-- A route that passed.
both_passed : (q : Result ⊤ Refusal) (t : Bool) → ◌≡◌ {A = Result ⊤ Refusal} (refused_or q Err (cond t (Ok tt) (Err TooMany))) (Ok tt) → (q ≡ Ok tt) × (t ≡ true)
both_passed (Ok tt) true h = (refl, refl)
both_passed (Ok tt) false h = absurd (never TooMany h)
both_passed (Err x) t h = absurd (never x h)

lists_sound : (r : LentRoute) (n : ℕ) → validate_call (lists_in r n) [] [] ≡ Ok tt → (k : ℕ) → k < n → ValidList (list_at r k)
unfolding lists_in
lists_sound r zero h k l = absurd (omega arith)
lists_sound r (suc n) h k l =
    let p = none_earlier (validate_call (lists_in r n) [] []) (validate_call (list_at r n ∷ []) [] []) (sym (list_more (lists_in r n) (list_at r n)) ∙ h) in
    elim (ℕ_discrete k n) [ yes e ↦ rw e (first_sound (list_at r n) [] [] [] p.1) | no d ↦ lists_sound r n p.0 k (omega arith) ]

module _ (r : LentRoute) (ts : List Text) (h : validate_route r ts ≡ Ok tt) where
  passed : (validate_call (lists_in r (present_legs r)) ts [] ≡ Ok tt) × (leg_count_within_limit r ≡ true)
  unfolding validate_route
  passed = both_passed (validate_call (lists_in r (present_legs r)) ts []) (leg_count_within_limit r) h

  pub route_few : r.count ≤ 16
  unfolding leg_count_within_limit
  route_few = leb-true r.count 16 (and_l (leb r.count 16) (leb r.count (length r.legs / 3)) passed.1)

  pub route_held : r.count ≤ length r.legs / 3
  unfolding leg_count_within_limit
  route_held = leb-true r.count (length r.legs / 3) (and_r (leb r.count 16) (leb r.count (length r.legs / 3)) passed.1)

  all_present : present_legs r ≡ r.count
  unfolding present_legs
  all_present = rw (le-leb r.count (length r.legs / 3) route_held)

  pub route_sound : (k : ℕ) → k < r.count → ValidList (list_at r k)
  route_sound = lists_sound r r.count (rw all_present at (lists_pass (lists_in r (present_legs r)) ts [] passed.0))

-- The ends of its legs are prim paths, `/` or empty.
leg_ends_lem : (kind : ℕ) (l : List Pair) → all_ends l ≡ true → leg_ends (leg_of kind l) ≡ true
unfolding leg_of leg_ends
leg_ends_lem zero l h = h
leg_ends_lem (suc zero) l h = h
leg_ends_lem (suc (suc k)) l h = h

legs_end : (r : LentRoute) (n : ℕ) → ((k : ℕ) → k < n → ValidList (list_at r k)) → route_ends (legs_in r n) ≡ true
unfolding legs_in leg_at route_ends
legs_end r zero s = refl
legs_end r (suc n) s =
    legs_more (legs_in r n) (leg_at r n) (legs_end r n (λ k h. s k (omega arith)))
    (leg_ends_lem (kind_at r.legs n) (pairs_of (list_at r n)) (s n (omega arith)).ends)

pub route_ends_lem : (r : LentRoute) (ts : List Text) → validate_route r ts ≡ Ok tt → route_ends (legs_in r r.count) ≡ true
route_ends_lem r ts h = legs_end r r.count (route_sound r ts h)

-- The path beside it is legal and has at most 255 bytes.
module _ (r : LentRoute) (p : Text) (h : validate_route r (p ∷ []) ≡ Ok tt) where
  pub route_short : length p ≤ 255
  route_short = text_short (lists_in r (present_legs r)) p [] [] (passed r (p ∷ []) h).0

  pub route_legal : legal p ≡ true
  route_legal = text_legal (lists_in r (present_legs r)) p [] [] (passed r (p ∷ []) h).0
