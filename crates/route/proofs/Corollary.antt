-- The proof of the round-trip requirement (demand 3) for the calls.
use Rattle.std.specs.Prelude.{Result, Ok, Err, ⊤}
use mathlib.Core.Path.{◌≡◌, refl, sym, ap, ◌∙◌}
use mathlib.Core.Logic.{◌↔◌}
use mathlib.Core.Bool.{Bool, true, false, cond}
use mathlib.Core.List.{List, [], ◌∷◌, ◌++◌}
use Prim.Native.Nat.{ℕ, zero, suc, ◌≤◌}
use native.Mathlib.Omega.{arith}
use lib.Dec.{leb}
use lib.ListN.{length, take}
use borrow.Author.Tests.{le-leb, leb-true}
use Rattle.text.specs.Text.{Text}
use Rattle.text.proofs.BoolLaws.{and_l, and_r}
use Rattle.text.proofs.WriteLaws.{read_back}
use Rattle.path_grammar.specs.Own.{has_variant_selection}
use Rattle.path_grammar.specs.Legal.{at_most255}
use Rattle.pair_list.specs.Pair.{no_empty_source}
use Rattle.refusal.specs.declared.Refusal.TheVariants.{NoRoom}
use Rattle.refusal.specs.Outcome.{Outcome, path, refused, outcome_reply, outcome_buffer, require_room, after_checks}
use Rattle.path.specs.Calls.{path_new_call}
use Rattle.validate.specs.Validate.{first_refusal}
use Rattle.validate.proofs.RefusalLaws.{none_earlier}
use Rattle.map_spec.specs.Leg.{SelectionFreePath, PlainRoundTrip}
use Rattle.map_spec.proofs.OutcomeLaws.{no_path_lem}
use Rattle.route_spec.specs.Leg.{Leg, leg_map, leg_ends, outward}
use Rattle.route_spec.specs.Route.{fold_legs, route_ends, run_route}
use Rattle.route_spec.proofs.Theorem.{run_returns, run_next, step_exact}
use Rattle.route_legs.specs.LentRoute.{LentRoute, list_at, leg_at, legs_in, validate_route}
use Rattle.route_legs.proofs.RouteLaws.{route_one_by_one, route_ends_lem, route_short, route_legal}
use Rattle.route.specs.Calls.{route_call}
use Rattle.route.specs.RoundTrip.{first_legs, CallsReturnAlways}
use Rattle.route.proofs.RunBranches.{fold_snoc}
use Rattle.path.proofs.PathLaws.{new_passed}
use Rattle.refusal.specs.declared.Refusal.{Refusal}

-- If a call yields a path, validation passed and the route yields that path.
pub answered_path : (a : Result ⊤ Refusal) (room : ℕ) (o : Outcome) (q : Text) → after_checks a room o ≡ path q → (a ≡ Ok tt) × (255 ≤ room) × (o ≡ path q)
unfolding after_checks require_room
answered_path (Ok tt) room o q e = go (leb 255 room) refl e
  where
    go : (b : Bool) → leb 255 room ≡ b → cond b o (refused NoRoom) ≡ path q → (◌≡◌ {A = Result ⊤ Refusal} (Ok tt) (Ok tt)) × (255 ≤ room) × (o ≡ path q)
    go true h k = (refl, leb-true 255 room h, k)
    go false h k = absurd (no_path_lem k)
answered_path (Err x) room o q e = absurd (no_path_lem e)

path_answered : (a : Result ⊤ Refusal) (room : ℕ) (o : Outcome) → a ≡ Ok tt → 255 ≤ room → after_checks a room o ≡ o
unfolding after_checks require_room
path_answered a room o e h = rw (e, le-leb 255 room h)

-- A reply of n bytes is a path of n bytes at the beginning of the buffer.
written_path : (o : Outcome) (n : ℕ) (mem : Text) → outcome_reply o ≡ Ok n → o ≡ path (take n (outcome_buffer o mem))
unfolding outcome_reply outcome_buffer
written_path (path q) n mem e = let z : length q ≡ n = cc in ap path (rw (← z) (sym (read_back q mem)))
written_path (refused x) n mem e = absurd (let z : ◌≡◌ {A = ℕ} 0 1 = cc in omega arith)

stands : (p mem : Text) → (outcome_reply (path p) ≡ Ok (length p)) × (take (length p) (outcome_buffer (path p) mem) ≡ p)
unfolding outcome_reply outcome_buffer
stands p mem = (refl, read_back p mem)

passes : first_refusal (Ok tt) (Ok tt) ≡ Ok tt
unfolding first_refusal
passes = refl

module _ (r : LentRoute) (p : Text) (plain : has_variant_selection p ≡ false) where
  module _ (h : validate_route r (p ∷ []) ≡ Ok tt) where
    plain_path : SelectionFreePath p
    unfolding at_most255
    plain_path = record { is_legal = route_legal r p h; is_short = le-leb (length p) 255 (route_short r p h); is_plain = plain }

    legs_passed : (validate_route r [] ≡ Ok tt) × (path_new_call p ≡ Ok tt)
    legs_passed = none_earlier (validate_route r []) (path_new_call p) (route_one_by_one r p ∙ h)

  -- The call home on the result of the call out.
  returns : (q : Text) (room after : ℕ) → route_call false r p room ≡ path q → 255 ≤ after → route_call true r q after ≡ path p
  unfolding route_call run_route
  returns q room after e l =
      let w = answered_path (validate_route r (p ∷ [])) room (fold_legs outward (legs_in r r.count) p) q e in
      let c : SelectionFreePath q = run_next (legs_in r r.count) p q (route_ends_lem r (p ∷ []) w.0) (plain_path w.0) w.2 in
      path_answered (validate_route r (q ∷ [])) after (run_route true (legs_in r r.count) q)
      (sym (route_one_by_one r q) ∙ rw ((legs_passed w.0).0, new_passed q c.is_short c.is_legal) passes) l
      ∙ run_returns (legs_in r r.count) p q (route_ends_lem r (p ∷ []) w.0) (plain_path w.0) w.2

-- The first legs of a route are its legs.
first_legs_lem : (r : LentRoute) (k n : ℕ) → legs_in (first_legs r k) n ≡ legs_in r n
unfolding legs_in leg_at list_at
first_legs_lem r k zero = refl
first_legs_lem r k (suc n) = ap (λ (xs : List Leg). xs ++ leg_at r n ∷ []) (first_legs_lem r k n)

last_ends : (xs : List Leg) (x : Leg) → route_ends (xs ++ x ∷ []) ≡ true → leg_ends x ≡ true
unfolding route_ends
last_ends [] x e = and_l (leg_ends x) true e
last_ends (y ∷ xs) x e = last_ends xs x (and_r (leg_ends y) (route_ends (xs ++ x ∷ [])) e)

module _ (r : LentRoute) (p : Text) (plain : has_variant_selection p ≡ false) (k room : ℕ) (t : Text) (e : route_call false (first_legs r k) p room ≡ path t)
    (h : validate_route (first_legs r (suc k)) [] ≡ Ok tt) where
  reached : (validate_route (first_legs r k) (p ∷ []) ≡ Ok tt) × (255 ≤ room) × (fold_legs outward (legs_in r k) p ≡ path t)
  unfolding route_call run_route
  reached = rw (← first_legs_lem r k k) (answered_path (validate_route (first_legs r k) (p ∷ [])) room (fold_legs outward (legs_in (first_legs r k) k) p) t e)

  validated_on : validate_route (first_legs r (suc k)) (p ∷ []) ≡ Ok tt
  validated_on = sym (route_one_by_one (first_legs r (suc k)) p) ∙ rw (h, (legs_passed (first_legs r k) p plain reached.0).1) passes

  one_more : route_call false (first_legs r (suc k)) p room ≡ outward (leg_at r k) t
  unfolding route_call run_route legs_in
  one_more =
      path_answered (validate_route (first_legs r (suc k)) (p ∷ [])) room (run_route false (legs_in (first_legs r (suc k)) (suc k)) p) validated_on reached.1
      ∙ ap (λ (xs : List Leg). fold_legs outward xs p) (first_legs_lem r (suc k) (suc k))
      ∙ fold_snoc outward (legs_in r k) (leg_at r k) p t reached.2

  its_ends : leg_ends (leg_at r k) ≡ true
  unfolding legs_in
  its_ends = last_ends (legs_in r k) (leg_at r k) (rw (← first_legs_lem r (suc k) (suc k)) (route_ends_lem (first_legs r (suc k)) [] h))

  its_path : SelectionFreePath t
  its_path =
      run_next (legs_in r k) p t (rw (← first_legs_lem r k k) (route_ends_lem (first_legs r k) (p ∷ []) reached.0))
      (plain_path (first_legs r k) p plain reached.0) reached.2

  gives_exactly : no_empty_source (leg_map (leg_at r k)).pairs ≡ true → (q : Text)
      → (route_call false (first_legs r (suc k)) p room ≡ path q) ↔ PlainRoundTrip (leg_map (leg_at r k)) t q
  gives_exactly full q = rw one_more (step_exact (leg_at r k) its_ends t q its_path full)

pub calls_return : CallsReturnAlways
calls_return r p plain = record {
  home_again = λ before after n e l q w.
      let o : route_call false r p (length before) ≡ path q = written_path (route_call false r p (length before)) n before e ∙ ap path (sym w) in
      let b : route_call true r q (length after) ≡ path p = returns r p plain q (length before) (length after) o l in
      rw b (stands p after);
  exact = λ k room t e h full q. gives_exactly r p plain k room t e h full q;
}
