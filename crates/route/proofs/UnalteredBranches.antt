-- Lemmas about the number of unaltered bytes in the functions that map a path over legs.
use Rattle.std.specs.Prelude.{Result, Ok, Err, Option}
use mathlib.Core.Path.{◌≡◌, refl, sym, ap, ◌∙◌}
use mathlib.Core.Bool.{Bool, true, false}
use mathlib.Core.List.{List, [], ◌∷◌, ◌++◌, reverse, reverse-append}
use Prim.Native.Nat.{ℕ, suc, ◌+◌, ◌-◌, ◌≤◌, ◌<◌, min}
use native.Mathlib.Omega.{arith}
use lib.ListN.{length, take}
use Rattle.text.specs.Text.{Text, written_if_fits}
use Rattle.refusal.specs.declared.Refusal.{Refusal}
use Rattle.refusal.specs.Outcome.{Outcome, path, refused, outcome_reply, ReturnsPath}
use Rattle.path_rest.specs.Rest.{rest_text}
use Rattle.path_rest.specs.Carried.{reply_of, carried_rest, ReturnsCarried}
use Rattle.path_rest.proofs.CarriedLaws.{without_rest, known_rest}
use Rattle.map_spec.specs.Map.{Map}
use Rattle.map_apply.specs.Fast.{plain_rest}
use Rattle.route_spec.specs.Route.{and_then, fold_legs}
use Rattle.route_spec.specs.Rest.{next_length, unaltered_length}
use Rattle.route_legs.specs.LentRoute.{LentRoute, lent_route, list_at, map_at}
use Rattle.route.specs.declared.Run.{Run}
use Rattle.route.specs.Fast.{leg_fast, maps_in, run_route_fast, HoldsOutcome}
use Rattle.route.specs.Unaltered.{rest_length, unaltered_fast, HoldsRun}
use Rattle.route.proofs.RunBranches.{written_refused, over_refused, over_inside, over_written, holds_path}

-- `run_legs`: the leg's reply, and the length of the rest that it tells.
module _ (home : Bool) (m : Map) (p buf made : Text) (c : Result (ℕ × Option ℕ) Refusal) (w : ReturnsCarried (leg_fast home m p) (plain_rest home m p) c buf made)
    (r : Result ℕ Refusal) (e : r ≡ reply_of c) (t : Text) (d : t ≡ rest_text p (carried_rest c)) where
  replied : ReturnsPath (leg_fast home m p) r buf made
  replied = without_rest (leg_fast home m p) (plain_rest home m p) c r buf made e w

  rest_told : (n : ℕ) → r ≡ Ok n → length t ≡ rest_length home m p
  unfolding rest_length
  rest_told n k =
      ap length (d ∙ ap (rest_text p) (known_rest (outcome_reply (leg_fast home m p)) (plain_rest home m p) c w.0 n (sym e ∙ k)))

  pub run_over_refused : (x : Refusal) → r ≡ Err x → (mem : Text) → HoldsRun (leg_fast home m p) (rest_length home m p) (record { reply = r; unaltered = length t }) mem
  run_over_refused x k mem = record { outcome = over_refused (leg_fast home m p) r mem replied.0 x k; unaltered_is = rest_told }

  module _ (n : ℕ) (k : r ≡ Ok n) where
    pub run_over_inside : n ≤ length made
    run_over_inside = over_inside home m p buf made r replied n k

    pub run_over_written : (here here' : Text) → length here ≡ 255 → here' ≡ written_if_fits 0 (take n made) here
        → HoldsRun (leg_fast home m p) (rest_length home m p) (record { reply = Ok n; unaltered = length t }) here'
    run_over_written here here' l g = record {
      outcome = over_written home m p buf made r replied n k here here' l g;
      unaltered_is = λ j e. rest_told n k;
    }

-- A run that was refused holds whatever is said of unaltered bytes.
pub refused_run : (o : Outcome) (n : ℕ) (r : Run) (mem : Text) (x : Refusal) → HoldsOutcome o r.reply mem → r.reply ≡ Err x → HoldsRun o n r mem
refused_run o n r mem x h e = record { outcome = h; unaltered_is = λ m k. absurd (written_refused m x (sym k ∙ e)) }

-- One more leg at the end.
unaltered_snoc : {A : Type 0} (go : A → Text → Outcome) (rest : A → Text → Option ℕ) (xs : List A) (x : A) (n : ℕ) (p q t : Text) → fold_legs go xs p ≡ path q → go x q ≡ path t
    → unaltered_length go rest (xs ++ x ∷ []) n p ≡ min (unaltered_length go rest xs n p) (length (rest_text q (rest x q)))
unfolding fold_legs unaltered_length
unaltered_snoc go rest [] x n p q t e h = let z : p ≡ q = cc in rw (z, h)
unaltered_snoc {A} go rest (y ∷ xs) x n p q t e h = by (go y p) e (λ s. unaltered_snoc go rest xs x (min n (length (rest_text p (rest y p)))) s q t)
  where
    fewer : ℕ
    fewer = min n (length (rest_text p (rest y p)))

    by : (o : Outcome) → and_then (fold_legs go xs) o ≡ path q
        → ((s : Text) → fold_legs go xs s ≡ path q → go x q ≡ path t
        → unaltered_length go rest (xs ++ x ∷ []) fewer s ≡ min (unaltered_length go rest xs fewer s) (length (rest_text q (rest x q))))
        → next_length (unaltered_length go rest (xs ++ x ∷ []) fewer) o ≡ min (next_length (unaltered_length go rest xs fewer) o) (length (rest_text q (rest x q)))
    by (path s) k ih = ih s k h
    by (refused z) k ih = absurd (let v : ◌≡◌ {A = ℕ} 0 1 = cc in omega arith)

module _ (store : Text) (places legs : List ℕ) (n : ℕ) where
  abbrev route : ℕ → LentRoute
  route k = lent_route store places legs k

  -- `run_out`
  abbrev pub after : ℕ → ℕ → Text → ℕ
  after k len p = unaltered_length (leg_fast false) (plain_rest false) (maps_in (route n) k) len p

  pub out_first : (len : ℕ) (p : Text) → after 0 len p ≡ len
  unfolding maps_in unaltered_length
  out_first len p = refl

  pub out_fewer : (len : ℕ) (p : Text) (k at : ℕ) (here : Text) → fold_legs (leg_fast false) (maps_in (route n) k) p ≡ path (take at here) → (u : ℕ) → after k len p ≡ u
      → (r : Run) (here' : Text) → HoldsRun (leg_fast false (map_at (route k) k) (take at here)) (rest_length false (map_at (route k) k) (take at here)) r here'
      → (m : ℕ) → r.reply ≡ Ok m → (u' : ℕ) → u' ≡ min u r.unaltered → after (k + 1) len p ≡ u'
  unfolding maps_in map_at list_at rest_length
  out_fewer len p k at here e u f r here' h m w u' g =
      let z : k + 1 ≡ suc k = omega arith in
      let made : leg_fast false (map_at (route n) k) (take at here) ≡ path (take m here') = holds_path (leg_fast false (map_at (route k) k) (take at here)) r.reply here' h.outcome m w in
      rw (z, g, ← f, h.unaltered_is m w) (unaltered_snoc (leg_fast false) (plain_rest false) (maps_in (route n) k) (map_at (route n) k) len p (take at here) (take m here') e made)

  pub out_all : (len : ℕ) (p : Text) (k at : ℕ) (here : Text) (u : ℕ) → n ≤ k → k ≤ n → after k len p ≡ u → HoldsOutcome (run_route_fast false (route n) n p) (Ok at) here
      → HoldsRun (run_route_fast false (route n) n p) (unaltered_fast false (route n) n len p) (record { reply = Ok at; unaltered = u }) here
  unfolding unaltered_fast
  out_all len p k at here u a b f h = let z : k ≡ n = omega arith in record { outcome = h; unaltered_is = λ m w. sym (rw z at f) }

  -- `run_home`: the remainder of the route leaves what the whole route leaves.
  abbrev pub before : ℕ → ℕ → Text → ℕ
  before k u p = unaltered_length (leg_fast true) (plain_rest true) (reverse (maps_in (route n) k)) u p

  last_first : (k u : ℕ) (p q : Text) → leg_fast true (map_at (route n) k) p ≡ path q
      → before (suc k) u p ≡ before k (min u (length (rest_text p (plain_rest true (map_at (route n) k) p)))) q
  unfolding maps_in unaltered_length
  last_first k u p q e = rw (reverse-append (maps_in (route n) k) (map_at (route n) k ∷ []), e)

  pub home_first : (len : ℕ) (p : Text) → before n len p ≡ unaltered_fast true (route n) n len p
  unfolding unaltered_fast
  home_first len p = refl

  pub home_fewer : (total : ℕ) (k at : ℕ) (here : Text) → 0 < k → (u : ℕ) → before k u (take at here) ≡ total
      → (r : Run) (here' : Text) → HoldsRun (leg_fast true (map_at (route (k - 1)) (k - 1)) (take at here)) (rest_length true (map_at (route (k - 1)) (k - 1)) (take at here)) r here'
      → (m : ℕ) → r.reply ≡ Ok m → (u' : ℕ) → u' ≡ min u r.unaltered → before (k - 1) u' (take m here') ≡ total
  unfolding map_at list_at rest_length
  home_fewer total k at here l u f r here' h m w u' g =
      let z : suc (k - 1) ≡ k = omega (arith, l) in
      let made : leg_fast true (map_at (route n) (k - 1)) (take at here) ≡ path (take m here') = holds_path (leg_fast true (map_at (route (k - 1)) (k - 1)) (take at here)) r.reply here' h.outcome m w in
      let all : before (suc (k - 1)) u (take at here) ≡ total = rw z f in
      rw (g, h.unaltered_is m w) (sym (last_first (k - 1) u (take at here) (take m here') made) ∙ all)

  pub home_all : (len : ℕ) (p : Text) (k at : ℕ) (here : Text) (u : ℕ) → k ≤ 0 → before k u (take at here) ≡ unaltered_fast true (route n) n len p
      → HoldsOutcome (run_route_fast true (route n) n p) (Ok at) here
      → HoldsRun (run_route_fast true (route n) n p) (unaltered_fast true (route n) n len p) (record { reply = Ok at; unaltered = u }) here
  unfolding maps_in unaltered_length
  home_all len p k at here u b f h = let z : k ≡ 0 = omega arith in record { outcome = h; unaltered_is = λ m w. rw z at f }
