-- Lemmas about the branches of the functions that map a path over legs.
use Rattle.std.specs.Prelude.{Result, Ok, Err}
use mathlib.Core.Path.{◌≡◌, refl, sym, ap, ◌∙◌}
use mathlib.Core.Bool.{Bool, true, false}
use mathlib.Core.List.{List, [], ◌∷◌, ◌++◌, reverse, reverse-append}
use Prim.Native.Nat.{ℕ, zero, suc, ◌+◌, ◌*◌, ◌-◌, ◌≤◌, ◌<◌}
use native.Mathlib.Omega.{arith}
use lib.ListN.{length, take, drop, length-take, length-append}
use lib.Seq.{length-take-le}
use lib.Dec.{eqb, leb}
use borrow.Author.Tests.{leb-true, leb-false}
use Rattle.text.specs.Text.{Text, written_if_fits}
use Rattle.text.proofs.WriteLaws.{placed_first, read_back}
use Rattle.refusal.specs.declared.Refusal.{Refusal}
use Rattle.refusal.specs.Outcome.{Outcome, path, refused, outcome_reply, outcome_buffer}
use Rattle.map_spec.specs.Map.{Map, lent_map}
use Rattle.map_rest.specs.MapRest.{source_rest}
use Rattle.map_apply.specs.Fast.{map_fast, plain_rest, translate_fast}
use Rattle.mapping.proofs.CopyOutBranches.{Short, short_fast, short_translate}
use Rattle.route_spec.specs.Route.{and_then, fold_legs}
use Rattle.route_legs.specs.LentRoute.{LentRoute, lent_route, kind_at, first_at, size_at, list_at, map_at}
use Rattle.route.specs.Fast.{leg_fast, maps_in, run_route_fast, HoldsOutcome}

-- An accepted reply is not a refusal.
pub written_refused : (n : ℕ) (x : Refusal) → Ok n ≡ Err x → ⊥
written_refused n x e = let z : ◌≡◌ {A = ℕ} 0 1 = cc in omega arith

-- `run_legs`
pub short_leg : (home : Bool) (m : Map) (p : Text) → Short (leg_fast home m p)
unfolding leg_fast
short_leg false m p = short_translate m p
short_leg true m p = short_fast true m p

pub over_refused : (o : Outcome) (r : Result ℕ Refusal) (mem : Text) → r ≡ outcome_reply o → (x : Refusal) → r ≡ Err x → HoldsOutcome o r mem
unfolding HoldsOutcome outcome_reply
over_refused (path q) r mem e x h = absurd (written_refused (length q) x (sym e ∙ h))
over_refused (refused y) r mem e x h = e

-- The text made is the path, and it is written over the path before it.
module _ (buf made : Text) (n : ℕ) where
  made_inside : (o : Outcome) → Ok n ≡ outcome_reply o → made ≡ outcome_buffer o buf → n ≤ length made
  unfolding outcome_reply outcome_buffer
  made_inside (path q) h e = let z : n ≡ length q = cc in rw (e, z) (simp length-append (omega arith))
  made_inside (refused x) h e = absurd (written_refused n x h)

  made_holds : (o : Outcome) → Ok n ≡ outcome_reply o → made ≡ outcome_buffer o buf → Short o → (here here' : Text) → length here ≡ 255
      → here' ≡ written_if_fits 0 (take n made) here → HoldsOutcome o (Ok n) here'
  unfolding outcome_reply outcome_buffer HoldsOutcome
  made_holds (path q) h e s here here' l w =
      let z : n ≡ length q = cc in
      (h, rw (w, z, e, read_back q buf, placed_first q here (omega (arith, l, s q refl))) (read_back q here))
  made_holds (refused x) h e s here here' l w = absurd (written_refused n x h)

module _ (home : Bool) (m : Map) (p buf made : Text) (r : Result ℕ Refusal) (w : (r ≡ outcome_reply (leg_fast home m p)) × (made ≡ outcome_buffer (leg_fast home m p) buf)) (n : ℕ) (k : r ≡ Ok n) where
  pub over_inside : n ≤ length made
  over_inside = made_inside buf made n (leg_fast home m p) (sym k ∙ w.0) w.1

  pub over_written : (here here' : Text) → length here ≡ 255 → here' ≡ written_if_fits 0 (take n made) here → HoldsOutcome (leg_fast home m p) (Ok n) here'
  over_written = made_holds buf made n (leg_fast home m p) (sym k ∙ w.0) w.1 (short_leg home m p)

-- The properties that follow from an outcome held in a buffer.
module _ (o : Outcome) (r : Result ℕ Refusal) (mem : Text) (h : HoldsOutcome o r mem) where
  pub holds_path : (n : ℕ) → r ≡ Ok n → o ≡ path (take n mem)
  unfolding HoldsOutcome
  holds_path n e = go o h
    where
      go : (o : Outcome) → HoldsOutcome o r mem → o ≡ path (take n mem)
      go (path q) w = let z : n ≡ length q = let v : Ok n ≡ Ok (length q) = sym e ∙ w.0 in cc in ap path (sym w.1 ∙ ap (λ (k : ℕ). take k mem) (sym z))
      go (refused x) w = absurd (written_refused n x (sym e ∙ w))

  pub holds_inside : (n : ℕ) → r ≡ Ok n → n ≤ length mem
  unfolding HoldsOutcome
  holds_inside n e = go o h
    where
      go : (o : Outcome) → HoldsOutcome o r mem → n ≤ length mem
      go (path q) w =
          let z : n ≡ length q = let v : Ok n ≡ Ok (length q) = sym e ∙ w.0 in cc in
          let y : length (take (length q) mem) ≡ length q = ap length w.1 in
          omega (arith, z, y, length-take (length q) mem)
      go (refused x) w = absurd (written_refused n x (sym e ∙ w))

  pub holds_size : (n : ℕ) → r ≡ Ok n → length mem ≡ 255 → n ≤ 255
  holds_size n e l = omega (arith, holds_inside n e, l)

  pub holds_refused : (x : Refusal) → r ≡ Err x → o ≡ refused x
  unfolding HoldsOutcome
  holds_refused x e = go o h
    where
      go : (o : Outcome) → HoldsOutcome o r mem → o ≡ refused x
      go (path q) w = absurd (written_refused (length q) x (sym w.0 ∙ e))
      go (refused y) w = let v : Err y ≡ Err x = sym w ∙ e in cc

-- A known outcome is held by the buffer and the reply.
pub holds_checked : (o : Outcome) (n : ℕ) (mem : Text) → o ≡ path (take n mem) → n ≤ 255 → length mem ≡ 255 → HoldsOutcome o (Ok n) mem
unfolding HoldsOutcome
holds_checked o n mem e l k =
    let z : length (take n mem) ≡ n = length-take-le n mem (omega (arith, k)) in
    rw (e, z) (refl, refl)

pub holds_stopped : (o : Outcome) (r : Result ℕ Refusal) (mem : Text) (x : Refusal) → o ≡ refused x → r ≡ Err x → HoldsOutcome o r mem
unfolding HoldsOutcome
holds_stopped o r mem x e h = rw e h

-- One more leg at the end of a route, and a route that was refused earlier.
pub fold_snoc : {A : Type 0} (go : A → Text → Outcome) (xs : List A) (x : A) (p q : Text) → fold_legs go xs p ≡ path q → fold_legs go (xs ++ x ∷ []) p ≡ go x q
unfolding fold_legs
fold_snoc go [] x p q e = let z : p ≡ q = cc in rw z (last (go x q))
  where
    last : (o : Outcome) → and_then (λ t. path t) o ≡ o
    last (path t) = refl
    last (refused y) = refl
fold_snoc {A} go (y ∷ xs) x p q e = by (go y p) e (λ t. fold_snoc go xs x t q)
  where
    by : (o : Outcome) → and_then (fold_legs go xs) o ≡ path q → ((t : Text) → fold_legs go xs t ≡ path q → fold_legs go (xs ++ x ∷ []) t ≡ go x q)
        → and_then (fold_legs go (xs ++ x ∷ [])) o ≡ go x q
    by (path t) h ih = ih t h
    by (refused n) h ih = absurd (let z : ◌≡◌ {A = ℕ} 0 1 = cc in omega arith)

fold_stopped : {A : Type 0} (go : A → Text → Outcome) (xs : List A) (x : A) (p : Text) (n : Refusal) → fold_legs go xs p ≡ refused n → fold_legs go (xs ++ x ∷ []) p ≡ refused n
unfolding fold_legs
fold_stopped go [] x p n e = absurd (let z : ◌≡◌ {A = ℕ} 0 1 = cc in omega arith)
fold_stopped {A} go (y ∷ xs) x p n e = by (go y p) e (λ t. fold_stopped go xs x t n)
  where
    by : (o : Outcome) → and_then (fold_legs go xs) o ≡ refused n → ((t : Text) → fold_legs go xs t ≡ refused n → fold_legs go (xs ++ x ∷ []) t ≡ refused n)
        → and_then (fold_legs go (xs ++ x ∷ [])) o ≡ refused n
    by (path t) h ih = ih t h
    by (refused m) h ih = h

-- The route out over one more map.
module _ (s : LentRoute) (go : Map → Text → Outcome) where
  maps_on : (k : ℕ) (p q : Text) → fold_legs go (maps_in s k) p ≡ path q → fold_legs go (maps_in s (suc k)) p ≡ go (map_at s k) q
  unfolding maps_in
  maps_on k p q e = fold_snoc go (maps_in s k) (map_at s k) p q e

  maps_stopped : (n k : ℕ) (p : Text) (x : Refusal) → k ≤ n → fold_legs go (maps_in s k) p ≡ refused x → fold_legs go (maps_in s n) p ≡ refused x
  unfolding maps_in
  maps_stopped zero zero p x h e = e
  maps_stopped zero (suc k) p x h e = absurd (omega arith)
  maps_stopped (suc n) k p x h e = by (leb k n) refl (maps_stopped n k p x)
    where
      by : (b : Bool) → leb k n ≡ b → (k ≤ n → fold_legs go (maps_in s k) p ≡ refused x → fold_legs go (maps_in s n) p ≡ refused x) → fold_legs go (maps_in s n ++ map_at s n ∷ []) p ≡ refused x
      by true t ih = fold_stopped go (maps_in s n) (map_at s n) p x (ih (leb-true k n t) e)
      by false t ih = let z : k ≡ suc n = omega (arith, leb-false k n t) in rw z at e

  -- The route home over one map fewer.
  maps_back : (k : ℕ) (p : Text) → fold_legs go (reverse (maps_in s (suc k))) p ≡ and_then (fold_legs go (reverse (maps_in s k))) (go (map_at s k) p)
  unfolding maps_in fold_legs
  maps_back k p = rw (reverse-append (maps_in s k) (map_at s k ∷ []))

module _ (store : Text) (places legs : List ℕ) (n : ℕ) where
  abbrev route : ℕ → LentRoute
  route k = lent_route store places legs k

  -- `run_out`
  module _ (p : Text) where
    pub out_begin : fold_legs (leg_fast false) (maps_in (route n) 0) p ≡ path p
    unfolding maps_in fold_legs
    out_begin = refl

    module _ (k at : ℕ) (here : Text) (e : fold_legs (leg_fast false) (maps_in (route n) k) p ≡ path (take at here)) (r : Result ℕ Refusal) (here' : Text)
        (h : HoldsOutcome (leg_fast false (map_at (route k) k) (take at here)) r here') where
      next : fold_legs (leg_fast false) (maps_in (route n) (suc k)) p ≡ leg_fast false (map_at (route k) k) (take at here)
      unfolding map_at list_at
      next = maps_on (route n) (leg_fast false) k p (take at here) e

      pub out_on : (m : ℕ) → r ≡ Ok m → fold_legs (leg_fast false) (maps_in (route n) (k + 1)) p ≡ path (take m here')
      out_on m w = let z : k + 1 ≡ suc k = omega arith in rw z (next ∙ holds_path (leg_fast false (map_at (route k) k) (take at here)) r here' h m w)

      pub out_stopped : k < n → (x : Refusal) → r ≡ Err x → HoldsOutcome (run_route_fast false (route n) n p) r here'
      unfolding run_route_fast
      out_stopped l x w =
          holds_stopped (fold_legs (leg_fast false) (maps_in (route n) n) p) r here' x
          (maps_stopped (route n) (leg_fast false) n (suc k) p x l (next ∙ holds_refused (leg_fast false (map_at (route k) k) (take at here)) r here' h x w)) w

    pub out_end : (k at : ℕ) (here : Text) → n ≤ k → k ≤ n → fold_legs (leg_fast false) (maps_in (route n) k) p ≡ path (take at here) → at ≤ 255 → length here ≡ 255
        → HoldsOutcome (run_route_fast false (route n) n p) (Ok at) here
    unfolding run_route_fast
    out_end k at here a b e l w = let z : k ≡ n = omega arith in holds_checked (fold_legs (leg_fast false) (maps_in (route n) n) p) at here (rw z at e) l w

  -- `run_home`: the remainder of the route yields the result of the whole route.
  module _ (p : Text) (k at : ℕ) (here : Text) (l : 0 < k) (e : fold_legs (leg_fast true) (reverse (maps_in (route n) k)) (take at here) ≡ run_route_fast true (route n) n p)
      (r : Result ℕ Refusal) (here' : Text) (h : HoldsOutcome (leg_fast true (map_at (route (k - 1)) (k - 1)) (take at here)) r here') where
    abbrev leg : Outcome
    leg = leg_fast true (map_at (route (k - 1)) (k - 1)) (take at here)

    abbrev left : Text → Outcome
    left = fold_legs (leg_fast true) (reverse (maps_in (route n) (k - 1)))

    back : and_then left leg ≡ run_route_fast true (route n) n p
    unfolding map_at list_at
    back =
        let z : suc (k - 1) ≡ k = omega (arith, l) in
        sym (maps_back (route n) (leg_fast true) (k - 1) (take at here)) ∙ ap (λ (j : ℕ). fold_legs (leg_fast true) (reverse (maps_in (route n) j)) (take at here)) z ∙ e

    pub home_on : (m : ℕ) → r ≡ Ok m → left (take m here') ≡ run_route_fast true (route n) n p
    home_on m w = ap (and_then left) (sym (holds_path leg r here' h m w)) ∙ back

    pub home_stopped : (x : Refusal) → r ≡ Err x → HoldsOutcome (run_route_fast true (route n) n p) r here'
    home_stopped x w = holds_stopped (run_route_fast true (route n) n p) r here' x (sym back ∙ ap (and_then left) (holds_refused leg r here' h x w)) w

  pub home_begin : (p : Text) → fold_legs (leg_fast true) (reverse (maps_in (route n) n)) p ≡ run_route_fast true (route n) n p
  unfolding run_route_fast
  home_begin p = refl

  pub home_end : (p : Text) (k at : ℕ) (here : Text) → k ≤ 0 → fold_legs (leg_fast true) (reverse (maps_in (route n) k)) (take at here) ≡ run_route_fast true (route n) n p → at ≤ 255
      → length here ≡ 255 → HoldsOutcome (run_route_fast true (route n) n p) (Ok at) here
  unfolding maps_in fold_legs
  home_end p k at here b e l w = let z : k ≡ 0 = omega arith in holds_checked (run_route_fast true (route n) n p) at here (sym (rw z at e)) l w

-- `map_leg`
module _ (store : Text) (places legs : List ℕ) (k n kind : ℕ) (list : List ℕ) (e : list ≡ drop (4 * first_at legs k) places) (f : n ≡ size_at legs k) (g : kind ≡ kind_at legs k) where
  its_map : lent_map store list n (eqb kind 1) ≡ map_at (lent_route store places legs k) k
  unfolding map_at list_at
  its_map = rw (e, f, g)

  pub leg_home : (home : Bool) (p : Text) → home ≡ true → leg_fast home (map_at (lent_route store places legs k) k) p ≡ map_fast true (lent_map store list n (eqb kind 1)) p
  unfolding leg_fast
  leg_home home p h = rw h (ap (λ (m : Map). map_fast true m p) (sym its_map))

  pub leg_out : (home : Bool) (p : Text) → home ≡ false → leg_fast home (map_at (lent_route store places legs k) k) p ≡ translate_fast (lent_map store list n (eqb kind 1)) p
  unfolding leg_fast
  leg_out home p h = rw h (ap (λ (m : Map). translate_fast m p) (sym its_map))

  pub rest_home : (home : Bool) (p : Text) → home ≡ true → plain_rest home (map_at (lent_route store places legs k) k) p ≡ plain_rest true (lent_map store list n (eqb kind 1)) p
  rest_home home p h = rw h (ap (λ (m : Map). plain_rest true m p) (sym its_map))

  pub rest_out : (home : Bool) (p : Text) → home ≡ false → plain_rest home (map_at (lent_route store places legs k) k) p ≡ source_rest (lent_map store list n (eqb kind 1)) p
  unfolding plain_rest
  rest_out home p h = rw h (ap (λ (m : Map). source_rest m p) (sym its_map))
