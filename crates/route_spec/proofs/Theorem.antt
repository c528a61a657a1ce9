-- The proof of the round_trip theorem (demand 3), over a whole list of legs.
use Rattle.std.specs.Prelude.{Some, None}
use mathlib.Core.Path.{◌≡◌, refl, sym, ◌∙◌}
use mathlib.Core.Logic.{◌↔◌}
use mathlib.Core.Bool.{true, false}
use mathlib.Core.List.{List, [], ◌∷◌, ◌++◌, reverse, reverse-cons}
use Prim.Native.Nat.{ℕ, zero, suc}
use native.Mathlib.Omega.{arith}
use Rattle.std.specs.List.{slice_get}
use Rattle.text.specs.Text.{Text}
use Rattle.text.proofs.BoolLaws.{and_l, and_r}
use Rattle.text.proofs.TextLaws.{no_text}
use Rattle.pair_list.specs.Pair.{all_ends, no_empty_source}
use Rattle.refusal.specs.declared.Refusal.{Refusal}
use Rattle.refusal.specs.Outcome.{Outcome, path, refused}
use Rattle.map_spec.specs.Leg.{SelectionFreePath, PlainRoundTrip}
use Rattle.map_spec.proofs.OutcomeLaws.{no_path_lem}
use Rattle.map_spec.proofs.LegLaws.{leg_next, leg_home, leg_exact}
use Rattle.route_spec.specs.Leg.{Leg, by_map, by_relocates, leg_map, leg_ends, outward, homeward}
use Rattle.route_spec.specs.Route.{route_ends, fold_legs, trace, RoundTrip, RelocatesExact, run_route}
use Rattle.route_spec.proofs.RelocateLaws.{relocate_ends, relocate_full}

-- The ends of a leg's map are prim paths, `/` or empty if those of the leg are.
pub map_ends : (x : Leg) → leg_ends x ≡ true → all_ends (leg_map x).pairs ≡ true
unfolding leg_ends leg_map
map_ends (by_map m) e = e
map_ends (by_relocates l) e = relocate_ends l e

-- One leg.
module _ (x : Leg) (e : leg_ends x ≡ true) (p q : Text) (c : SelectionFreePath p) where
  pub step_next : outward x p ≡ path q → SelectionFreePath q
  unfolding outward
  step_next = leg_next (leg_map x) (map_ends x e) p q c

  step_home : outward x p ≡ path q → homeward x q ≡ path p
  unfolding outward homeward
  step_home = leg_home (leg_map x) (map_ends x e) p q c

  pub step_exact : no_empty_source (leg_map x).pairs ≡ true → (outward x p ≡ path q) ↔ PlainRoundTrip (leg_map x) p q
  unfolding outward
  step_exact = leg_exact (leg_map x) (map_ends x e) p q c

-- The steps of a route.
module _ (go : Leg → Text → Outcome) (p : Text) where
  pub fold_nil : fold_legs go [] p ≡ path p
  unfolding fold_legs
  fold_nil = refl

  trace_nil : trace go [] p ≡ p ∷ []
  unfolding trace
  trace_nil = refl

module _ (go : Leg → Text → Outcome) (x : Leg) (xs : List Leg) (p : Text) where
  pub fold_path : (q : Text) → go x p ≡ path q → fold_legs go (x ∷ xs) p ≡ fold_legs go xs q
  unfolding fold_legs
  fold_path q h = rw h

  pub fold_refused : (n : Refusal) → go x p ≡ refused n → fold_legs go (x ∷ xs) p ≡ refused n
  unfolding fold_legs
  fold_refused n h = rw h

  trace_path : (q : Text) → go x p ≡ path q → trace go (x ∷ xs) p ≡ p ∷ trace go xs q
  unfolding trace
  trace_path q h = rw h

  trace_refused : (n : Refusal) → go x p ≡ refused n → trace go (x ∷ xs) p ≡ p ∷ []
  unfolding trace
  trace_refused n h = rw h

  trace_first : slice_get (trace go (x ∷ xs) p) 0 ≡ Some p
  unfolding trace
  trace_first = refl

no_leg : {x : Leg} → None ≡ Some x → ⊥
no_leg {x} e = let z : ◌≡◌ {A = ℕ} 0 1 = cc in omega arith

-- One more leg at the end of a route.
one_more : (go : Leg → Text → Outcome) (xs : List Leg) (x : Leg) (q p1 p0 : Text) → fold_legs go xs q ≡ path p1 → go x p1 ≡ path p0
    → (fold_legs go (xs ++ x ∷ []) q ≡ path p0) × (trace go (xs ++ x ∷ []) q ≡ trace go xs q ++ p0 ∷ [])
one_more go [] x q p1 p0 e h =
    let k : go x q ≡ path p0 = let z : q ≡ p1 = cc (fold_nil go q) in rw z h in
    (fold_path go x [] q p0 k ∙ fold_nil go p0, trace_path go x [] q p0 k ∙ simp trace_nil)
one_more go (y ∷ ys) x q p1 p0 e h = by (go y q) refl (λ r. one_more go ys x r p1 p0)
  where
    by : (o : Outcome) → go y q ≡ o
        → ((r : Text) → fold_legs go ys r ≡ path p1 → go x p1 ≡ path p0
        → (fold_legs go (ys ++ x ∷ []) r ≡ path p0) × (trace go (ys ++ x ∷ []) r ≡ trace go ys r ++ p0 ∷ []))
        → (fold_legs go (y ∷ ys ++ x ∷ []) q ≡ path p0) × (trace go (y ∷ ys ++ x ∷ []) q ≡ trace go (y ∷ ys) q ++ p0 ∷ [])
    by (path r) k ih =
        let z = ih r (sym (fold_path go y ys q r k) ∙ e) h in
        (fold_path go y (ys ++ x ∷ []) q r k ∙ z.0, rw (trace_path go y (ys ++ x ∷ []) q r k, trace_path go y ys q r k, z.1))
    by (refused n) k ih = absurd (no_path_lem (sym (fold_refused go y ys q n k) ∙ e))

-- The ends of a route's first leg, and of the other legs.
pub first_ends : (x : Leg) (xs : List Leg) → route_ends (x ∷ xs) ≡ true → leg_ends x ≡ true
unfolding route_ends
first_ends x xs e = and_l (leg_ends x) (route_ends xs) e

pub rest_ends : (x : Leg) (xs : List Leg) → route_ends (x ∷ xs) ≡ true → route_ends xs ≡ true
unfolding route_ends
rest_ends x xs e = and_r (leg_ends x) (route_ends xs) e

-- The whole route home.
run_home : (xs : List Leg) (p q : Text) → route_ends xs ≡ true → SelectionFreePath p → fold_legs outward xs p ≡ path q
    → (fold_legs homeward (reverse xs) q ≡ path p) × (trace homeward (reverse xs) q ≡ reverse (trace outward xs p))
run_home [] p q ends c e = let z : p ≡ q = cc (fold_nil outward p) in rw z (fold_nil homeward q, simp trace_nil)
run_home (x ∷ xs) p q ends c e = by (outward x p) refl (λ y. run_home xs y q (rest_ends x xs ends))
  where
    by : (o : Outcome) → outward x p ≡ o
        → ((y : Text) → SelectionFreePath y → fold_legs outward xs y ≡ path q
        → (fold_legs homeward (reverse xs) q ≡ path y) × (trace homeward (reverse xs) q ≡ reverse (trace outward xs y)))
        → (fold_legs homeward (reverse (x ∷ xs)) q ≡ path p) × (trace homeward (reverse (x ∷ xs)) q ≡ reverse (trace outward (x ∷ xs) p))
    by (path y) k ih =
        let z = ih y (step_next x (first_ends x xs ends) p y c k) (sym (fold_path outward x xs p y k) ∙ e) in
        let s = one_more homeward (reverse xs) x q y p z.0 (step_home x (first_ends x xs ends) p y c k) in
        rw (reverse-cons x xs, trace_path outward x xs p y k, reverse-cons p (trace outward xs y), ← z.1) s
    by (refused n) k ih = absurd (no_path_lem (sym (fold_refused outward x xs p n k) ∙ e))

-- The result of the whole route out has the properties of its starting path.
pub run_next : (xs : List Leg) (p q : Text) → route_ends xs ≡ true → SelectionFreePath p → fold_legs outward xs p ≡ path q → SelectionFreePath q
run_next [] p q ends c e = let z : p ≡ q = cc (fold_nil outward p) in rw z at c
run_next (x ∷ xs) p q ends c e = by (outward x p) refl (λ y. run_next xs y q (rest_ends x xs ends))
  where
    by : (o : Outcome) → outward x p ≡ o → ((y : Text) → SelectionFreePath y → fold_legs outward xs y ≡ path q → SelectionFreePath q) → SelectionFreePath q
    by (path y) k ih = ih y (step_next x (first_ends x xs ends) p y c k) (sym (fold_path outward x xs p y k) ∙ e)
    by (refused n) k ih = absurd (no_path_lem (sym (fold_refused outward x xs p n k) ∙ e))

-- The path that reaches a leg has these properties, whether or not a later leg refuses.
reached : (xs : List Leg) (p : Text) → route_ends xs ≡ true → SelectionFreePath p → (k : ℕ) (x : Leg) (r : Text) → slice_get xs k ≡ Some x
    → slice_get (trace outward xs p) k ≡ Some r → (leg_ends x ≡ true) × SelectionFreePath r
reached [] p ends c k x r h g = absurd (no_leg h)
reached (y ∷ ys) p ends c zero x r h g =
    let s : y ≡ x = cc in
    let t : p ≡ r = cc (trace_first outward y ys p) in
    (rw s at (first_ends y ys ends), rw t at c)
reached (y ∷ ys) p ends c (suc k) x r h g = by (outward y p) refl (λ q d. reached ys q (rest_ends y ys ends) d k x r h)
  where
    by : (o : Outcome) → outward y p ≡ o
        → ((q : Text) → SelectionFreePath q → slice_get (trace outward ys q) k ≡ Some r → (leg_ends x ≡ true) × SelectionFreePath r)
        → (leg_ends x ≡ true) × SelectionFreePath r
    by (path q) e ih = ih q (step_next y (first_ends y ys ends) p q c e) (rw (trace_path outward y ys p q e) at g)
    by (refused n) e ih = absurd (no_text (rw (trace_refused outward y ys p n e) at g))

pub round_trip : RoundTrip
round_trip legs p ends c = record {
  home_again = λ q e. run_home legs p q ends c e;
  exact = λ k x r h g full q. let d = reached legs p ends c k x r h g in step_exact x d.0 r q d.1 full;
}

-- A path that a route takes out is taken home by it.
pub run_returns : (legs : List Leg) (p q : Text) → route_ends legs ≡ true → SelectionFreePath p → run_route false legs p ≡ path q → run_route true legs q ≡ path p
unfolding run_route
run_returns legs p q ends c e = ((round_trip legs p ends c).home_again q e).0

-- For a relocate list the second half holds without a hypothesis: its map has no empty source.
pub relocates_exact : RelocatesExact
unfolding leg_ends leg_map
relocates_exact legs p ends c k l r h g q =
    let d = reached legs p ends c k (by_relocates l) r h g in
    (round_trip legs p ends c).exact k (by_relocates l) r h g (relocate_full l d.0) q
