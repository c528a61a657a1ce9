-- The rest of an accepted route is the end of the path given and of the path made (`RouteRestUnaltered`). The idea: the rest of a leg is the end of
-- the path that reached the leg and of the path that it yields, so as long as no more bytes are kept than that rest has, the last bytes of both
-- paths are the same.
use Rattle.std.specs.Prelude.{Option, Some, None}
use mathlib.Core.Path.{◌≡◌, refl, sym, ap, ◌∙◌}
use mathlib.Core.Bool.{Bool, true, false, cond}
use mathlib.Core.List.{List, [], ◌∷◌, append-nil, reverse, reverse-cons}
use Prim.Native.Nat.{ℕ, ◌+◌, ◌-◌, ◌≤◌, min}
use native.Mathlib.Nat.{min-le_left, min-le_right}
use native.Mathlib.Omega.{arith}
use lib.ListN.{length, take, drop, length-append, take-append-drop}
use lib.Seq.{drop-append-add}
use Rattle.text.specs.Text.{Text}
use Rattle.path_grammar.specs.Legal.{legal, at_most255}
use Rattle.refusal.specs.Outcome.{Outcome, path, refused}
use Rattle.path_rest.specs.Rest.{rest_text, EndsWith}
use Rattle.map_spec.specs.Map.{map_target_to_source, translate_to_target}
use Rattle.map_spec.specs.Leg.{SelectionFreePath, translate_checked, map_back_checked}
use Rattle.map_spec.proofs.OutcomeLaws.{no_path_lem, checked_path}
use Rattle.map_rest.proofs.MapRest.{target_rest_unaltered, translated_rest_unaltered}
use Rattle.route_spec.specs.Leg.{Leg, leg_map, leg_ends, outward, homeward}
use Rattle.route_spec.specs.Route.{route_ends, fold_legs, run_route}
use Rattle.route_spec.specs.Rest.{leg_rest, next_length, unaltered_length, unaltered_over, is_stripped, route_rest, RouteRestUnaltered}
use Rattle.route_spec.proofs.RouteLaws.{legs_more}
use Rattle.route_spec.proofs.Theorem.{map_ends, step_next, fold_nil, fold_path, fold_refused, first_ends, rest_ends}

-- The last k bytes of a text.
abbrev last_bytes : ℕ → Text → Text
last_bytes k t = drop (length t - k) t

last_ends : (k : ℕ) (t : Text) → EndsWith t (last_bytes k t)
last_ends k t = (take (length t - k) t, sym (take-append-drop (length t - k) t))

-- What stands before the end r of a text does not matter to its last k bytes, if r has as many.
last_of_end : (k : ℕ) (t r : Text) → EndsWith t r → k ≤ length r → last_bytes k t ≡ last_bytes k r
last_of_end k t r (s, e) h =
    let long : length t ≡ length s + length r = ap length e ∙ length-append s r in
    let at : length t - k ≡ length s + (length r - k) = omega (arith, long, h) in
    rw (at, e) (drop-append-add s r (length r - k))

-- The end of a text is not longer than the text.
end_fits : (t r : Text) → EndsWith t r → length r ≤ length t
end_fits t r (s, e) = rw (e, length-append s r) (omega arith)

-- Legs do not raise the number of unaltered bytes.
pub unaltered_le : {A : Type 0} (go : A → Text → Outcome) (rest : A → Text → Option ℕ) (xs : List A) (n : ℕ) (p : Text) → unaltered_length go rest xs n p ≤ n
unfolding unaltered_length
unaltered_le go rest [] n p = omega arith
unaltered_le {A} go rest (x ∷ xs) n p = by (go x p) (unaltered_le go rest xs fewer)
  where
    fewer : ℕ
    fewer = min n (length (rest_text p (rest x p)))

    by : (o : Outcome) → ((q : Text) → unaltered_length go rest xs fewer q ≤ fewer) → next_length (unaltered_length go rest xs fewer) o ≤ n
    by (path q) ih = omega (arith, ih q, min-le_left n (length (rest_text p (rest x p))))
    by (refused y) ih = omega arith

-- What one leg does: its rest is the end of both paths, and the path that it yields has the property C again.
record LegKeeps (C : Text → Type 0) (p q r : Text) : Type 0 where
  ends_given_lem : EndsWith p r
  ends_made_lem : EndsWith q r
  next : C q

module _ (go : Leg → Text → Outcome) (rest : Leg → Text → Option ℕ) where
  -- The length of the rest of the path p that reaches a leg.
  abbrev rest_length : Leg → Text → ℕ
  rest_length x p = length (rest_text p (rest x p))

  -- The number of unaltered bytes after a leg that yields a path.
  unaltered_path : (x : Leg) (xs : List Leg) (n : ℕ) (p q : Text) → go x p ≡ path q
      → unaltered_length go rest (x ∷ xs) n p ≡ unaltered_length go rest xs (min n (rest_length x p)) q
  unfolding unaltered_length
  unaltered_path x xs n p q e = rw e

  -- So the last unaltered bytes of the path given are the end of the path made.
  module _ (C : Text → Type 0)
      (step : (x : Leg) → leg_ends x ≡ true → (p q : Text) → C p → go x p ≡ path q → LegKeeps C p q (rest_text p (rest x p))) where
    made_ends : (xs : List Leg) (n : ℕ) (p q : Text) → route_ends xs ≡ true → C p → n ≤ length p → fold_legs go xs p ≡ path q
        → EndsWith q (last_bytes (unaltered_length go rest xs n p) p)
    made_ends [] n p q ends c h e = let same : p ≡ q = cc (fold_nil go p) in rw (← same) (last_ends (unaltered_length go rest [] n p) p)
    made_ends (x ∷ xs) n p q ends c h e = by (go x p) refl (λ y. made_ends xs (min n (rest_length x p)) y q (rest_ends x xs ends))
      where
        fewer : ℕ
        fewer = min n (rest_length x p)

        by : (o : Outcome) → go x p ≡ o
            → ((y : Text) → C y → fewer ≤ length y → fold_legs go xs y ≡ path q → EndsWith q (last_bytes (unaltered_length go rest xs fewer y) y))
            → EndsWith q (last_bytes (unaltered_length go rest (x ∷ xs) n p) p)
        by (path y) k ih =
            let r = rest_text p (rest x p) in
            let leg : LegKeeps C p y r = step x (first_ends x xs ends) p y c k in
            let last = unaltered_length go rest xs fewer y in
            let few : last ≤ length r = omega (arith, unaltered_le go rest xs fewer y, min-le_right n (length r)) in
            let fits : fewer ≤ length y = omega (arith, min-le_right n (length r), end_fits y r leg.ends_made_lem) in
            let of-made : last_bytes last y ≡ last_bytes last r = last_of_end last y r leg.ends_made_lem few in
            let of-given : last_bytes last p ≡ last_bytes last r = last_of_end last p r leg.ends_given_lem few in
            rw (unaltered_path x xs n p y k, of-given, ← of-made) (ih y leg.next fits (sym (fold_path go x xs p y k) ∙ e))
        by (refused m) k ih = absurd (no_path_lem (sym (fold_refused go x xs p m k) ∙ e))

-- A leg out, for a path without selections.
out_keeps : (x : Leg) → leg_ends x ≡ true → (p q : Text) → SelectionFreePath p → outward x p ≡ path q
    → LegKeeps SelectionFreePath p q (rest_text p (leg_rest false x p))
unfolding leg_rest outward translate_checked
out_keeps x ends p q c e =
    let made = checked_path (translate_to_target (leg_map x) p) q e in
    let kept = translated_rest_unaltered (leg_map x) p q (map_ends x ends) c.is_legal c.is_plain made.0 made.2 in
    record { ends_given_lem = kept.ends_given; ends_made_lem = kept.ends_made; next = step_next x ends p q c e }

-- A leg home, for a legal path.
home_keeps : (x : Leg) → leg_ends x ≡ true → (p q : Text) → legal p ≡ true → homeward x p ≡ path q
    → LegKeeps (λ (t : Text). legal t ≡ true) p q (rest_text p (leg_rest true x p))
unfolding leg_rest homeward map_back_checked
home_keeps x ends p q l e =
    let made = checked_path (map_target_to_source (leg_map x) p) q e in
    let kept = target_rest_unaltered (leg_map x) p q (map_ends x ends) l made.0 made.2 in
    record { ends_given_lem = kept.ends_given; ends_made_lem = kept.ends_made; next = made.2 }

reverse_ends : (xs : List Leg) → route_ends xs ≡ true → route_ends (reverse xs) ≡ true
reverse_ends [] e = e
reverse_ends (x ∷ xs) e = rw (reverse-cons x xs) (legs_more (reverse xs) x (reverse_ends xs (rest_ends x xs e)) (first_ends x xs e))

-- The path made, in both directions, unless selections were stripped.
over_route : (home : Bool) (legs : List Leg) (p q : Text) → route_ends legs ≡ true → legal p ≡ true → at_most255 p ≡ true
    → is_stripped home (length legs) p ≡ false → run_route home legs p ≡ path q → EndsWith q (last_bytes (unaltered_over home legs p) p)
unfolding is_stripped unaltered_over run_route
over_route true legs p q ends l s k e =
    let back : route_ends (reverse legs) ≡ true = reverse_ends legs ends in
    made_ends homeward (leg_rest true) (λ (t : Text). legal t ≡ true) home_keeps (reverse legs) (length p) p q back l (omega arith) e
over_route false [] p q ends l s k e = let same : p ≡ q = cc (fold_nil outward p) in rw (← same) (last_ends (length p) p)
over_route false (x ∷ xs) p q ends l s k e =
    let c : SelectionFreePath p = record { is_legal = l; is_short = s; is_plain = k } in
    made_ends outward (leg_rest false) SelectionFreePath out_keeps (x ∷ xs) (length p) p q ends c (omega arith) e

pub route_rest_unaltered : RouteRestUnaltered
unfolding route_rest rest_text
route_rest_unaltered home legs p q ends l s e = go (is_stripped home (length legs) p) refl
  where
    rest : Bool → Text
    rest b = rest_text p (cond b None (Some (length p - unaltered_over home legs p)))

    go : (b : Bool) → is_stripped home (length legs) p ≡ b → EndsWith p (rest b) × EndsWith q (rest b)
    go true k = ((p, sym (append-nil p)), (q, sym (append-nil q)))
    go false k = (last_ends (unaltered_over home legs p) p, over_route home legs p q ends l s k e)
