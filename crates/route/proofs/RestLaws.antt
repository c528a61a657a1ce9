-- Lemmas about the rest over a route as the code computes it: for validated legs it is the rest of the definitions.
use Rattle.std.specs.Prelude.{Option, Some, None}
use mathlib.Core.Path.{◌≡◌, refl, ap, ◌∙◌}
use mathlib.Core.Bool.{Bool, true, false, cond}
use mathlib.Core.List.{List, [], ◌∷◌, map, reverse}
use Prim.Native.Nat.{ℕ, zero, suc, ◌-◌, ◌<◌, min}
use native.Mathlib.Omega.{arith}
use lib.ListN.{length}
use Rattle.text.specs.Text.{Text}
use Rattle.text.proofs.BoolLaws.{and_l, and_r}
use Rattle.path_grammar.specs.Own.{has_variant_selection}
use Rattle.refusal.specs.Outcome.{Outcome, path, refused}
use Rattle.path_rest.specs.Rest.{rest_text}
use Rattle.validate.specs.Validate.{every, ValidList}
use Rattle.map_spec.specs.Map.{Map}
use Rattle.map_spec.specs.Leg.{translate_checked, map_back_checked, SelectionFreePath}
use Rattle.map_rest.specs.MapRest.{target_rest, translated_rest}
use Rattle.map_apply.specs.Fast.{plain_rest}
use Rattle.route_spec.specs.Leg.{Leg, leg_map, outward, homeward}
use Rattle.route_spec.specs.Rest.{leg_rest, next_length, unaltered_length, unaltered_over, is_stripped, route_rest}
use Rattle.route_legs.specs.LentRoute.{LentRoute, list_at, legs_in}
use Rattle.route_maps.specs.Prepared.{Prepared}
use Rattle.route.specs.Fast.{leg_fast, maps_in}
use Rattle.route.specs.Unaltered.{unaltered_fast, rest_fast, route_rest_fast}
use Rattle.route.proofs.FastLaws.{Whole, sound_map, out_leg, out_next, home_leg, home_next, every_reverse, map_reverse, sound_legs, prepared_maps, legs_length}

-- The number of unaltered bytes over legs is that over their maps.
unaltered_map : {A B : Type 0} (go : B → Text → Outcome) (rest : B → Text → Option ℕ) (f : A → B) (xs : List A) (n : ℕ) (p : Text)
    → unaltered_length (λ (x : A). go (f x)) (λ (x : A). rest (f x)) xs n p ≡ unaltered_length go rest (map f xs) n p
unfolding unaltered_length
unaltered_map go rest f [] n p = refl
unaltered_map {A} go rest f (x ∷ xs) n p = by (go (f x) p) (unaltered_map go rest f xs (min n (length (rest_text p (rest (f x) p)))))
  where
    fewer : ℕ
    fewer = min n (length (rest_text p (rest (f x) p)))

    over : Text → ℕ
    over = unaltered_length (λ (y : A). go (f y)) (λ (y : A). rest (f y)) xs fewer

    by : (o : Outcome) → ((q : Text) → over q ≡ unaltered_length go rest (map f xs) fewer q) → next_length over o ≡ next_length (unaltered_length go rest (map f xs) fewer) o
    by (path q) ih = ih q
    by (refused x) ih = refl

-- It is the same for two ways over the legs if each leg yields the same, with the same rest, for the path that reaches it.
module _ {A : Type 0} (C : Text → Type 0) (good : A → Bool) (f g : A → Text → Outcome) (rest_f restG : A → Text → Option ℕ)
    (same : (x : A) (p : Text) → good x ≡ true → C p → f x p ≡ g x p) (rests : (x : A) (p : Text) → good x ≡ true → C p → rest_f x p ≡ restG x p)
    (next : (x : A) (p q : Text) → good x ≡ true → C p → f x p ≡ path q → C q) where
  unaltered_same : (xs : List A) (n : ℕ) (p : Text) → every good xs ≡ true → C p → unaltered_length f rest_f xs n p ≡ unaltered_length g restG xs n p
  unfolding unaltered_length every
  unaltered_same [] n p e c = refl
  unaltered_same (x ∷ xs) n p e c =
      rw (rests x p first c) (by (f x p) refl (unaltered_same xs fewer) ∙ ap (next_length (unaltered_length g restG xs fewer)) (same x p first c))
    where
      first : good x ≡ true
      first = and_l (good x) (every good xs) e

      fewer : ℕ
      fewer = min n (length (rest_text p (restG x p)))

      by : (o : Outcome) → f x p ≡ o → ((q : Text) → every good xs ≡ true → C q → unaltered_length f rest_f xs fewer q ≡ unaltered_length g restG xs fewer q)
          → next_length (unaltered_length f rest_f xs fewer) o ≡ next_length (unaltered_length g restG xs fewer) o
      by (path q) h ih = ih q (and_r (good x) (every good xs) e) (next x p q first c h)
      by (refused y) h ih = refl

-- Out: a path without selections has the rest of plain mapping.
out_rest : (m : Map) (p : Text) → sound_map m ≡ true → SelectionFreePath p → translated_rest m p ≡ plain_rest false m p
unfolding translated_rest plain_rest
out_rest m p s c = rw c.is_plain

out_unaltered : (legs : List Leg) (n : ℕ) (p : Text) → every sound_map (map leg_map legs) ≡ true → SelectionFreePath p
    → unaltered_length outward (leg_rest false) legs n p ≡ unaltered_length (leg_fast false) (plain_rest false) (map leg_map legs) n p
unfolding outward leg_rest
out_unaltered legs n p s c =
    unaltered_map translate_checked translated_rest leg_map legs n p
    ∙ unaltered_same SelectionFreePath sound_map translate_checked (leg_fast false) translated_rest (plain_rest false) out_leg out_rest out_next (map leg_map legs) n p s c

-- Home: the rest is that of plain mapping backwards for any path.
home_rest : (m : Map) (p : Text) → sound_map m ≡ true → Whole p → target_rest m p ≡ plain_rest true m p
unfolding plain_rest
home_rest m p s c = refl

home_unaltered : (legs : List Leg) (n : ℕ) (p : Text) → every sound_map (map leg_map legs) ≡ true → Whole p
    → unaltered_length homeward (leg_rest true) (reverse legs) n p ≡ unaltered_length (leg_fast true) (plain_rest true) (reverse (map leg_map legs)) n p
unfolding homeward leg_rest
home_unaltered legs n p s c =
    unaltered_map map_back_checked target_rest leg_map (reverse legs) n p
    ∙ ap (λ (ms : List Map). unaltered_length map_back_checked target_rest ms n p) (map_reverse leg_map legs)
    ∙ unaltered_same Whole sound_map map_back_checked (leg_fast true) target_rest (plain_rest true) home_leg home_rest home_next (reverse (map leg_map legs)) n p
    (every_reverse sound_map (map leg_map legs) s) c

module _ (s : LentRoute) where
  rest_without_legs : (p : Text) → route_rest false [] p ≡ route_rest_fast false s 0 p
  unfolding route_rest route_rest_fast rest_fast is_stripped unaltered_over unaltered_fast unaltered_length maps_in
  rest_without_legs p = refl

  out_rests : (n : ℕ) (legs : List Leg) → length legs ≡ n → maps_in s n ≡ map leg_map legs → every sound_map (map leg_map legs) ≡ true → (p : Text) → Whole p
      → route_rest false legs p ≡ route_rest_fast false s n p
  unfolding route_rest route_rest_fast rest_fast is_stripped unaltered_over unaltered_fast
  out_rests zero [] l e sound p c = rest_without_legs p
  out_rests zero (x ∷ legs) l e sound p c = absurd (omega arith)
  out_rests (suc n) [] l e sound p c = absurd (omega arith)
  out_rests (suc n) (x ∷ legs) l e sound p c = go (has_variant_selection p) refl
    where
      go : (b : Bool) → has_variant_selection p ≡ b
          → cond b None (Some (length p - unaltered_length outward (leg_rest false) (x ∷ legs) (length p) p))
          ≡ cond b None (Some (length p - unaltered_length (leg_fast false) (plain_rest false) (maps_in s (suc n)) (length p) p))
      go true h = refl
      go false h =
          rw e
          (ap (λ (k : ℕ). Some (length p - k))
          (out_unaltered (x ∷ legs) (length p) p sound (record { is_legal = c.is_legal; is_short = c.is_short; is_plain = h })))

  home_rests : (n : ℕ) (legs : List Leg) → length legs ≡ n → maps_in s n ≡ map leg_map legs → every sound_map (map leg_map legs) ≡ true → (p : Text) → Whole p
      → route_rest true legs p ≡ route_rest_fast true s n p
  unfolding route_rest route_rest_fast rest_fast is_stripped unaltered_over unaltered_fast
  home_rests n legs l e sound p c = rw e (ap (λ (k : ℕ). Some (length p - k)) (home_unaltered legs (length p) p sound c))

  rest_maps : (home : Bool) (n : ℕ) (legs : List Leg) → length legs ≡ n → maps_in s n ≡ map leg_map legs → every sound_map (map leg_map legs) ≡ true → (p : Text) → Whole p
      → route_rest home legs p ≡ route_rest_fast home s n p
  rest_maps false = out_rests
  rest_maps true = home_rests

-- Over maps prepared from validated legs, the code finds the rest of the definitions.
pub fast_rest : (r s : LentRoute) (home : Bool) (n : ℕ) → Prepared r s n → ((k : ℕ) → k < n → ValidList (list_at r k)) → (p : Text) → Whole p
    → route_rest home (legs_in r n) p ≡ route_rest_fast home s n p
fast_rest r s home n h sound = rest_maps s home n (legs_in r n) (legs_length r n) (prepared_maps r s n h) (sound_legs r n sound)
