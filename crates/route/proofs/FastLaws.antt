-- Lemmas about the route as the code computes it: for validated legs it is the route of the definitions.
use mathlib.Core.Path.{◌≡◌, refl, sym, ap, ◌∙◌}
use mathlib.Core.Bool.{Bool, true, false, ◌&&◌}
use mathlib.Core.List.{List, [], ◌∷◌, ◌++◌, map, map-append, reverse, reverse-cons}
use Prim.Native.Nat.{ℕ, zero, suc, ◌<◌}
use native.Mathlib.Omega.{arith}
use lib.ListN.{length, length-append}
use borrow.Author.Tests.{le-leb}
use Rattle.text.specs.Text.{Text}
use Rattle.text.proofs.BoolLaws.{and_l, and_r}
use Rattle.path_grammar.specs.Legal.{legal, at_most255}
use Rattle.path_parts.specs.Strip.{strip}
use Rattle.path_parts.proofs.StripLaws.{strip_shorter, strip_free, strip_same, strip_legal}
use Rattle.pair_list.specs.Pair.{Pair, all_ends, all_short}
use Rattle.refusal.specs.Outcome.{Outcome, path, refused}
use Rattle.validate.specs.Validate.{pairs_of, every, ValidList}
use Rattle.map_spec.specs.Map.{Map, map_target_to_source, translate_to_target}
use Rattle.map_spec.specs.Leg.{translate_checked, map_back_checked, SelectionFreePath}
use Rattle.map_spec.proofs.OutcomeLaws.{checked_path}
use Rattle.map_spec.proofs.LegLaws.{leg_next}
use Rattle.map_apply.proofs.FastLaws.{fast_home as home-fast, fast_translated}
use Rattle.route_spec.specs.Leg.{Leg, by_map, leg_map, outward, homeward}
use Rattle.route_spec.specs.Route.{and_then, fold_legs, run_route}
use Rattle.route_spec.proofs.RelocateLaws.{relocate_ends, relocate_short}
use Rattle.route_legs.specs.LentRoute.{LentRoute, kind_at, list_at, leg_of, leg_at, legs_in, map_at, map_legs}
use Rattle.route_maps.specs.Prepared.{Prepared}
use Rattle.route.specs.Fast.{leg_fast, maps_in, run_route_fast, entering_path}
use Rattle.path_grammar.proofs.LegalLaws.{fits_short}

-- A route over legs is the route over their maps.
fold_map : {A B : Type 0} (go : B → Text → Outcome) (f : A → B) (xs : List A) (p : Text) → fold_legs (λ (x : A). go (f x)) xs p ≡ fold_legs go (map f xs) p
unfolding fold_legs
fold_map go f [] p = refl
fold_map {A} go f (x ∷ xs) p = by (go (f x) p) (fold_map go f xs)
  where
    by : (o : Outcome) → ((q : Text) → fold_legs (λ (y : A). go (f y)) xs q ≡ fold_legs go (map f xs) q)
        → and_then (fold_legs (λ (y : A). go (f y)) xs) o ≡ and_then (fold_legs go (map f xs)) o
    by (path q) ih = ih q
    by (refused x) ih = refl

-- Two routes are equal if each leg yields the same for the path that reaches it.
fold_same : {A : Type 0} (C : Text → Type 0) (good : A → Bool) (f g : A → Text → Outcome)
    → ((x : A) (p : Text) → good x ≡ true → C p → f x p ≡ g x p) → ((x : A) (p q : Text) → good x ≡ true → C p → f x p ≡ path q → C q)
    → (xs : List A) (p : Text) → every good xs ≡ true → C p → fold_legs f xs p ≡ fold_legs g xs p
unfolding fold_legs every
fold_same C good f g same next [] p e c = refl
fold_same C good f g same next (x ∷ xs) p e c =
    by (f x p) refl (fold_same C good f g same next xs) ∙ ap (and_then (fold_legs g xs)) (same x p first c)
  where
    first : good x ≡ true
    first = and_l (good x) (every good xs) e

    by : (o : Outcome) → f x p ≡ o → ((q : Text) → every good xs ≡ true → C q → fold_legs f xs q ≡ fold_legs g xs q) → and_then (fold_legs f xs) o ≡ and_then (fold_legs g xs) o
    by (path q) h ih = ih q (and_r (good x) (every good xs) e) (next x p q first c h)
    by (refused n) h ih = refl

-- Every end is a prim path, `/` or empty, and has at most 255 bytes.
abbrev pub sound_map : Map → Bool
sound_map m = all_ends m.pairs && all_short m.pairs

module _ (m : Map) (s : sound_map m ≡ true) where
  its_ends : all_ends m.pairs ≡ true
  its_ends = and_l (all_ends m.pairs) (all_short m.pairs) s

  its_shorts : all_short m.pairs ≡ true
  its_shorts = and_r (all_ends m.pairs) (all_short m.pairs) s

-- The direction out, for a path without selections.
pub out_leg : (m : Map) (p : Text) → sound_map m ≡ true → SelectionFreePath p → translate_checked m p ≡ leg_fast false m p
unfolding translate_checked translate_to_target leg_fast
out_leg m p s c =
    rw (strip_same p c.is_plain) (sym (fast_translated m p (its_ends m s) (its_shorts m s) c.is_legal (fits_short p c.is_short)))

pub out_next : (m : Map) (p q : Text) → sound_map m ≡ true → SelectionFreePath p → translate_checked m p ≡ path q → SelectionFreePath q
out_next m p q s c = leg_next m (its_ends m s) p q c

fast_out_run : (ms : List Map) (p : Text) → every sound_map ms ≡ true → SelectionFreePath p → fold_legs translate_checked ms p ≡ fold_legs (leg_fast false) ms p
fast_out_run = fold_same SelectionFreePath sound_map translate_checked (leg_fast false) out_leg out_next

-- The direction home, for any path.
pub record Whole (p : Text) : Type 0 where
  pub is_legal : legal p ≡ true
  pub is_short : at_most255 p ≡ true

pub home_leg : (m : Map) (p : Text) → sound_map m ≡ true → Whole p → map_back_checked m p ≡ leg_fast true m p
unfolding map_back_checked leg_fast
home_leg m p s c = sym (home-fast m p (its_ends m s) c.is_legal (fits_short p c.is_short))

pub home_next : (m : Map) (p q : Text) → sound_map m ≡ true → Whole p → map_back_checked m p ≡ path q → Whole q
unfolding map_back_checked
home_next m p q s c h = let w = checked_path (map_target_to_source m p) q h in record { is_legal = w.2; is_short = w.1 }

fast_home_run : (ms : List Map) (p : Text) → every sound_map ms ≡ true → Whole p → fold_legs map_back_checked ms p ≡ fold_legs (leg_fast true) ms p
fast_home_run = fold_same Whole sound_map map_back_checked (leg_fast true) home_leg home_next

-- The first leg strips the selections, so they may be stripped before it.
strip_first : (m : Map) (ms : List Map) (p : Text) → fold_legs translate_checked (m ∷ ms) p ≡ fold_legs translate_checked (m ∷ ms) (strip p)
unfolding fold_legs translate_checked translate_to_target
strip_first m ms p = rw (strip_same (strip p) (strip_free p))

strip_plain : (p : Text) → Whole p → SelectionFreePath (strip p)
unfolding at_most255
strip_plain p c = record {
  is_legal = strip_legal p c.is_legal;
  is_short = le-leb (length (strip p)) 255 (omega (arith, strip_shorter p, fits_short p c.is_short));
  is_plain = strip_free p;
}

-- The maps of legs whose lists passed validation.
sound_leg : (k : ℕ) (l : List Pair) → all_ends l ≡ true → all_short l ≡ true → sound_map (leg_map (leg_of k l)) ≡ true
unfolding leg_of leg_map
sound_leg zero l e s = rw (e, s)
sound_leg (suc zero) l e s = rw (e, s)
sound_leg (suc (suc k)) l e s = rw (relocate_ends l e, relocate_short l s)

every_snoc : {A : Type 0} (good : A → Bool) (xs : List A) (x : A) → every good xs ≡ true → good x ≡ true → every good (xs ++ x ∷ []) ≡ true
unfolding every
every_snoc good [] x e h = rw h
every_snoc good (y ∷ xs) x e h = rw (and_l (good y) (every good xs) e) (every_snoc good xs x (and_r (good y) (every good xs) e) h)

pub every_reverse : {A : Type 0} (good : A → Bool) (xs : List A) → every good xs ≡ true → every good (reverse xs) ≡ true
unfolding every
every_reverse good [] e = refl
every_reverse good (x ∷ xs) e =
    rw (reverse-cons x xs) (every_snoc good (reverse xs) x (every_reverse good xs (and_r (good x) (every good xs) e)) (and_l (good x) (every good xs) e))

pub map_reverse : {A B : Type 0} (f : A → B) (xs : List A) → map f (reverse xs) ≡ reverse (map f xs)
map_reverse f [] = refl
map_reverse f (x ∷ xs) =
    rw (reverse-cons x xs, reverse-cons (f x) (map f xs), map-append f (reverse xs) (x ∷ []), map_reverse f xs)

-- The route over legs whose maps are those of a route of maps.
module _ (s : LentRoute) where
  no_legs : (p : Text) → run_route false [] p ≡ run_route_fast false s 0 (entering_path false 0 p)
  unfolding run_route run_route_fast entering_path maps_in fold_legs
  no_legs p = refl

  out_maps : (n : ℕ) (legs : List Leg) → length legs ≡ n → maps_in s n ≡ map leg_map legs → every sound_map (map leg_map legs) ≡ true → (p : Text) → Whole p
      → run_route false legs p ≡ run_route_fast false s n (entering_path false n p)
  unfolding run_route run_route_fast entering_path outward
  out_maps zero [] l e sound p c = no_legs p
  out_maps zero (x ∷ legs) l e sound p c = absurd (omega arith)
  out_maps (suc n) [] l e sound p c = absurd (omega arith)
  out_maps (suc n) (x ∷ legs) l e sound p c =
      rw e
      (fold_map translate_checked leg_map (x ∷ legs) p
      ∙ strip_first (leg_map x) (map leg_map legs) p
      ∙ fast_out_run (map leg_map (x ∷ legs)) (strip p) sound (strip_plain p c))

  home_maps : (n : ℕ) (legs : List Leg) → length legs ≡ n → maps_in s n ≡ map leg_map legs → every sound_map (map leg_map legs) ≡ true → (p : Text) → Whole p
      → run_route true legs p ≡ run_route_fast true s n (entering_path true n p)
  unfolding run_route run_route_fast entering_path homeward
  home_maps n legs l e sound p c =
      rw e
      (fold_map map_back_checked leg_map (reverse legs) p
      ∙ ap (λ (ms : List Map). fold_legs map_back_checked ms p) (map_reverse leg_map legs)
      ∙ fast_home_run (reverse (map leg_map legs)) p (every_reverse sound_map (map leg_map legs) sound) c)

  pub run_maps : (homeward : Bool) (n : ℕ) (legs : List Leg) → length legs ≡ n → maps_in s n ≡ map leg_map legs → every sound_map (map leg_map legs) ≡ true
      → (p : Text) → Whole p → run_route homeward legs p ≡ run_route_fast homeward s n (entering_path homeward n p)
  run_maps false = out_maps
  run_maps true = home_maps

module _ (r : LentRoute) where
  maps_snoc : (n : ℕ) → map leg_map (legs_in r (suc n)) ≡ map leg_map (legs_in r n) ++ leg_map (leg_at r n) ∷ []
  unfolding legs_in
  maps_snoc n = map-append leg_map (legs_in r n) (leg_at r n ∷ [])

  pub sound_legs : (n : ℕ) → ((k : ℕ) → k < n → ValidList (list_at r k)) → every sound_map (map leg_map (legs_in r n)) ≡ true
  unfolding legs_in leg_at every
  sound_legs zero s = refl
  sound_legs (suc n) s =
      rw (maps_snoc n)
      (every_snoc sound_map (map leg_map (legs_in r n)) (leg_map (leg_at r n)) (sound_legs n (λ k h. s k (omega arith)))
      (sound_leg (kind_at r.legs n) (pairs_of (list_at r n)) (s n (omega arith)).ends (s n (omega arith)).shorts))

  -- A prepared route has the maps of the legs.
  pub prepared_maps : (s : LentRoute) (n : ℕ) → Prepared r s n → maps_in s n ≡ map leg_map (legs_in r n)
  unfolding maps_in legs_in Prepared
  prepared_maps s zero h = refl
  prepared_maps s (suc n) h = rw (maps_snoc n, prepared_maps s n (λ k i. h k (omega arith)), h n (omega arith))

  pub legs_length : (n : ℕ) → length (legs_in r n) ≡ n
  unfolding legs_in
  legs_length zero = refl
  legs_length (suc n) = rw (length-append (legs_in r n) (leg_at r n ∷ []), legs_length n) (omega arith)

  pub fast_run_lem : (s : LentRoute) (homeward : Bool) (n : ℕ) → Prepared r s n → ((k : ℕ) → k < n → ValidList (list_at r k)) → (p : Text) → Whole p
      → run_route homeward (legs_in r n) p ≡ run_route_fast homeward s n (entering_path homeward n p)
  fast_run_lem s homeward n h sound = run_maps s homeward n (legs_in r n) (legs_length n) (prepared_maps s n h) (sound_legs n sound)

-- A route of maps alone: the quick way over its maps is the route over them as legs.
module _ (r : LentRoute) where
  maps_as_legs : (n : ℕ) → map leg_map (map_legs r n) ≡ maps_in r n
  unfolding map_legs maps_in leg_map
  maps_as_legs zero = refl
  maps_as_legs (suc n) = map-append leg_map (map_legs r n) (by_map (map_at r n) ∷ []) ∙ ap (λ (l : List Map). l ++ map_at r n ∷ []) (maps_as_legs n)

  map_legs_length : (n : ℕ) → length (map_legs r n) ≡ n
  unfolding map_legs
  map_legs_length zero = refl
  map_legs_length (suc n) = rw (length-append (map_legs r n) (by_map (map_at r n) ∷ []), map_legs_length n) (omega arith)

  sound_maps : (n : ℕ) → ((k : ℕ) → k < n → ValidList (list_at r k)) → every sound_map (maps_in r n) ≡ true
  unfolding maps_in map_at every
  sound_maps zero s = refl
  sound_maps (suc n) s =
      let valid = s n (omega arith) in
      every_snoc sound_map (maps_in r n) (map_at r n) (sound_maps n (λ k h. s k (omega arith))) (rw (valid.ends, valid.shorts) refl)

  pub fast_map_legs : (homeward : Bool) (n : ℕ) → ((k : ℕ) → k < n → ValidList (list_at r k)) → (p : Text) → Whole p
      → run_route homeward (map_legs r n) p ≡ run_route_fast homeward r n (entering_path homeward n p)
  fast_map_legs homeward n sound =
      run_maps r homeward n (map_legs r n) (map_legs_length n) (sym (maps_as_legs n)) (rw (maps_as_legs n) (sound_maps n sound))
