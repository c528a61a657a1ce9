-- Lemmas about the branches of `run_direction`, `enter_route`, `run_path` and the calls.
use Rattle.std.specs.Option.{unwrap_or}
use Rattle.std.specs.Prelude.{Result, Ok, Err, Option, Some, None, ⊤}
use mathlib.Core.Path.{◌≡◌, refl, sym, ap, ◌∙◌}
use mathlib.Core.Logic.{◌≢◌}
use mathlib.Core.Bool.{Bool, true, false, not, cond}
use mathlib.Core.List.{[], ◌∷◌, reverse}
use Prim.Native.Nat.{ℕ, zero, suc, ◌-◌, ◌≤◌, ◌<◌}
use native.Mathlib.Omega.{arith}
use lib.ListN.{length, take}
use lib.Seq.{length-take-le}
use borrow.Author.Tests.{le-leb}
use Rattle.text.specs.Text.{Text, written_if_fits}
use Rattle.text.proofs.BoolLaws.{not_true, not_false}
use Rattle.text.proofs.WriteLaws.{placed_first, read_back}
use Rattle.path_grammar.specs.Legal.{at_most255}
use Rattle.path_parts.specs.Strip.{strip, strip_fit, strip_buffer}
use Rattle.path_grammar.specs.Own.{has_variant_selection}
use Rattle.path_parts.proofs.StripLaws.{strip_same, strip_back, strip_inside, strip_never}
use Rattle.refusal.specs.declared.Refusal.{Refusal}
use Rattle.refusal.specs.declared.Refusal.TheVariants.{NoRoom}
use Rattle.refusal.specs.Outcome.{Outcome, path, refused, outcome_reply, outcome_buffer, after_checks}
use Rattle.path_rest.specs.Carried.{with_rest, ReturnsCarried}
use Rattle.path_rest.proofs.CarriedLaws.{rest_if_path}
use Rattle.map_apply.specs.Fast.{plain_rest}
use Rattle.path.specs.Calls.{path_new_call}
use Rattle.refusal.proofs.CallBranches.{answered_refused, answered_short, answered_passed, answered_same}
use Rattle.validate.specs.Validate.{first_refusal}
use Rattle.validate.proofs.RefusalLaws.{none_earlier}
use Rattle.route_legs.specs.LentRoute.{LentRoute, legs_in, map_legs, validate_route}
use Rattle.route_maps.specs.Prepared.{Prepared, PreparedIfPassed}
use Rattle.route_legs.proofs.RouteLaws.{route_one_by_one, route_sound, route_short, route_legal}
use Rattle.route_maps.proofs.PreparedLaws.{prepared_itself}
use Rattle.route_spec.specs.Route.{run_route}
use Rattle.route_spec.specs.Rest.{is_stripped, route_rest}
use Rattle.route_spec.proofs.RestTheorem.{unaltered_le}
use Rattle.route.specs.Calls.{route_call}
use Rattle.route.specs.Fast.{leg_fast, maps_in, run_route_fast, entering_path, HoldsPath, needs_maps, after_route_validated}
use Rattle.route.specs.declared.Run.{Run}
use Rattle.route.specs.Unaltered.{unaltered_fast, rest_fast, route_rest_fast, HoldsRun}
use Rattle.route.proofs.FastLaws.{Whole, fast_run_lem, fast_map_legs}
use Rattle.route.proofs.RestLaws.{fast_rest}
use Rattle.route.proofs.Corollary.{answered_path}
use Rattle.route.proofs.RunBranches.{holds_path, holds_refused, holds_inside}

-- No leg adds to the unaltered bytes.
fast_le : (home : Bool) (s : LentRoute) (n k : ℕ) (p : Text) → unaltered_fast home s n k p ≤ k
unfolding unaltered_fast
fast_le false s n k p = unaltered_le (leg_fast false) (plain_rest false) (maps_in s n) k p
fast_le true s n k p = unaltered_le (leg_fast true) (plain_rest true) (reverse (maps_in s n)) k p

-- `run_direction`
pub run_is : (home b : Bool) (s : LentRoute) (n k : ℕ) (p : Text) (r : Run) (mem : Text) → home ≡ b → HoldsRun (run_route_fast b s n p) (unaltered_fast b s n k p) r mem
    → HoldsRun (run_route_fast home s n p) (unaltered_fast home s n k p) r mem
run_is home b s n k p r mem h w = rw h w

-- `enters_stripped`
module _ (home : Bool) (n : ℕ) (p : Text) where
  pub strips_home : home ≡ true → false ≡ is_stripped home n p
  unfolding is_stripped
  strips_home h = rw h

  pub strips_none : home ≡ false → n ≡ 0 → false ≡ is_stripped home n p
  unfolding is_stripped
  strips_none h k = rw (h, k)

  pub strips_first : home ≡ false → n ≢ 0 → (b : Bool) → b ≡ has_variant_selection p → b ≡ is_stripped home n p
  unfolding is_stripped
  strips_first h k b e = rw h (go n k)
    where
      go : (n : ℕ) → n ≢ 0 → b ≡ is_stripped false n p
      go zero k = absurd (k refl)
      go (suc n) k = e

pub ruleset stripping = (strips_home, strips_none, strips_first)

-- The path enters the first leg without its selections exactly if that leg strips some.
pub entering_is : (home : Bool) (n : ℕ) (p : Text) → entering_path home n p ≡ cond (is_stripped home n p) (strip p) p
unfolding entering_path is_stripped
entering_is false zero p = refl
entering_is false (suc n) p = go (has_variant_selection p) refl
  where
    go : (b : Bool) → has_variant_selection p ≡ b → strip p ≡ cond b (strip p) p
    go true h = refl
    go false h = strip_same p h
entering_is true n p = refl

-- `enter_route`
module _ (b : Bool) (p here : Text) (l : length here ≡ 255) (s : length p ≤ 255) where
  fits_here : length p ≤ length here
  fits_here = omega (arith, l, s)

  pub enter_kept : not b ≡ true → (here' : Text) → here' ≡ written_if_fits 0 p here → HoldsPath (cond b (strip p) p) (length p) here'
  unfolding HoldsPath
  enter_kept h here' w = rw (not_true b h) (rw (w, placed_first p here fits_here) (read_back p here), s)

  module _ (f : Option ℕ) (e : f ≡ strip_fit p here) (h : not b ≡ false) where
    pub enter_stripped : (j : ℕ) → j ≡ unwrap_or f 0 → (here' : Text) → here' ≡ strip_buffer p here → length here' ≡ 255 → HoldsPath (cond b (strip p) p) j here'
    unfolding HoldsPath
    enter_stripped j g here' w z = go f refl
      where
        go : (o : Option ℕ) → f ≡ o → (take j here' ≡ cond b (strip p) p) × (j ≤ 255)
        go None k = absurd (strip_never p here f fits_here e k)
        go (Some m) k =
            let y : f ≡ Some j = k ∙ ap Some (sym (g ∙ ap (λ (x : Option ℕ). unwrap_or x 0) k)) in
            rw (not_false b h) (strip_back p here f fits_here e j y here' w, omega (arith, strip_inside p here f fits_here e j y here' w, z))

pub entered_size : (t : Text) (k : ℕ) (mem : Text) → HoldsPath t k mem → k ≤ 255
unfolding HoldsPath
entered_size t k mem e = e.1

-- `run_path`: the path that enters the first leg, and the run over all legs.
module _ (home : Bool) (s : LentRoute) (n : ℕ) (p : Text) (stripped : Bool) (f : stripped ≡ is_stripped home n p) (k : ℕ) (here : Text)
    (e : HoldsPath (cond stripped (strip p) p) k here) (r : Run) (there : Text)
    (h : HoldsRun (run_route_fast home s n (take k here)) (unaltered_fast home s n k (take k here)) r there) where
  abbrev whole : Outcome
  whole = run_route_fast home s n (entering_path home n p)

  same_run : whole ≡ run_route_fast home s n (take k here)
  unfolding HoldsPath
  same_run = ap (run_route_fast home s n) (entering_is home n p ∙ rw (← f) (sym e.0))

  pub run_refused : (x : Refusal) → r.reply ≡ Err x → (c : Result (ℕ × Option ℕ) Refusal) → c ≡ with_rest r.reply None → (rest : Option ℕ) (out : Text) → ReturnsCarried whole rest c out out
  unfolding outcome_reply outcome_buffer with_rest
  run_refused x w c g rest out = rw (same_run ∙ holds_refused (run_route_fast home s n (take k here)) r.reply there h.outcome x w) (g ∙ rw w refl, refl)

  module _ (m : ℕ) (w : r.reply ≡ Ok m) where
    pub run_inside : m ≤ length there
    run_inside = holds_inside (run_route_fast home s n (take k here)) r.reply there h.outcome m w

    -- Without stripping, all bytes of the path entered the first leg, and no leg adds to the unaltered ones.
    module _ (l : length here ≡ 255) (g : stripped ≡ false) where
      entered : (take k here ≡ p) × (k ≡ length p)
      unfolding HoldsPath
      entered =
          let same : take k here ≡ p = rw g at e.0 in
          (same, sym (length-take-le k here (omega (arith, l, e.1))) ∙ ap length same)

      all_unaltered : r.unaltered ≡ unaltered_fast home s n (length p) p
      all_unaltered = h.unaltered_is m w ∙ rw (entered.0, entered.1)

      pub unaltered_inside : r.unaltered ≤ length p
      unaltered_inside = rw all_unaltered (fast_le home s n (length p) p)

    rest_is : length here ≡ 255 → rest_fast stripped (length p) r.unaltered ≡ route_rest_fast home s n p
    unfolding route_rest_fast rest_fast
    rest_is l = rw (← f) (go stripped refl)
      where
        go : (b : Bool) → stripped ≡ b
            → cond b None (Some (length p - r.unaltered)) ≡ cond b None (Some (length p - unaltered_fast home s n (length p) p))
        go true g = refl
        go false g = ap (λ (j : ℕ). Some (length p - j)) (all_unaltered l g)

    pub run_written : length here ≡ 255 → length there ≡ 255 → (rest : Option ℕ) → rest ≡ rest_fast stripped (length p) r.unaltered → (c : Result (ℕ × Option ℕ) Refusal) → c ≡ with_rest (Ok m) rest
        → (out out' : Text) → 255 ≤ length out → out' ≡ written_if_fits 0 (take m there) out → ReturnsCarried whole (route_rest_fast home s n p) c out out'
    unfolding outcome_reply outcome_buffer
    run_written l z rest t c g out out' a d =
        let size : length (take m there) ≡ m = length-take-le m there run_inside in
        rw (same_run ∙ holds_path (run_route_fast home s n (take k here)) r.reply there h.outcome m w) (
          g ∙ ap (with_rest (Ok m)) (t ∙ rest_is l) ∙ ap (λ (j : ℕ). with_rest (Ok j) (route_rest_fast home s n p)) (sym size),
          d ∙ placed_first (take m there) out (omega (arith, run_inside, z, a, size)),
        )

-- `route_after`
module _ (list : Result ⊤ Refusal) (home : Bool) (s : LentRoute) (p : Text) (room : ℕ) (n q : Result ⊤ Refusal) (g : n ≡ path_new_call p) (h : q ≡ first_refusal list n) where
  abbrev way : Outcome
  way = run_route_fast home s s.count (entering_path home s.count p)

  both : q ≡ first_refusal list (path_new_call p)
  both = h ∙ ap (first_refusal list) g

  pub after_refused : (x : Refusal) → q ≡ Err x → after_route_validated list home s p room ≡ refused x
  unfolding after_route_validated
  after_refused x k = answered_refused (first_refusal list (path_new_call p)) room way q both x k

  pub after_short : q ≡ Ok tt → room < 255 → after_route_validated list home s p room ≡ refused NoRoom
  unfolding after_route_validated
  after_short k l = answered_short (first_refusal list (path_new_call p)) room way q both k l

  pub after_passed : q ≡ Ok tt → 255 ≤ room → after_route_validated list home s p room ≡ way
  unfolding after_route_validated
  after_passed k l = answered_passed (first_refusal list (path_new_call p)) room way q both k l

-- `route_call`: with the result of the route's validation, and, if it passed, with prepared maps that are those of the legs, the remainder
-- is the call.
module _ (home : Bool) (r : LentRoute) (p : Text) (room : ℕ) (list : Result ⊤ Refusal) (e : list ≡ validate_route r []) where
  validated_same : first_refusal list (path_new_call p) ≡ validate_route r (p ∷ [])
  validated_same = ap (λ (a : Result ⊤ Refusal). first_refusal a (path_new_call p)) e ∙ route_one_by_one r p

  whole_path : validate_route r (p ∷ []) ≡ Ok tt → Whole p
  unfolding at_most255
  whole_path h = record { is_legal = route_legal r p h; is_short = le-leb (length p) 255 (route_short r p h) }

  module _ (s : LentRoute) (k : s.count ≡ r.count) (ready : list ≡ Ok tt → Prepared r s r.count) where
    validated_rest : validate_route r (p ∷ []) ≡ Ok tt → route_rest home (legs_in r r.count) p ≡ route_rest_fast home s s.count p
    validated_rest h =
        fast_rest r s home r.count (ready (none_earlier list (path_new_call p) (validated_same ∙ h)).0) (route_sound r (p ∷ []) h) p (whole_path h)
        ∙ ap (λ (n : ℕ). route_rest_fast home s n p) (sym k)

    run_same : validate_route r (p ∷ []) ≡ Ok tt → run_route home (legs_in r r.count) p ≡ run_route_fast home s s.count (entering_path home s.count p)
    run_same h =
        fast_run_lem r s home r.count (ready (none_earlier list (path_new_call p) (validated_same ∙ h)).0) (route_sound r (p ∷ []) h) p (whole_path h)
        ∙ ap (λ (n : ℕ). run_route_fast home s n (entering_path home n p)) (sym k)

    pub call_is_after : route_call home r p room ≡ after_route_validated list home s p room
    unfolding route_call after_route_validated
    call_is_after =
        answered_same (validate_route r (p ∷ [])) room (run_route home (legs_in r r.count) p) (run_route_fast home s s.count (entering_path home s.count p)) run_same
        ∙ ap (λ (a : Result ⊤ Refusal). after_checks a room (run_route_fast home s s.count (entering_path home s.count p))) (sym validated_same)

    -- The rest matters only if the call is accepted.
    pub call_returns : (c : Result (ℕ × Option ℕ) Refusal) (out out' : Text) → ReturnsCarried (after_route_validated list home s p room) (route_rest_fast home s s.count p) c out out'
        → ReturnsCarried (route_call home r p room) (route_rest home (legs_in r r.count) p) c out out'
    unfolding route_call
    call_returns c out out' w =
        let accepted : (q : Text) → route_call home r p room ≡ path q → route_rest home (legs_in r r.count) p ≡ route_rest_fast home s s.count p = λ q e. validated_rest (passed q e) in
        let rests = rest_if_path (route_call home r p room) (route_rest home (legs_in r r.count) p) (route_rest_fast home s s.count p) accepted in
        let returned : ReturnsCarried (route_call home r p room) (route_rest_fast home s s.count p) c out out' = rw call_is_after w in
        (returned.0 ∙ sym rests, returned.1)
      where
        passed : (q : Text) → route_call home r p room ≡ path q → validate_route r (p ∷ []) ≡ Ok tt
        passed q e = (answered_path (validate_route r (p ∷ [])) room (run_route home (legs_in r r.count) p) q e).0

  -- A route without relocate lists is used unchanged.
  module _ (b : Bool) (h : b ≡ needs_maps list r.legs r.count) (k : not b ≡ true) where
    as_it_is : list ≡ Ok tt → Prepared r r r.count
    unfolding needs_maps
    as_it_is w = prepared_itself r r.count (sym (rw w at h) ∙ not_true b k)

    pub call_as_it_is : route_call home r p room ≡ after_route_validated list home r p room
    call_as_it_is = call_is_after r refl as_it_is

    pub returns_as_it_is : (c : Result (ℕ × Option ℕ) Refusal) (out out' : Text) → ReturnsCarried (after_route_validated list home r p room) (route_rest_fast home r r.count p) c out out'
        → ReturnsCarried (route_call home r p room) (route_rest home (legs_in r r.count) p) c out out'
    returns_as_it_is = call_returns r refl as_it_is

  -- A route with relocate lists is used with its prepared maps.
  module _ (s : LentRoute) (k : s.count ≡ r.count) (l : length s.places ≡ 4096) (m : length s.legs ≡ 48) (ready : PreparedIfPassed r s r.count) where
    prepared : list ≡ Ok tt → Prepared r s r.count
    unfolding PreparedIfPassed
    prepared w = ready (sym e ∙ w) l m

    pub call_prepared : route_call home r p room ≡ after_route_validated list home s p room
    call_prepared = call_is_after s k prepared

    pub returns_prepared : (c : Result (ℕ × Option ℕ) Refusal) (out out' : Text) → ReturnsCarried (after_route_validated list home s p room) (route_rest_fast home s s.count p) c out out'
        → ReturnsCarried (route_call home r p room) (route_rest home (legs_in r r.count) p) c out out'
    returns_prepared = call_returns s k prepared

-- Over validated legs that are all maps, and a validated path, the quick way is the route over these maps.
pub validated_maps_run : (home : Bool) (r : LentRoute) (p : Text) → validate_route r (p ∷ []) ≡ Ok tt → after_route_validated (Ok tt) home r p 255 ≡ run_route home (map_legs r r.count) p
unfolding after_route_validated first_refusal after_checks
validated_maps_run home r p h =
    let is-new : path_new_call p ≡ (Ok tt) = (none_earlier (validate_route r []) (path_new_call p) (route_one_by_one r p ∙ h)).1 in
    let whole : Whole p = record { is_legal = route_legal r p h; is_short = le-leb (length p) 255 (route_short r p h) } in
    rw is-new (sym (fast_map_legs r home r.count (route_sound r (p ∷ []) h) p whole))
