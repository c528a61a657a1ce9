-- Meaning: The part of a path that every leg of a route carries over unaltered: its last bytes, as many as the shortest of the legs' rests has.
use Rattle.std.specs.Prelude.{ℕ, zero, suc, ◌-◌, min, ◌≡◌, Bool, true, false, cond, List, [], ◌∷◌, reverse, length, Option, Some, None}
use Rattle.text.specs.Text.{Text}
use Rattle.path_grammar.specs.Own.{has_variant_selection}
use Rattle.path_grammar.specs.Legal.{legal, at_most255}
use Rattle.refusal.specs.Outcome.{Outcome, path, refused}
use Rattle.path_rest.specs.Rest.{rest_text, EndsWith}
use Rattle.map_rest.specs.MapRest.{target_rest, translated_rest}
use Rattle.route_spec.specs.Leg.{Leg, leg_map, outward, homeward}
use Rattle.route_spec.specs.Route.{route_ends, run_route}

-- The rest of the path p that reaches a leg on the way out, or home if the flag is set: that of translation, or of plain mapping backwards.
unfoldable pub leg_rest : Bool → Leg → Text → Option ℕ
unfolding leg_map target_rest translated_rest
leg_rest false x p = translated_rest (leg_map x) p
leg_rest true x p = target_rest (leg_map x) p

-- Continues with the path that a leg yields; after a refusal nothing is unaltered.
abbrev pub next_length : (Text → ℕ) → Outcome → ℕ
next_length next (path q) = next q
next_length next (refused x) = 0

-- The number of bytes at the end of a path that these legs carry over unaltered, if the legs before them did so with n bytes: each leg lowers
-- it to the length of its rest, which is the end of the path that reached the leg and of the path that it yields.
unfoldable pub unaltered_length : {A : Type 0} → (A → Text → Outcome) → (A → Text → Option ℕ) → List A → ℕ → Text → ℕ
unfolding rest_text
unaltered_length go rest [] n p = n
unaltered_length go rest (x ∷ xs) n p = next_length (unaltered_length go rest xs (min n (length (rest_text p (rest x p))))) (go x p)

-- The same for a whole route and the path p, of which all bytes are unaltered before the first leg.
unfoldable pub unaltered_over : Bool → List Leg → Text → ℕ
unfolding unaltered_length leg_rest
unaltered_over false legs p = unaltered_length outward (leg_rest false) legs (length p) p
unaltered_over true legs p = unaltered_length homeward (leg_rest true) (reverse legs) (length p) p

-- Of a route of n legs, the first one strips selections from the path p: on the way out it does. Requirements: "`translate_to_target` strips
-- selections".
unfoldable pub is_stripped : Bool → ℕ → Text → Bool
unfolding has_variant_selection
is_stripped false zero p = false
is_stripped false (suc n) p = has_variant_selection p
is_stripped true n p = false

-- The rest of a path over a route. Requirements: "gives the rest only where there is no selection to strip, and an empty part otherwise."
unfoldable pub route_rest : Bool → List Leg → Text → Option ℕ
unfolding is_stripped unaltered_over
route_rest home legs p = cond (is_stripped home (length legs) p) None (Some (length p - unaltered_over home legs p))

-- Theorem (proofs/RestTheorem.antt): for every accepted route the rest is the end of the path given and of the path made.
abbrev pub RouteRestUnaltered : Type 0
RouteRestUnaltered =
    (home : Bool) (legs : List Leg) (p q : Text) → route_ends legs ≡ true → legal p ≡ true → at_most255 p ≡ true → run_route home legs p ≡ path q
    → EndsWith p (rest_text p (route_rest home legs p)) × EndsWith q (rest_text p (route_rest home legs p))
