-- Meaning: The round-trip requirement (demand 3) for the calls themselves: their replies and the lent buffers after them are determined by
-- `route_call` (the contracts in src/lib.rt), so these statements are about the code. Proved in proofs/Corollary.antt.
use Rattle.std.specs.Prelude.{◌≡◌, ◌↔◌, true, false, [], ℕ, suc, ◌≤◌, length, take, Ok}
use Rattle.text.specs.Text.{Text}
use Rattle.path_grammar.specs.Own.{has_variant_selection}
use Rattle.pair_list.specs.Pair.{no_empty_source}
use Rattle.refusal.specs.Outcome.{path, outcome_reply, outcome_buffer}
use Rattle.map_spec.specs.Leg.{PlainRoundTrip}
use Rattle.route_spec.specs.Leg.{leg_map}
use Rattle.route_legs.specs.LentRoute.{LentRoute, lent_route, leg_at, validate_route}
use Rattle.route.specs.Calls.{route_call}

-- The route of the first k legs.
abbrev pub first_legs : LentRoute → ℕ → LentRoute
first_legs r k = lent_route r.store r.places r.legs k

-- The round-trip property of the calls on a route and a path.
pub record CallsReturn (r : LentRoute) (p : Text) : Type 0 where
  -- If a call out is accepted with n bytes, the call home on these bytes is accepted with the length of the starting path, and writes that
  -- path.
  pub home_again : (before after : Text) (n : ℕ) → outcome_reply (route_call false r p (length before)) ≡ Ok n → 255 ≤ length after
      → (q : Text) → q ≡ take n (outcome_buffer (route_call false r p (length before)) before)
      → (outcome_reply (route_call true r q (length after)) ≡ Ok (length p)) × (take (length p) (outcome_buffer (route_call true r q (length after)) after) ≡ p)
  -- Whether or not a later leg refuses: if the call over the first k legs yields t, then the call over one leg more, which passes
  -- validation and whose map has no empty source, yields q exactly if plain mapping through that map takes t to q, a legal path of at most
  -- 255 bytes, and q plainly back to t.
  pub exact : (k room : ℕ) (t : Text) → route_call false (first_legs r k) p room ≡ path t → validate_route (first_legs r (suc k)) [] ≡ Ok tt
      → no_empty_source (leg_map (leg_at r k)).pairs ≡ true
      → (q : Text) → (route_call false (first_legs r (suc k)) p room ≡ path q) ↔ PlainRoundTrip (leg_map (leg_at r k)) t q

-- The property holds for every route in lent memory and every path without variant selections.
abbrev pub CallsReturnAlways : Type 0
CallsReturnAlways = (r : LentRoute) (p : Text) → has_variant_selection p ≡ false → CallsReturn r p
