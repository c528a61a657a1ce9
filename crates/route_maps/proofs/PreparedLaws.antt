-- Lemmas about when a route of maps is equivalent to a route.
use mathlib.Core.Path.{◌≡◌, refl, sym, ◌∙◌}
use mathlib.Core.Bool.{Bool, true, false, false≢true}
use mathlib.Core.List.{List}
use Prim.Native.Nat.{ℕ, zero, suc, ◌<◌}
use native.Mathlib.Omega.{arith}
use lib.Dec.{eqb, leb}
use borrow.Author.Tests.{leb-false}
use Rattle.pair_list.specs.Pair.{Pair}
use Rattle.validate.specs.Validate.{pairs_of}
use Rattle.relocates.proofs.StatusBranches.{some_hit}
use Rattle.route_spec.specs.Leg.{leg_map}
use Rattle.route_legs.specs.LentRoute.{LentRoute, kind_at, list_at, leg_of, leg_at, map_at}
use Rattle.route_maps.specs.Prepared.{has_relocates, Prepared}

abbrev relocating : List ℕ → ℕ → Bool
relocating legs k = leb 2 (kind_at legs k)

-- The map of a leg that is a map is that map.
pub plain_leg : (kind : ℕ) (l : List Pair) → kind < 2 → record { pairs = l; mark = eqb kind 1 } ≡ leg_map (leg_of kind l)
unfolding leg_map leg_of
plain_leg zero l h = refl
plain_leg (suc zero) l h = refl
plain_leg (suc (suc k)) l h = absurd (omega arith)

-- A route without relocate lists is its own prepared route.
pub prepared_itself : (r : LentRoute) (n : ℕ) → has_relocates r.legs n ≡ false → Prepared r r n
unfolding Prepared map_at leg_at has_relocates
prepared_itself r n h k l = go (leb 2 (kind_at r.legs k)) refl
  where
    go : (b : Bool) → leb 2 (kind_at r.legs k) ≡ b → record { pairs = pairs_of (list_at r k); mark = eqb (kind_at r.legs k) 1 } ≡ leg_map (leg_of (kind_at r.legs k) (pairs_of (list_at r k)))
    go true e = absurd (false≢true (sym h ∙ some_hit (relocating r.legs) n k l e))
    go false e = plain_leg (kind_at r.legs k) (pairs_of (list_at r k)) (leb-false 2 (kind_at r.legs k) e)
