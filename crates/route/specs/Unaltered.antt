-- Method: How the code finds the rest of a path over a route: how many bytes at the end of the path came unaltered over the legs so far.
use Rattle.std.specs.Prelude.{◌≡◌, ℕ, ◌-◌, Bool, true, false, cond, reverse, length, Ok, Option, Some, None}
use Rattle.text.specs.Text.{Text}
use Rattle.refusal.specs.Outcome.{Outcome}
use Rattle.path_rest.specs.Rest.{rest_text}
use Rattle.map_spec.specs.Map.{Map}
use Rattle.map_apply.specs.Fast.{plain_rest}
use Rattle.route_spec.specs.Rest.{is_stripped, unaltered_length}
use Rattle.route_legs.specs.LentRoute.{LentRoute}
use Rattle.route.specs.declared.Run.{Run}
use Rattle.route.specs.Fast.{leg_fast, maps_in, HoldsOutcome}

-- The length of the rest that a leg with the map m leaves of the path p.
unfoldable pub rest_length : Bool → Map → Text → ℕ
unfolding plain_rest rest_text
rest_length home m p = length (rest_text p (plain_rest home m p))

-- The number of unaltered bytes after the first n legs in one direction, of `start` bytes before them.
unfoldable pub unaltered_fast : Bool → LentRoute → ℕ → ℕ → Text → ℕ
unfolding unaltered_length leg_fast plain_rest maps_in
unaltered_fast false s n start p = unaltered_length (leg_fast false) (plain_rest false) (maps_in s n) start p
unaltered_fast true s n start p = unaltered_length (leg_fast true) (plain_rest true) (reverse (maps_in s n)) start p

-- The rest of a path of n bytes of which k bytes at the end are unaltered; none if selections were stripped.
unfoldable pub rest_fast : Bool → ℕ → ℕ → Option ℕ
rest_fast stripped n k = cond stripped None (Some (n - k))

-- The rest of the path p over the first n legs.
unfoldable pub route_rest_fast : Bool → LentRoute → ℕ → Text → Option ℕ
unfolding rest_fast is_stripped unaltered_fast
route_rest_fast home s n p = rest_fast (is_stripped home n p) (length p) (unaltered_fast home s n (length p) p)

-- The buffer holds the outcome of some legs, and if that is a path, the run states that n bytes are unaltered.
pub record HoldsRun (o : Outcome) (n : ℕ) (r : Run) (mem : Text) : Type 0 where
  pub outcome : HoldsOutcome o r.reply mem
  pub unaltered_is : (m : ℕ) → r.reply ≡ Ok m → r.unaltered ≡ n
