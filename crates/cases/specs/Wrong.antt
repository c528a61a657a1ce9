-- Meaning: Requirements: "It must be shown that these fail". Each wrong tool is a function beside the definition that it would have to meet, with an
-- input for which the two differ; proofs/Wrong.antt proves that they differ. Demand 2 requires the results that the definitions yield,
-- demand 3 the round trip, whose two halves are those of crates/route_spec/specs/Route.antt.
use Rattle.std.specs.Prelude.{◌≢◌, List, [], ◌∷◌, ◌++◌, ℕ, replicate, Option, None}
use Rattle.text.specs.Text.{Text, bytes}
use Rattle.refusal.specs.declared.Refusal.TheVariants.{NoRoom, NoPath}
use Rattle.refusal.specs.Outcome.{Outcome, path, refused, outcome_buffer}
use Rattle.path_derive.specs.Calls.{replace_prefix_call}
use Rattle.pair_list.specs.Pair.{Pair}
use Rattle.map_spec.specs.Map.{Map}
use Rattle.map_spec.specs.Leg.{translate_checked, map_back_checked}
use Rattle.relocate_chain.specs.Chain.{Chained, chained, stopped, chain}
use Rattle.route_spec.specs.Leg.{Leg, by_map, outward}
use Rattle.route_spec.specs.Route.{and_then, fold_legs, HomeAgain, AlwaysReturns}
use Rattle.frames_spec.specs.Input.{output}
use Rattle.cases.specs.Lent.{string_pair, unmarked_map, rotating}

-- The tool and the definition differ on the input x.
abbrev pub DiffersAt : {A B : Type 0} → (A → B) → (A → B) → A → Type 0
DiffersAt tool definition x = tool x ≢ definition x

-- The tool that "hands each path back unmoved", over any leg.
abbrev pub unmoved : {A : Type 0} → A → Text → Outcome
unmoved leg p = path p

-- The tool that "says 'no path' to all".
abbrev pub no_path : {A : Type 0} → A → Text → Outcome
no_path leg p = refused NoPath

-- The tool that "says `/` to all".
abbrev pub root_to_all : {A : Type 0} → A → Text → Outcome
root_to_all leg p = path (bytes "/")

-- The tool that "maps over the first leg and copies over the others".
unfoldable pub first_leg_only : {A : Type 0} → (A → Text → Outcome) → List A → Text → Outcome
unfolding fold_legs
first_leg_only go [] p = path p
first_leg_only go (x ∷ xs) p = and_then (fold_legs unmoved xs) (go x p)

-- A chain result with its number of replacements replaced by k.
abbrev pub with_steps : ℕ → Chained → Chained
with_steps k (chained q n) = chained q k
with_steps k (stopped x) = stopped x

-- The tool "with an invented step count": the right last path, but k as the number of replacements.
unfoldable pub invented_steps : ℕ → Option Text → List Pair → Text → Chained
unfolding chain
invented_steps k skip l p = with_steps k (chain skip l p)

-- The tool that "says 5 without comparing lengths".
abbrev pub five_to_all : Text → Text → Text → ℕ → Outcome
five_to_all p s t room = refused NoRoom

-- The tool that "writes nothing".
abbrev pub writes_nothing : Outcome → Text → Text
writes_nothing o out = out

-- The map of `/A`→`/B`.
abbrev pub a_to_b : Map
a_to_b = unmarked_map (string_pair "/A" "/B" ∷ [])

-- A route of two legs, `/A`→`/B` and `/B`→`/C`.
abbrev pub a_to_b_to_c : List Leg
a_to_b_to_c = by_map a_to_b ∷ by_map (unmarked_map (string_pair "/B" "/C" ∷ [])) ∷ []

-- A lent buffer of 255 bytes.
abbrev pub lent_bytes : Text
lent_bytes = replicate 255 0

-- Each wrong tool fails the requirement named in its comment.
pub record WrongTools : Type 0 where
  -- Returning each path unmoved fails demand 2; it meets the first half of demand 3, but not the second.
  pub unmoved_out : DiffersAt (unmoved a_to_b) (translate_checked a_to_b) (bytes "/A/D")
  pub unmoved_home : DiffersAt (unmoved a_to_b) (map_back_checked a_to_b) (bytes "/B/D")
  pub unmoved_returns : (legs : List Leg) (p : Text) → HomeAgain unmoved unmoved legs p
  pub unmoved_fails : AlwaysReturns unmoved unmoved → ⊥
  -- Always returning "no path" fails demand 2 and the second half of demand 3; the first half requires nothing of a tool that yields no
  -- path.
  pub no_path_out : DiffersAt (no_path a_to_b) (translate_checked a_to_b) (bytes "/A/D")
  pub no_path_home : DiffersAt (no_path a_to_b) (map_back_checked a_to_b) (bytes "/B/D")
  pub no_path_returns : (legs : List Leg) (p : Text) → HomeAgain no_path no_path legs p
  pub no_path_fails : AlwaysReturns no_path no_path → ⊥
  -- Always returning `/` fails demand 2.
  pub root_out : DiffersAt (root_to_all a_to_b) (translate_checked a_to_b) (bytes "/A/D")
  pub root_home : DiffersAt (root_to_all a_to_b) (map_back_checked a_to_b) (bytes "/B/D")
  -- Mapping over the first leg only fails demand 2, leg by leg.
  pub first_only : DiffersAt (first_leg_only outward a_to_b_to_c) (fold_legs outward a_to_b_to_c) (bytes "/A/D")
  -- An invented step count fails the chaining definition, whatever the count is, unless it is the right one.
  pub invented_steps_lem : (k : ℕ) → k ≢ 2 → DiffersAt (invented_steps k None rotating) (chain None rotating) (bytes "/R/a/b/d/b/d")
  -- An invented answer to 07 fails its definition from the input, whatever the answer is, unless it is the right one.
  pub invented_count : (answer : Text) → answer ≢ bytes "870000000001\n" → output (bytes "052F41\n07\n") ≢ bytes "85002F41\n" ++ answer
  -- Always refusing with 5 fails question 5: 255 bytes are enough.
  pub five_to_all_lem : DiffersAt (five_to_all (bytes "/A/D") (bytes "/A") (bytes "/B")) (replace_prefix_call (bytes "/A/D") (bytes "/A") (bytes "/B")) 255
  -- Writing nothing fails demand 2: the bytes of the result must be written.
  pub writes_nothing_lem : DiffersAt (writes_nothing (translate_checked a_to_b (bytes "/A/D"))) (outcome_buffer (translate_checked a_to_b (bytes "/A/D"))) lent_bytes
