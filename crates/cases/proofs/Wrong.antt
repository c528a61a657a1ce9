-- The proof that every wrong tool differs from its definition.
use mathlib.Core.Path.{◌≡◌, refl, sym, ap, ◌∙◌}
use mathlib.Core.List.{List, [], ◌∷◌, ◌++◌, reverse, reverse-cons}
use lib.ListN.{get_or, drop}
use Rattle.text.specs.Text.{Text, bytes}
use Rattle.path_grammar.specs.Own.{has_variant_selection}
use Rattle.path_grammar.specs.Legal.{legal, at_most255}
use Rattle.refusal.specs.Outcome.{Outcome, path, outcome_buffer}
use Rattle.path_derive.specs.Calls.{replace_prefix_call}
use Rattle.pair_list.specs.Pair.{no_empty_source}
use Rattle.map_spec.specs.Map.{map_source_to_target, map_target_to_source}
use Rattle.map_spec.specs.Leg.{translate_checked, map_back_checked, SelectionFreePath, PlainRoundTrip}
use Rattle.map_spec.proofs.OutcomeLaws.{no_path_lem}
use Rattle.relocate_chain.specs.Chain.{chain}
use Rattle.route_spec.specs.Leg.{Leg, by_map, leg_map, leg_ends, outward}
use Rattle.route_spec.specs.Route.{route_ends, fold_legs, trace, HomeAgain, Returns, AlwaysReturns}
use Rattle.frames_spec.specs.Input.{output}
use Rattle.cases.specs.Wrong.{WrongTools, unmoved, no_path, first_leg_only, invented_steps, a_to_b}
use Rattle.cases.proofs.Tell.{apart, outcome_number}

-- A path and its copies, in either order.
trace_more : (xs : List Leg) (x : Leg) (p : Text) → trace unmoved (xs ++ x ∷ []) p ≡ trace unmoved xs p ++ p ∷ []
unfolding trace
trace_more [] x p = refl
trace_more (y ∷ xs) x p = ap (λ (l : List Text). p ∷ l) (trace_more xs x p)

trace_reverse : (legs : List Leg) (p : Text) → trace unmoved (reverse legs) p ≡ reverse (trace unmoved legs p)
unfolding trace
trace_reverse [] p = refl
trace_reverse (x ∷ xs) p = rw (reverse-cons x xs, trace_more (reverse xs) x p, trace_reverse xs p, reverse-cons p (trace unmoved xs p))

fold_unmoved : (legs : List Leg) (p : Text) → fold_legs unmoved legs p ≡ path p
unfolding fold_legs
fold_unmoved [] p = refl
fold_unmoved (x ∷ xs) p = fold_unmoved xs p

unmoved_returns : (legs : List Leg) (p : Text) → HomeAgain unmoved unmoved legs p
unmoved_returns legs p q e =
    let z : p ≡ q = cc (fold_unmoved legs p) in
    rw (← z) (fold_unmoved (reverse legs) p, trace_reverse legs p)

no_path_returns : (legs : List Leg) (p : Text) → HomeAgain no_path no_path legs p
unfolding fold_legs trace
no_path_returns [] p q e = let z : p ≡ q = cc in rw z (refl, refl)
no_path_returns (x ∷ xs) p q e = absurd (no_path_lem e)

-- Through `/A`→`/B` the path `/A/D` maps plainly to `/B/D` and back.
plain : SelectionFreePath (bytes "/A/D")
unfolding legal at_most255 has_variant_selection
plain = record { is_legal = refl; is_short = refl; is_plain = refl }

there_and_back : PlainRoundTrip (leg_map (by_map a_to_b)) (bytes "/A/D") (bytes "/B/D")
unfolding leg_map map_source_to_target map_target_to_source legal at_most255
there_and_back = record { out = refl; is_legal = refl; is_short = refl; back = refl }

-- A tool that has the round-trip property yields `/B/D` over this leg.
exact_gives : (goes comes : Leg → Text → Outcome) → AlwaysReturns goes comes → goes (by_map a_to_b) (bytes "/A/D") ≡ path (bytes "/B/D")
unfolding route_ends leg_ends leg_map no_empty_source trace
exact_gives goes comes h =
    let returns : Returns goes comes (by_map a_to_b ∷ []) (bytes "/A/D") = h (by_map a_to_b ∷ []) (bytes "/A/D") refl plain in
    (returns.exact 0 (by_map a_to_b) (bytes "/A/D") refl refl refl (bytes "/B/D")).1 there_and_back

-- The answer to 07 after one path out.
counted_one : drop 9 (output (bytes "052F41\n07\n")) ≡ bytes "870000000001\n"
unfolding output
counted_one = refl

pub wrong_tools : WrongTools
unfolding translate_checked map_back_checked outward fold_legs first_leg_only chain invented_steps replace_prefix_call outcome_buffer outcome_number
wrong_tools = record {
  unmoved_out = apart outcome_number refl;
  unmoved_home = apart outcome_number refl;
  unmoved_returns = unmoved_returns;
  unmoved_fails = λ h. apart outcome_number refl (exact_gives unmoved unmoved h);
  no_path_out = apart outcome_number refl;
  no_path_home = apart outcome_number refl;
  no_path_returns = no_path_returns;
  no_path_fails = λ h. no_path_lem (exact_gives no_path no_path h);
  root_out = apart outcome_number refl;
  root_home = apart outcome_number refl;
  first_only = apart outcome_number refl;
  invented_steps_lem = λ k h e. h cc;
  invented_count = λ answer h e. h (sym (ap (λ (t : Text). drop 9 t) e) ∙ counted_one);
  five_to_all_lem = apart outcome_number refl;
  writes_nothing_lem = apart (λ (t : Text). get_or t 0 0) refl;
}
