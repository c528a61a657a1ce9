use mathlib.Core.Path.{sym, ◌∙◌}
use native.Mathlib.Omega.{arith}
use lib.Ieee.{of_bits}
use Rattle.validate.proofs.PassedLaws.{text_short, second_short}
use Rattle.map_function.proofs.NewBranches.{gives_map}
use Rattle.map_new.proofs.NewBranches.{made_passed, own_copy, pair_unfolded}
use Rattle.map_new.proofs.from_pair.Goals as goal

pub store_pair-requires : goal.store_pair-requires
store_pair-requires c =
    let its-sym = sym c.validate_ends.ensures ∙ c.in_ok-validate_ends.was in
    record {
      t_in_bounds = omega (arith, text_short _ _ _ _ its-sym, second_short _ _ _ _ _ its-sym);
      in_bounds = omega arith;
    }

pub returns : goal.returns
unfolding of_bits
returns c =
    gives_map _ _
    (pair_unfolded _ _ _ _ ∙ made_passed _ _ _ _ _ _ _ c.validate_ends.ensures c.in_ok-validate_ends.was ∙ own_copy _ _
    _ _ _ _ _ _ c.store_pair.ensures (omega arith))
    _ _ _ _ _ c.without_dropping.ensures
