use mathlib.Core.Path.{sym, ◌∙◌}
use native.Mathlib.Omega.{arith}
use lib.Ieee.{of_bits}
use Rattle.validate.proofs.PassedLaws.{first_sound}
use Rattle.map_function.proofs.NewBranches.{gives_map}
use Rattle.map_new.proofs.NewBranches.{made_passed, own_parts}
use Rattle.map_derive.proofs.SwapLaws.{swapped_list}
use Rattle.map_derive.proofs.DeriveBranches.{inverse_unfolded}
use Rattle.map_derive.proofs.inverse.Goals as goal

pub returns : goal.returns
unfolding of_bits
returns c =
    let its-sym = sym c.validate_list.ensures ∙ c.in_ok-validate_list.was in
    gives_map _ _
    (inverse_unfolded _ _ _ _ _ ∙ made_passed _ _ _ _ _ _ _ c.validate_list.ensures c.in_ok-validate_list.was ∙
    own_parts _ _ _ _ _ _ _ _
    (swapped_list _ _ _ _ _ c.swap_ends.ensures (omega (arith, (first_sound _ _ _ _ its-sym).held))
    (omega (arith, (first_sound _ _ _ _ its-sym).few)))
    (omega (arith, (first_sound _ _ _ _ its-sym).few)))
    _ _ _ _ _ c.from_parts.ensures
