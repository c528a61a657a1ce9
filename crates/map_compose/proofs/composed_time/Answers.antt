use lib.Ieee.{of_bits}
use Rattle.std.proofs.Common.{◌≡◌, true, false, ◌&&◌, arith}
use Rattle.std.proofs.lemmas.Grind.{common_steps}
use Rattle.layer_offset.specs.Offset.{is_identity}
use Rattle.map_compose.proofs.CallBranches.{time_identity, time_other}
use Rattle.map_compose.proofs.composed_time.Goals as goal

pub returns : goal.returns
returns c = let z : (is_identity c.args.outer && is_identity c.args.inner) ≡ false = grind (arith, common_steps) in time_other _ _ z _ c.concatenate.ensures

pub returns-then-is_identity-2 : goal.returns-then-is_identity-2
unfolding of_bits
returns-then-is_identity-2 c = let z : (is_identity c.args.outer && is_identity c.args.inner) ≡ true = grind (arith, common_steps) in time_identity _ _ z
