use Rattle.route_legs.proofs.ValidateBranches.{count_over, count_beyond, count_passed}
use Rattle.route_legs.proofs.validate_count.Goals as goal

pub returns-then-count-gt16 : goal.returns-then-count-gt16
returns-then-count-gt16 c = count_over _ _ c.if-count-gt16.true

pub returns-then-legs-count : goal.returns-then-legs-count
returns-then-legs-count c = count_beyond _ _ c.if-count-gt16.false c.if-legs-count.true

pub returns : goal.returns
returns c = count_passed _ _ c.if-count-gt16.false c.if-legs-count.false
