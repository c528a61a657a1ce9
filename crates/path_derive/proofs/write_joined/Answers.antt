use mathlib.Core.Path.{refl}
use Rattle.path_derive.proofs.DeriveBranches.{made_illegal, made_written}
use mathlib.Core.Path.{ap}
use mathlib.Core.Bool.{not}
use Rattle.path_derive.proofs.write_joined.Goals as goal

pub returns-then-not-is_legal : goal.returns-then-not-is_legal
returns-then-not-is_legal c =
    made_illegal _ _ _ c.join.ensures.value refl _ c.in_ok-n.ensures.ok_part _ c.join.ensures.out_after _ c.is_legal.ensures
    (ap not c.if-not-is_legal.true) _

pub returns : goal.returns
returns c =
    made_written _ _ _ c.join.ensures.value refl _ c.in_ok-n.ensures.ok_part _ c.join.ensures.out_after _ c.is_legal.ensures
    (ap not c.if-not-is_legal.false) _ _ c.requires c.write_at.ensures
