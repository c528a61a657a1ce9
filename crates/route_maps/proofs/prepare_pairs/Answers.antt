use native.Mathlib.Omega.{arith}
use Rattle.validate.proofs.SelectLaws.{select_few, select_present, select_room}
use Rattle.route_maps.proofs.PrepareBranches.{leg_relocates, leg_none, leg_copied}
use Rattle.text.proofs.Clauses.{value_block_after}
use mathlib.Core.Path.{ap}
use mathlib.Core.Bool.{not}
use Rattle.route_maps.proofs.prepare_pairs.Goals as goal

pub returns-then-kind-ge2 : goal.returns-then-kind-ge2
returns-then-kind-ge2 c = value_block_after (leg_relocates _ _ _ _ _ c.if-kind-ge2.true _ _ (c.prepare_relocates.ensures.value, c.prepare_relocates.ensures.block_after))

pub returns-then-not-can_select : goal.returns-then-not-can_select
returns-then-not-can_select c = value_block_after (leg_none _ _ _ _ _ c.if-kind-ge2.false _ c.can_select.ensures (ap not c.if-not-can_select.true))

pub copy_pairs-requires : goal.copy_pairs-requires
copy_pairs-requires c = (
  select_present _ _ _ _ c.can_select.ensures (ap not c.if-not-can_select.false),
  omega (
    arith,
    select_few _ _ _ _ c.can_select.ensures (ap not c.if-not-can_select.false),
    select_room _ _ _ _ c.can_select.ensures (ap not c.if-not-can_select.false),
  ),
)

pub returns : goal.returns
returns c = value_block_after (leg_copied _ _ _ _ _ c.if-kind-ge2.false _ c.can_select.ensures (ap not c.if-not-can_select.false) _ c.copy_pairs.ensures)
