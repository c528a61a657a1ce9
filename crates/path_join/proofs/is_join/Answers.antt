-- A text is the join if it has its length and its three parts; each test decides one factor of that conjunction.
use Rattle.path_join.proofs.JoinBranches.{join_unequal, join_other, join_unseparated, join_same}
use mathlib.Core.Path.{ap}
use mathlib.Core.Bool.{not}
use Rattle.path_join.proofs.is_join.Goals as goal

pub returns-then-text-at : goal.returns-then-text-at
returns-then-text-at c = join_unequal _ _ _ _ _ c.layout_of-layout.ensures _ c.if-text-at.true

pub returns-then-not-starts_with : goal.returns-then-not-starts_with
returns-then-not-starts_with c = join_other _ _ _ _ c.layout_of-layout.result.start c.layout_of-layout.ensures _ _ c.starts_with.ensures (ap not c.if-not-starts_with.true)

pub returns-then-not-has_separator : goal.returns-then-not-has_separator
returns-then-not-has_separator c =
    join_unseparated _ _ _ _ c.layout_of-layout.result.start c.layout_of-layout.ensures _ _ c.starts_with.ensures
    (ap not c.if-not-starts_with.false) _ c.has_separator.ensures (ap not c.if-not-has_separator.true)

pub returns : goal.returns
returns c =
    join_same _ _ _ _ _ c.layout_of-layout.ensures _ _ c.starts_with.ensures
    (ap not c.if-not-starts_with.false) _ c.has_separator.ensures (ap not c.if-not-has_separator.false) _ c.is_equal.ensures
