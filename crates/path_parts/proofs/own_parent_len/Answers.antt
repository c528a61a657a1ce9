use Rattle.path_parts.proofs.PartLaws.{parents}
use borrow.Author.Rules.{rules}
use Rattle.path_parts.proofs.own_parent_len.Goals as goal

pub loop-i-init : goal.loop-i-init
loop-i-init c = search (rules, parents)

pub returns-then-starts_part : goal.returns-then-starts_part
returns-then-starts_part c = search (rules, parents)

pub returns-then-starts_name_after : goal.returns-then-starts_name_after
returns-then-starts_name_after c = search (rules, parents)

pub loop-i-preserved : goal.loop-i-preserved
loop-i-preserved c = search (rules, parents)

pub returns : goal.returns
returns c = search (rules, parents)
