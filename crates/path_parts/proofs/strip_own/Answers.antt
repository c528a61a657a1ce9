use Rattle.path_parts.proofs.EmitLaws.{strips}
use borrow.Author.Rules.{rules}
use Rattle.path_parts.proofs.strip_own.Goals as goal

pub loop-i-init : goal.loop-i-init
loop-i-init c = search (rules, strips)

pub emit-j-requires : goal.emit-j-requires
emit-j-requires c = search (rules, strips)

pub loop-i-preserved : goal.loop-i-preserved
loop-i-preserved c = search (rules, strips)

pub returns : goal.returns
returns c = search (rules, strips)
