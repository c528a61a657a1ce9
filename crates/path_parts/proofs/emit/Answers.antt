use Rattle.path_parts.proofs.EmitLaws.{emits}
use borrow.Author.Rules.{rules}
use Rattle.path_parts.proofs.emit.Goals as goal

pub returns-then-starts_name_after : goal.returns-then-starts_name_after
returns-then-starts_name_after c = search (rules, emits)

pub returns-then-inside : goal.returns-then-inside
returns-then-inside c = search (rules, emits)

pub returns-then-path-i-eq123 : goal.returns-then-path-i-eq123
returns-then-path-i-eq123 c = search (rules, emits)

pub returns : goal.returns
returns c = search (rules, emits)
