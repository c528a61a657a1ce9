use Rattle.characters.proofs.CodeLaws.{allowed_not, allowed_on, allowed_inside, allowed_end}
use borrow.Author.Rules.{rules}
use Rattle.characters.proofs.decodes_allowed.Goals as goal

pub loop-i-init : goal.loop-i-init
loop-i-init c = search (rules, allowed_not, allowed_on, allowed_inside, allowed_end)

pub character_len-n-requires : goal.character_len-n-requires
character_len-n-requires c = search (rules, allowed_not, allowed_on, allowed_inside, allowed_end)

pub returns-then-n-eq0 : goal.returns-then-n-eq0
returns-then-n-eq0 c = search (rules, allowed_not, allowed_on, allowed_inside, allowed_end)

pub overflow_add-i : goal.overflow_add-i
overflow_add-i c = let fits = allowed_inside _ c.loop-i.i _ (search rules) c.character_len-n.ensures c.loop-i.invariant.1 in search (rules, fits)

pub loop-i-smaller : goal.loop-i-smaller
loop-i-smaller c = search (rules, allowed_not, allowed_on, allowed_inside, allowed_end)

pub loop-i-preserved : goal.loop-i-preserved
loop-i-preserved c = search (rules, allowed_not, allowed_on, allowed_inside, allowed_end)

pub returns : goal.returns
returns c = search (rules, allowed_not, allowed_on, allowed_inside, allowed_end)
