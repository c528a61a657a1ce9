use Rattle.map_lookup.proofs.LookupBranches.{searching}
use borrow.Author.Rules.{rules}
use Rattle.map_lookup.proofs.better_of.Goals as goal

pub returns-else-element_count : goal.returns-else-element_count
returns-else-element_count c = search (rules, searching)
