-- Past the end of a text the definition reads 0.
use Rattle.path_join.proofs.LayoutLaws.{no_first_byte}
use Rattle.path_join.specs.Layout.{first_byte}
use borrow.Author.Rules.{rules}
use Rattle.path_join.proofs.first_byte.Goals as goal

pub returns-then-text-eq0 : goal.returns-then-text-eq0
returns-then-text-eq0 c = no_first_byte _ c.if-text-eq0.true

pub returns : goal.returns
unfolding first_byte
returns c = search rules
