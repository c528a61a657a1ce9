-- Past the end of a text the definition reads 0.
use Rattle.path_join.proofs.LayoutLaws.{no_last_byte}
use Rattle.path_join.specs.Layout.{last_byte}
use borrow.Author.Rules.{rules}
use Rattle.path_join.proofs.last_byte.Goals as goal

pub returns-then-n-eq0 : goal.returns-then-n-eq0
returns-then-n-eq0 c = no_last_byte _ c.if-n-eq0.true

pub returns : goal.returns
unfolding last_byte
returns c = search rules
