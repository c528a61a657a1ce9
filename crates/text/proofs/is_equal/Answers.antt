use borrow.Author.Tests.{ne_eqb}
use Rattle.text.proofs.TextLaws.{equal_lengths, equal_starts}
use Rattle.text.proofs.is_equal.Goals as goal

pub returns-then-a-b : goal.returns-then-a-b
returns-then-a-b c = equal_starts _ _ _ c.if-a-b.true c.starts_with.ensures

pub returns-else-a-b : goal.returns-else-a-b
returns-else-a-b c = rw (ne_eqb _ _ c.if-a-b.false) (equal_lengths _ _ c.if-a-b.false)
