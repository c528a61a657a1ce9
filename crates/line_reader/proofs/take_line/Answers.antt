use Rattle.line_reader.proofs.TakeLaws.{takes}
use borrow.Author.Rules.{rules}
use Rattle.line_reader.proofs.take_line.Goals as goal

pub slice_bounds-append_to_line-end : goal.slice_bounds-append_to_line-end
slice_bounds-append_to_line-end c = search (rules, takes)

pub returns-then-k-block : goal.returns-then-k-block
returns-then-k-block c = search (rules, takes)

pub returns : goal.returns
returns c = search (rules, takes)
