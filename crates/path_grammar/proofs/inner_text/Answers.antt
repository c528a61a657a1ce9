use borrow.Author.Rules.{rules}
use Rattle.path_grammar.proofs.InnerLaws.{inner_open, inner_inside, inner_short, inner_count, inner_refused, inner_is}
use mathlib.Core.Path.{ap}
use mathlib.Core.Bool.{not}
use Rattle.path_grammar.proofs.inner_text.Goals as goal

pub returns-then-not-last_is : goal.returns-then-not-last_is
returns-then-not-last_is c = search (rules, inner_open)

pub overflow_sub-p : goal.overflow_sub-p
overflow_sub-p c = search (rules, inner_inside)

pub returns-then-p-m-le1 : goal.returns-then-p-m-le1
returns-then-p-m-le1 c = search (rules, inner_short)

pub slice_bounds-is_legal_property-end : goal.slice_bounds-is_legal_property-end
slice_bounds-is_legal_property-end c = search (rules, inner_count)

pub returns-then-not-is_legal_property : goal.returns-then-not-is_legal_property
returns-then-not-is_legal_property c = search (rules, inner_refused)

pub returns : goal.returns
returns c =
    inner_is _ _ c.find_byte-m.ensures _ _ c.is_legal_property.ensures (ap not c.if-not-is_legal_property.false) c.last_is.ensures
    (ap not c.if-not-last_is.false)
