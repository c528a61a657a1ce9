use Rattle.std.proofs.Common.{Err}
use mathlib.Core.Path.{◌≡◌}
use Rattle.relocate_chain.proofs.CallBranches.{out_stopped, out_part, out_inside, out_chained}
use borrow.Author.Rules.{rules}
use Rattle.text.proofs.Clauses.{value_out_after}
use Rattle.relocate_chain.proofs.chain_and_copy.Goals as goal

pub slice_bounds-current-end : goal.slice_bounds-current-end
slice_bounds-current-end c = out_inside _ c.chain_into.result c.chain_into.new.current c.chain_into.ensures.current_after c.chain_into.ensures.chain_within (search rules) _ _ c.in_ok-len.was

pub slice_bounds-write_at-end : goal.slice_bounds-write_at-end
slice_bounds-write_at-end c = out_part _ c.chain_into.result c.chain_into.new.current c.chain_into.ensures.current_after c.chain_into.ensures.chain_within (search rules) _ _ c.in_ok-len.was

pub returns : goal.returns
returns c =
    value_out_after (out_chained _ c.chain_into.result
    c.chain_into.new.current
    c.chain_into.ensures.current_after
    c.chain_into.ensures.chain_within (search rules) _ _
    c.in_ok-len.was _ _
    c.requires.1
    c.write_at.ensures)

pub returns-in_err-len : goal.returns-in_err-len
returns-in_err-len c = let r : c.from_residual.result ≡ Err c.in_err-len.field-0.0 = search rules in rw r (value_out_after (out_stopped _ c.chain_into.result c.chain_into.new.current c.chain_into.ensures.current_after c.chain_into.ensures.chain_within (search rules) _ c.in_err-len.was _))
