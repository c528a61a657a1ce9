use Rattle.std.proofs.Common.{rules, Err, ◌≡◌}
use lib.ListN.{length}
use Rattle.relocates.proofs.AnalyzeBranches.{analyze_few, analyze_refused, analyze_short, analyze_written}
use Rattle.text.proofs.Clauses.{value_out_after}
use Rattle.relocates.proofs.analyze_relocate_occurrences.Goals as goal

pub returns-in_err-validate_list_and_path : goal.returns-in_err-validate_list_and_path
returns-in_err-validate_list_and_path c = let r : c.from_residual.result ≡ Err c.in_err-validate_list_and_path.field-0.0 = search rules in rw r (value_out_after (analyze_refused _ _ c.validate_list_and_path.ensures _ _ _ c.in_err-validate_list_and_path.was))

pub returns-then-out-count : goal.returns-then-out-count
returns-then-out-count c =
    value_out_after (analyze_short _ _ c.validate_list_and_path.ensures (length c.args.out.now) _
    c.in_ok-validate_list_and_path.was c.if-out-count.true)

pub write_statuses-requires : goal.write_statuses-requires
write_statuses-requires c = (analyze_few _ _ c.validate_list_and_path.ensures c.in_ok-validate_list_and_path.was, c.if-out-count.false)

pub returns : goal.returns
returns c =
    value_out_after (analyze_written _ _ c.validate_list_and_path.ensures _ _ c.in_ok-validate_list_and_path.was c.if-out-count.false _
    c.write_statuses.ensures)
