-- The counters are read, the line is answered at offset 0, and the counters are written back.
use Rattle.ffi_line.specs.LineCall.{whole_line}
use Rattle.ffi_line.proofs.CallBranches.{line_processed}
use Rattle.ffi_line.proofs.process_line.Goals as goal

-- the clauses by their names
by_clause_processes_line : {A B : Type 0} → A × B → record { processes_line : A; table_after : B }
by_clause_processes_line t = record { processes_line = t.0; table_after = t.1 }

pub write_counters-requires : goal.write_counters-requires
write_counters-requires c = c.requires.0

pub returns : goal.returns
unfolding whole_line
returns c =
    let args = c.args in
    by_clause_processes_line (line_processed (whole_line args.line.now) args.kept.now args.bytes.now args.places.now args.store.now args.slots.now
    args.table.now args.out.now c.requires.1 _ c.counters_of-k.ensures _ _ _ _ _ _ _ _ _
    c.answer_line-a.ensures.table_after c.answer_line-a.ensures.end_value c.answer_line-a.ensures.out_after
    c.write_counters.ensures)
