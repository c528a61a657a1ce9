use Rattle.std.proofs.Common.{rules, Err, ◌≡◌}
use Rattle.open_list.proofs.AddBranches.{add_refused, add_many, add_beyond, add_start, add_source, add_target, add_passed}
use Rattle.open_list.proofs.validate_add.Goals as goal

-- the clauses by their names
by_clause_value : {A B : Type 0} → A × B → record { value : A; add_fits : B }
by_clause_value t = record { value = t.0; add_fits = t.1 }

pub returns-in_err-validate_ends : goal.returns-in_err-validate_ends
returns-in_err-validate_ends c = let r : c.from_residual.result ≡ Err c.in_err-validate_ends.field-0.0 = search rules in rw r (by_clause_value (add_refused _ _ _ _ _ _ c.validate_ends.ensures _ c.in_err-validate_ends.was))

pub returns-then-pairs-ge64 : goal.returns-then-pairs-ge64
returns-then-pairs-ge64 c = by_clause_value (add_many _ _ _ _ _ _ c.validate_ends.ensures c.in_ok-validate_ends.was c.if-pairs-ge64.true)

pub returns-then-slots-pairs : goal.returns-then-slots-pairs
returns-then-slots-pairs c = by_clause_value (add_beyond _ _ _ _ _ _ c.validate_ends.ensures c.in_ok-validate_ends.was c.if-pairs-ge64.false c.if-slots-pairs.true)

pub returns-then-room-bytes : goal.returns-then-room-bytes
returns-then-room-bytes c =
    by_clause_value (add_start _ _ _ _ _ _ c.validate_ends.ensures c.in_ok-validate_ends.was c.if-pairs-ge64.false c.if-slots-pairs.false
    c.if-room-bytes.true)

pub returns-then-left-s : goal.returns-then-left-s
returns-then-left-s c =
    by_clause_value (add_source _ _ _ _ _ _ c.validate_ends.ensures c.in_ok-validate_ends.was c.if-pairs-ge64.false c.if-slots-pairs.false
    c.if-room-bytes.false c.if-left-s.true)

pub returns-then-left-s-2 : goal.returns-then-left-s-2
returns-then-left-s-2 c =
    by_clause_value (add_target _ _ _ _ _ _ c.validate_ends.ensures c.in_ok-validate_ends.was c.if-pairs-ge64.false c.if-slots-pairs.false
    c.if-room-bytes.false c.if-left-s.false c.if-left-s-2.true)

pub returns : goal.returns
returns c =
    by_clause_value (add_passed _ _ _ _ _ _ c.validate_ends.ensures c.in_ok-validate_ends.was c.if-pairs-ge64.false c.if-slots-pairs.false
    c.if-room-bytes.false c.if-left-s.false c.if-left-s-2.false)
