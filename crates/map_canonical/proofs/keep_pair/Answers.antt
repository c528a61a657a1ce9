use Rattle.map_canonical.proofs.KeepBranches.{pair_other, pair_roots, pair_implied, pair_kept}
use Rattle.map_spec.specs.New.{is_redundant}
use borrow.Author.Rules.{rules}
use Rattle.text.proofs.Clauses.{value_kept_after}
use Rattle.map_canonical.proofs.keep_pair.Goals as goal

pub returns-then-key-e : goal.returns-then-key-e
returns-then-key-e c = value_kept_after (pair_other _ _ _ _ _ is_redundant _ _ _ c.if-key-e.true)

pub returns-then-is_root_pair : goal.returns-then-is_root_pair
returns-then-is_root_pair c = value_kept_after (pair_roots _ _ _ _ _ is_redundant _ _ _ c.if-key-e.false _ c.is_root_pair.ensures c.if-is_root_pair.true)

pub returns-then-is_redundant : goal.returns-then-is_redundant
returns-then-is_redundant c =
    value_kept_after (pair_implied _ _ _ _ _ is_redundant _ _ _ c.if-key-e.false _ c.is_root_pair.ensures c.if-is_root_pair.false _ _
    c.key_at-s.ensures c.key_at-t.ensures _ c.is_redundant.ensures c.if-is_redundant.true)

pub overflow_add-result : goal.overflow_add-result
overflow_add-result c =
    let few = c.requires in
    search rules

pub returns : goal.returns
returns c =
    value_kept_after (pair_kept _ _ _ _ _ is_redundant _ _ _ c.if-key-e.false _ c.is_root_pair.ensures c.if-is_root_pair.false _ _
    c.key_at-s.ensures c.key_at-t.ensures _ c.is_redundant.ensures c.if-is_redundant.false _
    c.copy_entry.ensures)
