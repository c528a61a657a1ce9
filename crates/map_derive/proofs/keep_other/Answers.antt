use Rattle.map_derive.proofs.ListBranches.{other_same, other_kept}
use Rattle.map_derive.proofs.keep_other.Goals as goal

pub returns-then-is_equal : goal.returns-then-is_equal
returns-then-is_equal c = other_same _ _ _ _ _ _ _ c.key_at.ensures _ c.is_equal.ensures c.if-is_equal.true

pub returns : goal.returns
returns c =
    other_kept _ _ _ _ _ _ _ c.key_at.ensures _ c.is_equal.ensures c.if-is_equal.false c.requires.i_in_bounds c.requires.w_in_bounds
    _ c.copy_entry.ensures
