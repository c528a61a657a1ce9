use Rattle.mapping.proofs.CopyOutBranches.{copy_part}
use Rattle.mapping.proofs.copy_out.Goals as goal

pub slice_bounds-write_at-end : goal.slice_bounds-write_at-end
slice_bounds-write_at-end c = copy_part _ _ c.requires _ c.in-Ok.is
