use Rattle.text.proofs.WriteLaws.{part_size}
use Rattle.route.proofs.CallBranches.{entered_size, run_refused, run_inside, unaltered_inside, run_written}
use borrow.Author.Rules.{rules}
use Rattle.route.proofs.run_path.Goals as goal

pub run_direction-run-requires : goal.run_direction-run-requires
run_direction-run-requires c = (entered_size _ _ _ c.enter_route-len.ensures, search rules)

pub returns-in_default : goal.returns-in_default
returns-in_default c =
    run_refused _ _ _ _ _ c.enters_stripped-stripped.ensures _ _ c.enter_route-len.ensures _ _
    c.run_direction-run.ensures _ c.in_default.is _ c.with_rest.ensures _ _

pub slice_bounds-here-end : goal.slice_bounds-here-end
slice_bounds-here-end c =
    run_inside _ _ _ _ _ c.enters_stripped-stripped.ensures _ _ c.enter_route-len.ensures _ _
    c.run_direction-run.ensures _ c.in-Ok.is

pub slice_bounds-write_at-end : goal.slice_bounds-write_at-end
slice_bounds-write_at-end c =
    part_size _ _
    (run_inside _ _ _ _ _ c.enters_stripped-stripped.ensures _ _ c.enter_route-len.ensures _ _
    c.run_direction-run.ensures _ c.in-Ok.is)

pub rest_at_end-requires : goal.rest_at_end-requires
rest_at_end-requires c =
    unaltered_inside _ _ _ _ _ c.enters_stripped-stripped.ensures _ _ c.enter_route-len.ensures _ _
    c.run_direction-run.ensures _ c.in-Ok.is (search rules)

pub returns : goal.returns
returns c =
    run_written _ _ _ _ _ c.enters_stripped-stripped.ensures _ _ c.enter_route-len.ensures _ _
    c.run_direction-run.ensures _ c.in-Ok.is (search rules) (search rules) _ c.rest_at_end.ensures _
    c.with_rest-2.ensures _ _ c.requires.1 c.write_at.ensures
