use native.Mathlib.Omega.{arith}
use Rattle.text.proofs.WriteLaws.{part_size}
use Rattle.route.proofs.UnalteredBranches.{run_over_refused, run_over_inside, run_over_written}
use Rattle.route.proofs.run_legs.Goals as goal

pub slice_bounds-map_leg-end-2 : goal.slice_bounds-map_leg-end-2
slice_bounds-map_leg-end-2 c = part_size _ _ (omega (arith, c.requires.0, c.requires.1))

pub slice_bounds-carried_rest-end-2 : goal.slice_bounds-carried_rest-end-2
slice_bounds-carried_rest-end-2 c = part_size _ _ (omega (arith, c.requires.0, c.requires.1))

pub returns-in_default : goal.returns-in_default
returns-in_default c =
    run_over_refused _ _ _ _ _ _ c.map_leg-c.ensures _ c.reply_of-reply.ensures _ c.carried_rest-unaltered.ensures _
    c.in_default.is _

pub slice_bounds-made-end : goal.slice_bounds-made-end
slice_bounds-made-end c =
    run_over_inside _ _ _ _ _ _ c.map_leg-c.ensures _ c.reply_of-reply.ensures _ c.carried_rest-unaltered.ensures _
    c.in-Ok.is

pub slice_bounds-write_at-end : goal.slice_bounds-write_at-end
slice_bounds-write_at-end c =
    part_size _ _
    (run_over_inside _ _ _ _ _ _ c.map_leg-c.ensures _ c.reply_of-reply.ensures _ c.carried_rest-unaltered.ensures _
    c.in-Ok.is)

pub returns : goal.returns
returns c =
    run_over_written _ _ _ _ _ _ c.map_leg-c.ensures _ c.reply_of-reply.ensures _ c.carried_rest-unaltered.ensures _
    c.in-Ok.is _ _ c.requires.1 c.write_at.ensures
