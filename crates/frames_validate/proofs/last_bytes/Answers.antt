-- The part of the frame from its length less n on; the whole frame if n exceeds its length.
use Prim.Native.Nat.{◌-◌}
use lib.ListN.{length}
use Rattle.text.proofs.WriteLaws.{rest_whole}
use Rattle.frames_validate.proofs.UseBranches.{last_all}
use Rattle.frames_validate.proofs.last_bytes.Goals as goal

pub returns-then-frame-n : goal.returns-then-frame-n
returns-then-frame-n c = last_all _ _ c.if-frame-n.true

pub returns : goal.returns
returns c =
    let b = c.args.frame.now in
    rest_whole b (length b - c.args.n)
