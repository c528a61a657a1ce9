-- The source and the target are the parts of the frame that end it.
use mathlib.Core.Path.{◌≡◌, ap}
use Prim.Native.Nat.{ℕ, ◌+◌, ◌-◌}
use native.Mathlib.Omega.{arith}
use lib.ListN.{length, take, drop}
use Rattle.text.proofs.WriteLaws.{rest_whole}
use Rattle.frame_answer.proofs.ApplyBranches.{pair_cut}
use Rattle.frame_answer.proofs.apply_pair_in.Goals as goal

pub returns : goal.returns
returns c =
    let args = c.args in
    let b = args.frame.now in
    let start : ℕ = length b - (args.n + 2 + args.m) in
    let part : start + args.n - start ≡ args.n = omega arith in
    pair_cut _ _ _ _ _ _ _ _ _ _ _ (ap (λ (j : ℕ). take j (drop start b)) part) (rest_whole b (length b - args.m)) c.apply_pair.ensures
