use Rattle.batch.proofs.BatchLaws.{block_bytes, block_reply}
use lib.ListN.{set}
use Prim.Native.Nat.{ℕ}
use mathlib.Core.Path.{ap}
use Rattle.batch.proofs.map_block.Goals as goal

pub returns : goal.returns
returns c =
    record {
      out_after = block_bytes _ _ _ _ _ _ _ _ _ c.requires.i_in_bounds_2 _ c.map_spot-r.ensures.1;
      replies_after = ap (λ (x : ℕ). set c.args.replies.now c.args.i x)
          (block_reply _ _ _ _ _ _ _ _ _ c.requires.i_in_bounds_2 _ _ c.map_spot-r.ensures.0 c.reply_code.ensures);
    }
