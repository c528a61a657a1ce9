use Rattle.compose_pairs.proofs.PlainMappingBranches.{part_length, part_put}
use Rattle.compose_pairs.proofs.join_at.Goals as goal

pub returns : goal.returns
returns c =
    record {
      value = part_length _ c.args.bytes.now _ c.requires _ c.join.ensures.value _ c.unwrap_or.ensures;
      bytes_after = part_put _ c.args.bytes.now _ c.requires _ c.join.ensures.value _ c.join.ensures.out_after;
    }
