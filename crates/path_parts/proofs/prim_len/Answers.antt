use borrow.Author.Rules.{rules}
use Rattle.path_parts.proofs.PartLaws.{prims}
use Rattle.path_parts.proofs.prim_len.Goals as goal
use Rattle.path_parts.proofs.prim_len.Goals.{then-not-lacks_byte-via-then-not-lacks_byte, then-not-lacks_byte-via-else-not-lacks_byte+then-last_is}

pub returns-then-not-lacks_byte : goal.returns-then-not-lacks_byte
returns-then-not-lacks_byte c =
    elim c.then-not-lacks_byte.branch [
      | then-not-lacks_byte-via-then-not-lacks_byte w ↦ search (rules, prims)
      | then-not-lacks_byte-via-else-not-lacks_byte+then-last_is w ↦ search (rules, prims)
    ]

pub returns : goal.returns
returns c = search (rules, prims)
