use Rattle.std.proofs.Common.{rules, length, ◌≡◌, ◌≢◌}
use Rattle.compose_pairs.proofs.PlainMappingBranches.{composed_empty, composed_room, composed_made}
use Rattle.text.proofs.Clauses.{value_bytes_after}
use Rattle.compose_pairs.proofs.composed_target_at.Goals as goal

pub returns-then-is_empty : goal.returns-then-is_empty
returns-then-is_empty c = let z : length c.args.target.now ≡ 0 = search rules in value_bytes_after (composed_empty _ _ _ _ z)

pub map_at-requires : goal.map_at-requires
map_at-requires c = let z : length c.args.target.now ≢ 0 = search rules in composed_room _ _ _ c.args.bytes.now z c.requires

pub returns : goal.returns
returns c =
    let z : length c.args.target.now ≢ 0 = search rules in
    value_bytes_after (composed_made _ _ _ _ z _ _ c.map_at.ensures.value c.map_at.ensures.bytes_after _ c.unwrap_or.ensures)
