use Rattle.route_maps.proofs.ReadLaws.{prepared_read}
use Rattle.batch.proofs.BatchLaws.{all_same, prepared_step}
use borrow.Author.Rules.{rules}
use Rattle.text.proofs.Clauses.{out_after_replies_after}
use Rattle.batch.proofs.route_prepared.Goals as goal

pub returns : goal.returns
returns c =
    out_after_replies_after (all_same _ _
    (prepared_step _ _ _ _ _
    c.requires.list_value
    _ _ (search rules) (search rules)
    (prepared_read _ _ _ _ _ c.prepare_legs.ensures.made_after
    c.prepare_legs.ensures.table_after))
    _ _ _ _ _ (c.map_each.ensures.out_after, c.map_each.ensures.replies_after))
