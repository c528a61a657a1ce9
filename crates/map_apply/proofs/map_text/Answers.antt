use Rattle.path_rest.proofs.CarriedLaws.{without_rest}
use Rattle.map_apply.proofs.map_text.Goals as goal

pub returns : goal.returns
returns c = without_rest _ _ _ _ _ _ c.reply_of.ensures c.map_text_carried.ensures
