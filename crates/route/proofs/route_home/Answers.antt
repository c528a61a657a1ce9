use Rattle.path_rest.proofs.CarriedLaws.{without_rest}
use Rattle.route.proofs.route_home.Goals as goal

pub returns : goal.returns
returns c = without_rest _ _ _ _ _ _ c.reply_of.ensures c.route_call.ensures
