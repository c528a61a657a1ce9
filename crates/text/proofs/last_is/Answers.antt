use Rattle.std.proofs.Common.{◌∙◌, refl}
use Rattle.text.proofs.TextLaws.{last_get}
use Rattle.text.proofs.last_is.Goals as goal

pub returns : goal.returns
returns c = c.eq.ensures ∙ last_get c.args.b c.args.text.now c.last.result _ refl c.last.ensures.value
