use mathlib.Core.Path.{refl}
use Rattle.path_rest.proofs.CarriedLaws.{without_rest}
use Rattle.mapping.proofs.CopyOutBranches.{made_within, made_out, short_fast}
use Rattle.mapping.proofs.map_into.Goals as goal

pub copy_out-requires : goal.copy_out-requires
copy_out-requires c =
    let made = without_rest _ _ _ _ _ _ c.reply_of.ensures c.map_text_carried-c.ensures in
    made_within _ _ _ _ made.0 made.1

pub returns : goal.returns
returns c =
    let made = without_rest _ _ _ _ _ _ c.reply_of.ensures c.map_text_carried-c.ensures in
    (c.map_text_carried-c.ensures.0, (made_out _ _ _ _ made.0 made.1 _ _ _ c.requires (short_fast _ _ _) (refl, c.copy_out.ensures)).1)
