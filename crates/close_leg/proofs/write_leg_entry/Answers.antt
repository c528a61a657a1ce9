-- The leg's three numbers lie in the table.
use Rattle.std.proofs.Common.{◌≡◌, Bool, true, false, cond, refl, ◌∙◌}
use mir.Val.{bool_byte}
use Rattle.close_leg.proofs.CloseBranches.{entry_known}
use Rattle.close_leg.proofs.write_leg_entry.Goals as goal

mark_number : (b : Bool) → bool_byte b ≡ cond b 1 0
mark_number true = refl
mark_number false = refl

pub returns : goal.returns
returns c = entry_known _ _ _ _ _ c.args.mark (c.from.ensures ∙ mark_number c.args.mark) c.requires.1 _ c.write_leg.ensures
