use Rattle.refusal.proofs.CallBranches.{answering}
use Rattle.map_apply.proofs.TranslateBranches.{marked_kept}
use mathlib.Core.Path.{ap, sym, ◌∙◌}
use mathlib.Core.Bool.{not}
use Rattle.map_apply.proofs.translate_by_mark.Goals as goal

pub returns : goal.returns
returns c =
    answering _ _
    (marked_kept _ _ _ _ _ c.best_prefix.result c.best_prefix.ensures (ap not c.if-not-mark.false) (sym c.is_some.ensures ∙ c.if-is_some.false)) _ _ _
    c.keep_path.ensures
