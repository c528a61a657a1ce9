use mathlib.Core.Path.{ap, ◌∙◌}
use Rattle.ffi_values.specs.Code.{reply_code}
use Rattle.mudvizsor.proofs.mudvizsor_path_ancestors.Goals as goal

pub returns : goal.returns
returns c =
    record {
      value = c.reply_code.ensures ∙ ap reply_code c.ancestors.ensures.value;
      lengths_after = rw (← c.ancestors.ensures.value) c.ancestors.ensures.lengths_after;
    }
