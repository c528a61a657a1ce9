use mathlib.Core.Path.{ap, ◌∙◌}
use Rattle.ffi_values.specs.Code.{reply_code}
use Rattle.mudvizsor.proofs.relocate_calls.mudvizsor_analyze_relocate_occurrences.Goals as goal

pub returns : goal.returns
returns c =
    record {
      value = c.reply_code.ensures ∙ ap reply_code c.analyze_relocate_occurrences.ensures.value;
      out_after = rw (← c.analyze_relocate_occurrences.ensures.value)
          c.analyze_relocate_occurrences.ensures.out_after;
    }
