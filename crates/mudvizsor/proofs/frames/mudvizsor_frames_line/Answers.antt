use mathlib.Core.Path.{ap, ◌∙◌}
use Rattle.ffi_values.specs.Code.{reply_code}
use Rattle.mudvizsor.proofs.frames.mudvizsor_frames_line.Goals as goal

pub returns : goal.returns
returns c =
    record {
      value = c.reply_code.ensures ∙ ap reply_code c.answer_whole.ensures.value;
      kept_after = c.answer_whole.ensures.kept_after;
      table_after = c.answer_whole.ensures.table_after;
      out_after = c.answer_whole.ensures.out_after;
    }
