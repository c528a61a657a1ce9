use mathlib.Core.Path.{ap, ◌∙◌}
use Rattle.ffi_values.specs.MapCode.{chain_code}
use Rattle.mudvizsor.proofs.relocate_calls.mudvizsor_chain_through_relocates.Goals as goal

pub returns : goal.returns
returns c =
    record {
      value = c.chain_code.ensures ∙ ap chain_code c.chain_through_relocates.ensures.value;
      out_after = c.chain_through_relocates.ensures.out_after;
    }
