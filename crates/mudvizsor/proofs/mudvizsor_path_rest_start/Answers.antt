use mathlib.Core.Path.{ap, ◌∙◌}
use Rattle.ffi_rest.specs.RestCode.{rest_test_code}
use Rattle.mudvizsor.proofs.mudvizsor_path_rest_start.Goals as goal

pub returns : goal.returns
returns c = c.rest_test_code.ensures ∙ ap rest_test_code c.rest_start.ensures
