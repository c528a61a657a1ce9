use Rattle.hex_digits.proofs.HexLaws.{value_small}
use native.Mathlib.Omega.{arith}
use Rattle.hex_digits.proofs.byte_from.Goals as goal

pub overflow_mul-result : goal.overflow_mul-result
overflow_mul-result c = omega (arith, value_small c.args.high, c.hex_value.ensures)

pub overflow_add-result : goal.overflow_add-result
overflow_add-result c = omega (arith, value_small c.args.high, c.hex_value.ensures, value_small c.args.low, c.hex_value-2.ensures)
