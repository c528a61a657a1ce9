-- Every intermediate value is a test as a number, so it is 0 or 1 and fits.
use Rattle.path_join.proofs.LayoutLaws.{number_short, number_fits, after_root, child_after_prim, after_prim, after_prefix, separator_is_lem, separator_fits}
use Rattle.path_join.proofs.separator_len.Goals as goal

pub overflow_sub-after_root : goal.overflow_sub-after_root
overflow_sub-after_root c = rw c.as_number.ensures (number_short _)

pub overflow_mul-after_root : goal.overflow_mul-after_root
overflow_mul-after_root c = rw (c.as_number-root.ensures, c.as_number.ensures, after_root) (number_fits _)

pub overflow_sub-after_prim : goal.overflow_sub-after_prim
overflow_sub-after_prim c = rw c.as_number-root.ensures (number_short _)

pub overflow_mul-after_prim : goal.overflow_mul-after_prim
overflow_mul-after_prim c = rw (c.as_number-root.ensures, c.as_number-2.ensures, child_after_prim) (number_fits _)

pub overflow_sub-after_prim-2 : goal.overflow_sub-after_prim-2
overflow_sub-after_prim-2 c = rw c.as_number-3.ensures (number_short _)

pub overflow_mul-after_prim-2 : goal.overflow_mul-after_prim-2
overflow_mul-after_prim-2 c = rw (c.as_number-root.ensures, c.as_number-2.ensures, c.as_number-3.ensures, after_prim) (number_fits _)

pub overflow_add-result : goal.overflow_add-result
overflow_add-result c = rw (c.as_number-root.ensures, c.as_number.ensures, c.as_number-2.ensures, c.as_number-3.ensures, after_prefix) (number_fits _)

pub returns : goal.returns
returns c =
    rw (
      c.as_number-4.ensures,
      c.as_number-root.ensures,
      c.as_number.ensures,
      c.as_number-2.ensures,
      c.as_number-3.ensures,
    ) (separator_is_lem _ _ _ _ _)

-- The product is what is returned, which is 0 or 1.
pub overflow_mul-result : goal.overflow_mul-result
overflow_mul-result c = rw (returns c) (separator_fits _ _ _ _ _)
