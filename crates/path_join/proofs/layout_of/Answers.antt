-- The tests on the bytes at the ends of the texts are those on the texts.
use Rattle.path_join.proofs.LayoutLaws.{laid_out}
use Rattle.path_join.proofs.layout_of.Goals as goal

pub returns : goal.returns
returns c =
    let first = c.first_byte-first.ensures in
    let old-last = c.last_byte-old_last.ensures in
    let new-last = c.last_byte-new_last.ensures in
    let name = c.is_name_byte.ensures in
    laid_out _ _ _ _ _ _ _ first old-last new-last name _ _ c.separator_len.ensures c.as_number.ensures
