use Rattle.path_parts.proofs.StripLaws.{strip_never, strip_part, strip_inside}
use Rattle.path_rest.proofs.CarriedLaws.{same_carried, without_rest, answering_carried}
use Rattle.mapping.proofs.CopyOutBranches.{translate_plain, translate_back, translated_rest_plain, translated_rest_stripped}
use mathlib.Core.Path.{ap}
use mathlib.Core.Bool.{not}
use Rattle.mapping.proofs.translate_stripped.Goals as goal

pub returns-then-not-has_variant_selection : goal.returns-then-not-has_variant_selection
returns-then-not-has_variant_selection c =
    let tested = c.has_variant_selection.ensures in
    same_carried _ _ _ _ (translate_plain _ _ _ tested (ap not c.if-not-has_variant_selection.true)) (translated_rest_plain _ _ _ tested (ap not c.if-not-has_variant_selection.true)) _ _ _
    c.translate_into.ensures

pub returns-in_err-k : goal.returns-in_err-k
returns-in_err-k c = absurd (strip_never _ _ _ c.requires.0 c.strip_into.ensures.value c.in_err-k.ensures.ok_part)

pub slice_bounds-plain-end : goal.slice_bounds-plain-end
slice_bounds-plain-end c = strip_inside _ _ _ c.requires.0 c.strip_into.ensures.value _ c.in_ok-k.ensures.ok_part _ c.strip_into.ensures.out_after

pub slice_bounds-translate_into-end : goal.slice_bounds-translate_into-end
slice_bounds-translate_into-end c = strip_part _ _ _ c.requires.0 c.strip_into.ensures.value _ c.in_ok-k.ensures.ok_part _ c.strip_into.ensures.out_after

pub returns : goal.returns
returns c =
    answering_carried _ _ _ _
    (translate_back _ _ _ c.requires.0 c.strip_into.ensures.value _ c.in_ok-k.ensures.ok_part _
    c.strip_into.ensures.out_after _)
    (translated_rest_stripped _ _ _ c.has_variant_selection.ensures (ap not c.if-not-has_variant_selection.false))
    _ _ _ _ c.with_rest.ensures (without_rest _ _ _ _ _ _ c.reply_of.ensures c.translate_into-c.ensures)
