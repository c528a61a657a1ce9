use mathlib.Core.Path.{refl}
use Rattle.frame_decode.proofs.LineLaws.{line_within, line_parsed}
use Rattle.frame_answer.proofs.FrameBranches.{line_refused, line_room, line_answered}
use Rattle.text.proofs.WriteLaws.{part_size}
use mathlib.Core.Path.{ap}
use mathlib.Core.Bool.{not}
use Rattle.frame_answer.proofs.answer_line.Goals as goal

-- the clauses by their names
by_clause_table_after : {A B C : Type 0} → A × (B × C) → record { table_after : A; end_value : B; out_after : C }
by_clause_table_after t = record { table_after = t.0; end_value = t.1.0; out_after = t.1.1 }

pub returns-then-not-has_room : goal.returns-then-not-has_room
returns-then-not-has_room c = by_clause_table_after (line_refused _ _ _ _ _ c.has_room.ensures (ap not c.if-not-has_room.true))

pub slice_bounds-frame-end : goal.slice_bounds-frame-end
slice_bounds-frame-end c = line_within _ _ _ _ _ refl (c.decode_line-n.ensures.value, c.decode_line-n.ensures.frame_after)

pub slice_bounds-answer_frame-end : goal.slice_bounds-answer_frame-end
slice_bounds-answer_frame-end c = part_size _ _ (line_within _ _ _ _ _ refl (c.decode_line-n.ensures.value, c.decode_line-n.ensures.frame_after))

pub answer_frame-requires : goal.answer_frame-requires
answer_frame-requires c = line_room _ c.args.out.now _ c.has_room.ensures (ap not c.if-not-has_room.false)

pub returns : goal.returns
returns c =
    by_clause_table_after (line_answered _ _ _ _ _ c.has_room.ensures (ap not c.if-not-has_room.false) _ (line_parsed _ _ _ _ _ refl (c.decode_line-n.ensures.value, c.decode_line-n.ensures.frame_after)) _ _ _
    c.answer_frame.ensures)
