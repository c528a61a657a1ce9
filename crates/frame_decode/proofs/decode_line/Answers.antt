-- An overlong line has no bytes; otherwise the bytes are those that the digits decode to.
use mathlib.Core.Path.{◌∙◌}
use Rattle.frame_decode.proofs.LineLaws.{line_long, line_beyond, line_decoded}
use Rattle.text.proofs.WriteLaws.{part_size}
use Rattle.frame_decode.proofs.decode_line.Goals as goal

-- the clauses by their names
by_clause_value : {A B : Type 0} → A × B → record { value : A; frame_after : B }
by_clause_value t = record { value = t.0; frame_after = t.1 }

pub returns-then-len-gt4096 : goal.returns-then-len-gt4096
returns-then-len-gt4096 c = by_clause_value (line_long _ _ _ c.if-len-gt4096.true)

pub returns-then-line-len : goal.returns-then-line-len
returns-then-line-len c = by_clause_value (line_beyond _ _ _ c.if-line-len.true)

pub slice_bounds-decode-end : goal.slice_bounds-decode-end
slice_bounds-decode-end c = part_size _ _ c.if-line-len.false

pub returns : goal.returns
returns c =
    let w = line_decoded _ _ c.if-len-gt4096.false c.if-line-len.false _ _ _ c.decode.ensures.value c.decode.ensures.out_after in
    by_clause_value (c.unwrap_or.ensures ∙ w.0, w.1)
