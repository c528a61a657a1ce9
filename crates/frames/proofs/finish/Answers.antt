-- The end of the input: without an unfinished line nothing is done, otherwise a newline is fed.
use Rattle.std.proofs.Common.{[], ◌∷◌, ◌∙◌, sym, subst}
use Rattle.std.specs.Io.KnownBytes.{Appends}
use Rattle.std.proofs.KnownBytes.{Appends-nil}
use Rattle.text.specs.Bytes.{newline}
use Rattle.frame_stream.specs.Progress.{state_between}
use Rattle.frame_stream.proofs.ProgressLaws.{reached_read, input_ends, line_ends_lem}
use Rattle.frames.proofs.MoveLaws.{no_last, last_are, last_begun}
use Rattle.frames.proofs.LoopStateLaws.{all_done, not_running}
use Rattle.frames.proofs.finish.Goals as goal

pub returns-then-ended-clause-b_after : goal.returns-then-ended-clause-b_after
returns-then-ended-clause-b_after g c =
    input_ends
    (state_between c.args.len c.args.k c.args.line.now c.args.bytes.now c.args.places.now c.args.store.now c.args.slots.now c.args.table.now c.args.out.now)
    c.if-ended.true

pub returns-then-ended-clause-all : goal.returns-then-ended-clause-all
returns-then-ended-clause-all g c =
    let none = no_last
    (state_between c.args.len c.args.k c.args.line.now c.args.bytes.now c.args.places.now c.args.store.now c.args.slots.now c.args.table.now c.args.out.now)
    c.if-ended.true in
    λ _. subst (Appends _ _) (sym none) (Appends-nil _)

pub answer-p-requires : goal.answer-p-requires
answer-p-requires g c =
    reached_read
    (state_between c.args.len c.args.k c.args.line.now c.args.bytes.now c.args.places.now c.args.store.now c.args.slots.now c.args.table.now c.args.out.now)
    c.requires (newline ∷ [])

pub returns-clause-b_after : goal.returns-clause-b_after
returns-clause-b_after g c =
    line_ends_lem
    (state_between c.args.len c.args.k c.args.line.now c.args.bytes.now c.args.places.now c.args.store.now c.args.slots.now c.args.table.now c.args.out.now)
    _ c.if-ended.false c.answer-p.ensures.called

pub returns-clause-all : goal.returns-clause-all
returns-clause-all g c =
    let same = last_are
    (state_between c.args.len c.args.k c.args.line.now c.args.bytes.now c.args.places.now c.args.store.now c.args.slots.now c.args.table.now c.args.out.now)
    c.if-ended.false in
    λ h. subst (Appends _ _) (sym same) (c.answer-p.ensures.all (all_done _ (sym c.unless_failed.ensures ∙ h)))

pub returns-clause-begun : goal.returns-clause-begun
returns-clause-begun g c =
    last_begun
    (state_between c.args.len c.args.k c.args.line.now c.args.bytes.now c.args.places.now c.args.store.now c.args.slots.now c.args.table.now c.args.out.now)
    _ _ c.if-ended.false c.answer-p.ensures.begun
