-- The first state is the start, and each step leads from a state that was reached to the next one.
use Rattle.std.proofs.Common.{arith, refl, sym, subst}
use Rattle.frames_memory.specs.declared.Counters.{Counters}
use Rattle.frame_stream.specs.Progress.{state_between, StartState, unconsumed}
use Rattle.frames.proofs.MoveLaws.{come_start, come_reached, come_next, come_all, come_begun, come_failed}
use Rattle.frames.proofs.LoopStateLaws.{running_done, either_way}
use Rattle.frames.proofs.run.Goals as goal

pub loop-step-init : goal.loop-step-init
loop-step-init g c =
    let args = c.args in
    let start = subst
    (λ (k : Counters). StartState (state_between 0 k args.line.now args.bytes.now args.places.now args.store.now args.slots.now args.table.now args.out.now))
    (sym c.initial_counters.ensures) c.requires in
    record {
      end = omega arith;
      going = λ _. come_start _ _ _ start;
      finished = λ e. absurd (running_done e);
      all = λ e. absurd (running_done e);
      begun = λ e. absurd (e refl);
    }

pub loop-step-preserved : goal.loop-step-preserved
loop-step-preserved g c =
    let l = c.loop-step in
    let r = l.invariant.going c.in-Running.is in
    let s = c.step-now.ensures in
    let rest = unconsumed l.block l.now.at l.now.end in
    let state = state_between l.now.len l.now.kept l.line l.bytes l.places l.store l.slots l.table l.out in
    record {
      end = s.end_bound_2;
      going = λ e. come_next _ _ rest state _ _ r _ _ _ _ (s.next e);
      finished = λ e. record { rest = rest; state = state; reached = come_reached _ _ rest state _ _ r; last = s.fact.1 e };
      all = λ e. come_all _ _ rest state _ _ r _ _ (s.last e);
      begun = λ e. come_failed _ _ rest state _ _ r _ _ (s.failed e);
    }

pub returns-clause-begun : goal.returns-clause-begun
returns-clause-begun g c =
    let i = c.loop-step.invariant in
    either_way c.loop-step.now.state (λ e. come_begun _ _ _ _ _ _ (i.going e)) i.begun
