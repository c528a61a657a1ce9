-- While the loop goes on, its state was reached; when the input is done, its state is the one after the input. The same for the bytes read and
-- written.
use Rattle.std.proofs.Common.{◌≡◌, ◌≢◌, ◌≤◌}
use Rattle.frame_stream.specs.Progress.{state_between, unconsumed, Finished}
use Rattle.frames.specs.Moves.{OutputWritten, OutputBegun}
use Rattle.frames.proofs.MoveLaws.{Come}
use Rattle.frames.specs.declared.LoopState.TheVariants.{Running, Done}
use Rattle.frames.proofs.run.Given as goal

abbrev pub invariant-loop-step : goal.invariant-loop-step
invariant-loop-step g l =
    let now = state_between l.now.len l.now.kept l.line l.bytes l.places l.store l.slots l.table l.out in
    record {
      end : l.now.end ≤ 65536;
      going : l.now.state ≡ Running → Come (g.R.Read.remaining l.initial.from) (g.W.Write.contents l.initial.to) (unconsumed l.block l.now.at l.now.end) now (g.R.Read.remaining l.from) (g.W.Write.contents l.to);
      finished : l.now.state ≡ Done → Finished now;
      all : l.now.state ≡ Done → OutputWritten (g.R.Read.remaining l.initial.from) (g.W.Write.contents l.initial.to) (g.W.Write.contents l.to);
      begun : l.now.state ≢ Running → OutputBegun (g.R.Read.remaining l.initial.from) (g.W.Write.contents l.initial.to) (g.W.Write.contents l.to);
    }
