use mathlib.Core.Path.{◌≡◌}
use Prim.Native.Nat.{◌-◌, ◌≤◌}
use lib.ListN.{length}
use Rattle.frame_stream.specs.Stream.{stream_state, stream_start, process_block}
use Rattle.frame_stream.proofs.process_block.Given as goal

abbrev pub invariant-loop-used : goal.invariant-loop-used
invariant-loop-used l =
    (l.used ≤ length l.block) × (l.end ≤ length l.initial.out) ×
    (process_block l.block (stream_state (record { used = l.used; len = l.n; kept = l.kept; end = l.end }) l.line l.bytes l.places l.store l.slots l.table l.out) ≡
    process_block l.block (stream_state (stream_start l.initial.n l.initial.kept 0) l.initial.line l.initial.bytes l.initial.places l.initial.store l.initial.slots l.initial.table l.initial.out))
    × (length l.line ≡ length l.initial.line) × (length l.bytes ≡ length l.initial.bytes) × (length l.places ≡ length l.initial.places) × (length l.store ≡ length l.initial.store) ×
    (length l.slots ≡ length l.initial.slots) × (length l.table ≡ length l.initial.table) × (length l.out ≡ length l.initial.out)

abbrev pub decreases-loop-used : goal.decreases-loop-used
decreases-loop-used l = length l.block - l.used
