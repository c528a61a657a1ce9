-- The buffers are zeros, and large enough.
use Rattle.std.proofs.Common.{arith}
use Rattle.frame_stream.proofs.ProgressLaws.{start_zeros}
use Rattle.frames.proofs.main.Goals as goal

pub run-now-requires : goal.run-now-requires
run-now-requires c =
    start_zeros 4096 32640 256 32768 4096 48 65536 (omega arith) (omega arith) (omega arith) (omega arith) (omega arith) (omega arith) (omega arith)
