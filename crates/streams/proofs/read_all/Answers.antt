-- What one more read brought stands behind what stood there, and an input that ended was read whole.
-- Assumes nothing.
use Rattle.std.proofs.Common.{arith}
use Rattle.streams.proofs.Brought.{more_shown}
use Rattle.streams.proofs.read_all.Goals as goal

pub loop-preserved : goal.loop-preserved
loop-preserved g c =
    let inv = c.loop.invariant in
    let read = c.read_behind-input in
    let more = more_shown _ _ _ inv.0 c.loop.buffer read.new.buffer c.loop.at c.in-More.n read.result inv.1 inv.2 (omega arith) c.in-More.is read.ensures.known in
    (more.0, more.1, more.2, omega arith)
