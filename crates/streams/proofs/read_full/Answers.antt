-- What one more read brought stands behind what stood there.
-- Assumes nothing.
use Rattle.std.proofs.Common.{length, ◌-◌, take, arith}
use Rattle.streams.proofs.Brought.{part_put, consumes_on}
use Rattle.streams.proofs.read_full.Goals as goal

pub loop-done-preserved : goal.loop-done-preserved
loop-done-preserved g c =
    let at = c.loop-done.done in
    let before = c.loop-done.buffer in
    let part = c.read.new.buf in
    let got = c.in-Ok.ensures.bound.0 in
    let put = part_put at c.in-Ok.n (length before - at) before part (omega arith) got in
    let all = consumes_on _ _ _ (take at before) (take c.in-Ok.n part) _ c.loop-done.invariant.2 c.in-Ok.ensures.bytes.0 put in
    (omega (arith, got), omega arith, all)
