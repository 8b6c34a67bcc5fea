-- `file_writer::put_steps` meets its contract: at each turn the steps so far are stored behind the plan head, and a turn stores one more behind them.
use mathlib.Core.Path.{◌≡◌}
use lib.ListN.{length}
use lib.Seq.{sets}
use Rattle.file_writer.specs.Writing.{steps_bytes}
use Rattle.file_writer.proofs.put_steps.Given as goal

abbrev pub invariant-loop-i : goal.invariant-loop-i
invariant-loop-i l =
    (length l.buffer ≡ length l.initial.buffer) × (l.buffer ≡ sets l.initial.buffer 6 (steps_bytes l.plan l.i))
