-- `plan_lines::put_steps` meets its contract: at each turn the lines of the steps so far are stored, and a turn stores one more behind them.
use mathlib.Core.Path.{◌≡◌}
use Prim.Native.Nat.{◌+◌, ◌*◌, ◌≤◌}
use lib.ListN.{length}
use Rattle.texts.proofs.Pieces.{Put}
use Rattle.plan_lines.specs.Lines.{step_lines}
use Rattle.plan_lines.proofs.put_steps.Given as goal

abbrev pub invariant-loop-i : goal.invariant-loop-i
invariant-loop-i l =
    (length l.out ≡ length l.initial.out) × (l.next ≤ l.at + 12 * l.i) × Put l.initial.out l.at l.out l.next (step_lines l.plan l.i)
