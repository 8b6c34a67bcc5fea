-- `with_steps` meets its contract. The loop's invariant: the plan has the steps of the sweep over the links below l, so at most l more.
use mathlib.Core.Path.{◌≡◌}
use Prim.Native.Nat.{◌+◌, ◌≤◌}
use Rattle.plan_form.proofs.Sweeping.{swept_to}
use Rattle.plan_form.proofs.with_steps.Given as goal

abbrev pub invariant-loop-l : goal.invariant-loop-l
invariant-loop-l l =
    (l.longer.steps ≤ l.initial.longer.steps + l.l) × (l.longer ≡ swept_to l.operated l.closed l.state l.initial.longer l.close l.l)
