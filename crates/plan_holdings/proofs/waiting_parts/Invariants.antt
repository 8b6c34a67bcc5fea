-- `waiting_parts` meets its contract. The loop's invariant: sum counts the parts below x that wait, and so is at most x.
use mathlib.Core.Path.{◌≡◌}
use Prim.Native.Nat.{◌≤◌}
use Rattle.feeding.specs.Below.{sum_to}
use Rattle.plan_holdings.specs.Holdings.{waiting_at}
use Rattle.plan_holdings.proofs.waiting_parts.Given as goal

abbrev pub invariant-loop-x : goal.invariant-loop-x
invariant-loop-x l = (l.sum ≤ l.x) × (l.sum ≡ sum_to l.x (waiting_at l.label l.holds))
