-- `plan_cost` meets its contract: the sum is the cost of the steps passed, and the guards marked are those that they pay for.
use Rattle.judge_steps.proofs.Paying.{Paid}
use Rattle.judge_steps.proofs.plan_cost.Given as goal

abbrev pub invariant-loop-i : goal.invariant-loop-i
invariant-loop-i l =
    Paid l.net l.plan l.paid l.sum l.i
