-- The states after the steps: what the steps left make of the states so far is what all make of those at the start.
use Rattle.judge_steps.proofs.Following.{Running}
use Rattle.judge_steps.proofs.states_after.Given as goal

abbrev pub invariant-loop-i : goal.invariant-loop-i
invariant-loop-i l = Running l.plan l.initial.closed l.closed l.i
