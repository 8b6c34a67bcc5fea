-- `holdings` meets its contract. The loop's invariant: the entries below x are those of the table.
use Rattle.plan_holdings.proofs.Tests.{Filled}
use Rattle.plan_holdings.proofs.holdings.Given as goal

abbrev pub invariant-loop-x : goal.invariant-loop-x
invariant-loop-x l = Filled l.live l.faulty l.needed l.x l.out
