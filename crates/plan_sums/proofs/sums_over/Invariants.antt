-- `sums_over` meets its contract. The loop's invariant: the three sums are those over the elements below e.
use Rattle.plan_sums.proofs.Totals.{SumsTo}
use Rattle.plan_sums.proofs.sums_over.Given as goal

abbrev pub invariant-loop-e : goal.invariant-loop-e
invariant-loop-e l =
    SumsTo l.load l.live l.restorable l.e l.fed l.dark l.lost
