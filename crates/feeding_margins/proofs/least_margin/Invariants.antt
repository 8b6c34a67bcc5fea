-- `least_margin` keeps the tightest spot of the elements before e.
use mathlib.Core.Path.{◌≡◌}
use Rattle.feeding.specs.Networks.{at}
use Rattle.feeding_margins.specs.Margins.{tightest_in}
use Rattle.feeding_margins.proofs.least_margin.Given as goal

abbrev pub invariant-loop-e : goal.invariant-loop-e
invariant-loop-e l =
    l.spot ≡ tightest_in l.e (at l.capacity) (at l.loads)
