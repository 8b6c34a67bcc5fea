-- `asks_of` meets its contract. The loop's invariant: out has what the first e elements ask, at their labels.
use mathlib.Core.Path.{◌≡◌}
use Rattle.plan_supply.specs.Supply.{asks_in}
use Rattle.plan_supply.proofs.asks_of.Given as goal

abbrev pub invariant-loop-e : goal.invariant-loop-e
invariant-loop-e l =
    l.out ≡ asks_in l.label l.load l.capacity l.e
