-- `left_over` meets its contract. The loop's invariant: out has what is left of the capacities of the sources among the first s elements, at their labels.
use mathlib.Core.Path.{◌≡◌}
use Rattle.plan_supply.specs.Supply.{spare_in}
use Rattle.plan_supply.proofs.left_over.Given as goal

abbrev pub invariant-loop-s : goal.invariant-loop-s
invariant-loop-s l =
    l.out ≡ spare_in l.asked l.label l.sound l.capacity l.s
