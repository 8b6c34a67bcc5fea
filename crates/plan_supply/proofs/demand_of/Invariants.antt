-- `demand_of` meets its contract. The loop's invariant: sum is what the members below e ask.
use mathlib.Core.Path.{◌≡◌}
use Rattle.plan_supply.specs.Supply.{demand_in}
use Rattle.plan_supply.proofs.demand_of.Given as goal

abbrev pub invariant-loop-e : goal.invariant-loop-e
invariant-loop-e l =
    l.sum ≡ demand_in l.has l.load l.capacity l.e
