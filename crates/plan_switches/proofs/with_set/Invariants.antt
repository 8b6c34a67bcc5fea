-- `with_set` meets its contract. The loop's invariant: what is left of the set makes of out what the whole set makes of the states.
use mathlib.Core.Path.{◌≡◌}
use Rattle.feeding.specs.Networks.{at}
use Rattle.plan_switches.specs.Switches.{with_set}
use Rattle.plan_switches.proofs.with_set.Given as goal

abbrev pub invariant-loop-i : goal.invariant-loop-i
invariant-loop-i l =
    with_set (at l.link) (at l.closed) l.i l.rest l.out ≡ with_set (at l.link) (at l.closed) l.count l.set l.initial.out
