-- `switches_of` meets its contract. The loop's invariant: the arrays are the columns of the members below l.
use mathlib.Core.Path.{◌≡◌}
use lib.ListN.{length}
use lib.Dec.{eqb}
use Rattle.feeding.specs.Below.{gate}
use Rattle.feeding.specs.Networks.{at}
use Rattle.feeding_sets.specs.Sets.{members}
use Rattle.plan_switches.specs.Switches.{column}
use Rattle.plan_switches.proofs.switches_of.Given as goal

abbrev pub invariant-loop-l : goal.invariant-loop-l
invariant-loop-l l =
    (l.count ≡ length (members l.operable l.l))
    × (l.link ≡ column (members l.operable l.l) (λ m. m))
    × (l.from ≡ column (members l.operable l.l) (at l.net.from))
    × (l.to ≡ column (members l.operable l.l) (at l.net.to))
    × (l.closed ≡ column (members l.operable l.l) (λ m. gate (eqb (at l.net.form m) 2) 1))
    × (l.price ≡ column (members l.operable l.l) (at l.net.cost))
