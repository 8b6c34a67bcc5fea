-- The lowest marked element whose part has a last one: what is left to search gives the whole answer.
use mathlib.Core.Path.{◌≡◌}
use Prim.Native.Nat.{◌-◌}
use Rattle.feeding.specs.Below.{lowest, lowest_from}
use Rattle.feeding_places.specs.Places.{with_last}
use Rattle.feeding_places.proofs.fault_place.Given as goal

abbrev pub invariant-loop-x : goal.invariant-loop-x
invariant-loop-x l =
    lowest_from (l.elements - l.x) l.x (with_last l.label l.faulty l.last) ≡ lowest l.elements (with_last l.label l.faulty l.last)
