-- The lowest marked element that is not the last of its part: what is left to search gives the whole answer.
use mathlib.Core.Path.{◌≡◌}
use Prim.Native.Nat.{◌-◌}
use Rattle.feeding.specs.Below.{lowest, lowest_from}
use Rattle.feeding_places.specs.Places.{not_last}
use Rattle.feeding_places.proofs.pair_place.Given as goal

abbrev pub invariant-loop-s : goal.invariant-loop-s
invariant-loop-s l =
    lowest_from (l.elements - l.s) l.s (not_last l.label l.sound l.last) ≡ lowest l.elements (not_last l.label l.sound l.last)
