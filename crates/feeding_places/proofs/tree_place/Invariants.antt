-- The least label of a marked element, kept as the least of those before.
use mathlib.Core.Path.{◌≡◌}
use Rattle.feeding_places.proofs.Tests.{least_below}
use Rattle.feeding_places.proofs.tree_place.Given as goal

abbrev pub invariant-loop-x : goal.invariant-loop-x
invariant-loop-x l = l.place ≡ least_below l.label l.looped l.elements l.x
