-- `over_place` takes the lowest number that the walks from the marked elements find: the loop keeps the lowest of those before s.
use mathlib.Core.Path.{◌≡◌}
use Rattle.feeding.specs.Parts.{closed_in}
use Rattle.feeding_loads.proofs.Sources.{place_to}
use Rattle.feeding_loads.proofs.over_place.Given as goal

abbrev pub invariant-loop-s : goal.invariant-loop-s
invariant-loop-s l =
    l.place ≡ place_to l.lists.elements l.lists.links l.lists.far.now l.lists.load.now l.capacity (closed_in l.lists.closed.now) l.sound l.s
