-- `element_loads` and `link_loads` answer the load and store those on the way: a walk over the element's own ends; each call takes one off the depth.
use Prim.Native.Nat.{◌-◌}
use Rattle.feeding.specs.Parts.{closed_in}
use Rattle.feeding_loads.specs.Walks.{walk_grid}
use Rattle.feeding_margins.proofs.Rounds.{Storing}
use Rattle.feeding_margins.proofs.+element_loads_link_loads.Given as goal

abbrev pub decreases-element_loads : goal.decreases-element_loads
decreases-element_loads l =
    l.depth

abbrev pub decreases-link_loads : goal.decreases-link_loads
decreases-link_loads l =
    l.depth

abbrev pub invariant-element_loads-loop-j : goal.invariant-element_loads-loop-j
invariant-element_loads-loop-j l =
    Storing (walk_grid l.lists.elements l.lists.links l.lists.far.now l.lists.load.now l.lists.load.now) (closed_in l.lists.closed.now) (l.depth - 1) l.e l.via l.initial.loads l.sum l.loads l.j

abbrev pub decreases-element_loads-loop-j : goal.decreases-element_loads-loop-j
decreases-element_loads-loop-j l =
    192 - l.j
