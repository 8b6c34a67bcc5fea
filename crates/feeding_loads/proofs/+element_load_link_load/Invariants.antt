-- `element_load` and `link_load` answer load and lowest overload: a walk over the element's own ends; each call takes one off the depth.
use Prim.Native.Nat.{◌-◌}
use Rattle.feeding.specs.Parts.{closed_in}
use Rattle.feeding_loads.specs.Walks.{walk_grid}
use Rattle.feeding_loads.proofs.Rounds.{Walked}
use Rattle.feeding_loads.proofs.+element_load_link_load.Given as goal

abbrev pub decreases-element_load : goal.decreases-element_load
decreases-element_load l = l.depth

abbrev pub decreases-link_load : goal.decreases-link_load
decreases-link_load l = l.depth

abbrev pub invariant-element_load-loop-j : goal.invariant-element_load-loop-j
invariant-element_load-loop-j l =
    Walked (walk_grid l.lists.elements l.lists.links l.lists.far.now l.lists.load.now l.capacity) (closed_in l.lists.closed.now) (l.depth - 1) l.e l.via l.sum l.over l.j

abbrev pub decreases-element_load-loop-j : goal.decreases-element_load-loop-j
decreases-element_load-loop-j l =
    192 - l.j
