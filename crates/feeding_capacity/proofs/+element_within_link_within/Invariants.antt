-- `element_within` and `link_within` stop at the first element above its capacity, and where the room is used up: a walk over the element's own ends, of which the last that leads on waits for the end; each call takes one off the depth.
use Prim.Native.Nat.{◌-◌, ◌≤◌}
use Rattle.feeding_capacity.proofs.Waiting.{Held}
use Rattle.feeding_capacity.proofs.+element_within_link_within.Given as goal

abbrev pub decreases-element_within : goal.decreases-element_within
decreases-element_within l =
    l.depth

abbrev pub decreases-link_within : goal.decreases-link_within
decreases-link_within l =
    l.depth

abbrev pub invariant-element_within-loop-j : goal.invariant-element_within-loop-j
invariant-element_within-loop-j l =
    Held l.walk.elements l.walk.links l.walk.own.far l.closed l.walk.load l.walk.capacity (l.depth - 1) l.e l.via l.sum l.last l.j × (l.sum ≤ l.most)

abbrev pub decreases-element_within-loop-j : goal.decreases-element_within-loop-j
decreases-element_within-loop-j l =
    192 - l.j
