-- `element_sum` and `link_sum` add up what lies ahead: a walk over the element's own ends, whose last link waits; each call takes one off the depth.
use Prim.Native.Nat.{◌-◌}
use Rattle.feeding_part_sums.proofs.Summing.{Held}
use Rattle.feeding_part_sums.proofs.+element_sum_link_sum.Given as goal

abbrev pub decreases-element_sum : goal.decreases-element_sum
decreases-element_sum l =
    l.depth

abbrev pub decreases-link_sum : goal.decreases-link_sum
decreases-link_sum l =
    l.depth

abbrev pub invariant-element_sum-loop-j : goal.invariant-element_sum-loop-j
invariant-element_sum-loop-j l =
    Held l.walk l.closed l.number (l.depth - 1) l.e l.via l.before l.sum l.last l.j

abbrev pub decreases-element_sum-loop-j : goal.decreases-element_sum-loop-j
decreases-element_sum-loop-j l =
    192 - l.j
