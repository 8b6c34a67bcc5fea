-- `own_ends` chains the ends, from the last link down to the first: the two ends of each link in the set go to the heads of their elements' chains.
use Prim.Native.Nat.{◌*◌}
use Rattle.feeding.specs.Networks.{at, is_in}
use Rattle.feeding_ends.proofs.Chaining.{Chained}
use Rattle.feeding_ends.proofs.own_ends.Given as goal

abbrev pub invariant-loop-l : goal.invariant-loop-l
invariant-loop-l l = Chained (at l.from) (at l.to) (is_in l.has) l.links (2 * l.l) l.head l.next l.far
