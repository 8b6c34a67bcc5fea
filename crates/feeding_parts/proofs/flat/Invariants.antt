-- `feeding_parts::flat` meets its contract: the entries below x are roots, and the entry of x is below x or x itself.
use Rattle.feeding_parts.proofs.Roots.{FlatTo}
use Rattle.feeding_parts.proofs.flat.Given as goal

abbrev pub invariant-loop-x : goal.invariant-loop-x
invariant-loop-x l = FlatTo l.initial.label l.x l.label
