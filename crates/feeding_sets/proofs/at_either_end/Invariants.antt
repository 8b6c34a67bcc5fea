-- `at_either_end` meets its contract. The loop's invariant: out marks those below l that have an end in the set.
use mathlib.Core.Path.{◌≡◌}
use Rattle.feeding.specs.Below.{bits}
use Rattle.feeding_sets.specs.Sets.{at_either_end}
use Rattle.feeding_sets.proofs.at_either_end.Given as goal

abbrev pub invariant-loop-l : goal.invariant-loop-l
invariant-loop-l l = l.out ≡ bits 96 l.l (at_either_end l.from l.to l.has)
