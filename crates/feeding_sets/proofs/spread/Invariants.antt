-- `spread` meets its contract. The loop's invariant: out marks those below x whose part has a member; the highest member of a part tells.
use mathlib.Core.Path.{◌≡◌}
use Rattle.feeding.specs.Below.{bits}
use Rattle.feeding_sets.specs.Sets.{part_has}
use Rattle.feeding_sets.proofs.spread.Given as goal

abbrev pub invariant-loop-x : goal.invariant-loop-x
invariant-loop-x l = l.out ≡ bits 96 l.x (part_has l.label l.has l.elements)
