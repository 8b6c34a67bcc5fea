-- `members_of` meets its contract. The loop's invariant: out marks those below x whose value is one or the other.
use mathlib.Core.Path.{◌≡◌}
use Rattle.feeding.specs.Below.{bits}
use Rattle.feeding_sets.specs.Sets.{one_of}
use Rattle.feeding_sets.proofs.members_of.Given as goal

abbrev pub invariant-loop-x : goal.invariant-loop-x
invariant-loop-x l = l.out ≡ bits 96 l.x (one_of l.values l.one l.other)
