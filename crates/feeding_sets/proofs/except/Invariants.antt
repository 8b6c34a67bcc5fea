-- `except` meets its contract. The loop's invariant: out marks those below x that are in the one set and not in the other.
use mathlib.Core.Path.{◌≡◌}
use Rattle.feeding.specs.Below.{bits}
use Rattle.feeding_sets.specs.Sets.{but_not}
use Rattle.feeding_sets.proofs.except.Given as goal

abbrev pub invariant-loop-x : goal.invariant-loop-x
invariant-loop-x l = l.out ≡ bits 96 l.x (but_not l.yes l.no)
