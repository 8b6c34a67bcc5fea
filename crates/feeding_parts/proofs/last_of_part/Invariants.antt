-- `feeding_parts::last_of_part` meets its contract: after x elements the table is the one of the first x, by one store a marked element.
use mathlib.Core.Path.{◌≡◌}
use Rattle.feeding_parts.specs.Labelling.{last_of_part}
use Rattle.feeding_parts.proofs.last_of_part.Given as goal

abbrev pub invariant-loop-x : goal.invariant-loop-x
invariant-loop-x l = l.last ≡ last_of_part l.label l.has l.x
