-- `feeding_parts::parts_of` meets its contract: after l links the roots are the labels, and the marks stand where loops closed, by one law a way of the turn.
use Rattle.feeding.specs.Networks.{at}
use Rattle.feeding.specs.Parts.{closed_in}
use Rattle.feeding_parts.proofs.Relabelling.{Stands}
use Rattle.feeding_parts.proofs.parts_of.Given as goal

abbrev pub invariant-loop-l : goal.invariant-loop-l
invariant-loop-l l = Stands (at l.from) (at l.to) (closed_in l.closed) l.l l.parent l.looped
