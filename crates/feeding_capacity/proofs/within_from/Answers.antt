-- `within_from` answers whether the walk from s finds no element above its capacity: the room at s is its capacity.
use mathlib.Core.Path.{◌∙◌}
use native.Mathlib.Omega.{arith}
use Rattle.feeding.specs.Parts.{closed_in}
use Rattle.feeding_capacity.proofs.Sources.{from_is}
use Rattle.feeding_capacity.proofs.Waiting.{past_zero}
use Rattle.feeding_capacity.proofs.within_from.Goals as goal

pub returns : goal.returns
returns c =
    let a = c.args in
    let w = a.walk.now in
    from_is w.elements w.links w.own.far w.load w.capacity (closed_in a.closed.now) a.s c.element_within-c.result (omega arith) (omega arith)
    (c.element_within-c.ensures ∙ past_zero _)
