-- `feeding_parts::last_of_part` meets its contract: after x elements the table is the one of the first x, by one store a marked element.
use mathlib.Core.Path.{◌≡◌, ap, ◌∙◌}
use native.Mathlib.Omega.{arith}
use Rattle.feeding_parts.proofs.Lasts.{lasts_none, lasts_on, lasts_off}
use Rattle.feeding_parts.specs.Labelling.{last_of_part}
use Rattle.feeding_parts.proofs.last_of_part.Goals as goal
use Rattle.feeding_parts.proofs.last_of_part.Goals.{else-has-x-eq1, then-has-x-eq1}

pub loop-x-init : goal.loop-x-init
loop-x-init c = lasts_none c.args.label.now c.args.has.now

pub overflow_cast-k : goal.overflow_cast-k
overflow_cast-k c = omega (arith, c.type_inv.label c.loop-x.x)

pub bounds-last-k : goal.bounds-last-k
bounds-last-k c = c.requires.all_below c.loop-x.x (omega arith)

pub loop-x-preserved : goal.loop-x-preserved
loop-x-preserved c =
    let n = c.loop-x in
    elim c.if-has-x-eq1.branch [ then-has-x-eq1 w ↦ w.last-is ∙ lasts_on c.args.label.now c.args.has.now n.x n.last n.invariant (omega arith) (c.requires.all_below n.x (omega arith)) | else-has-x-eq1 w ↦ w.last-is ∙ lasts_off c.args.label.now c.args.has.now n.x n.last n.invariant (omega arith) ]

pub returns : goal.returns
returns c =
    let s = c.args in
    let all : c.loop-x.x ≡ s.elements = omega arith in
    c.loop-x.invariant ∙ ap (last_of_part s.label.now s.has.now) all
