-- `feeding_parts::parts_of` meets its contract: after l links the roots are the labels, and the marks stand where loops closed, by one law a way of the turn.
use mathlib.Core.Path.{refl}
use native.Mathlib.Omega.{arith}
use borrow.Author.Tests.{eq-eqb, ne_eqb}
use Rattle.feeding.specs.Below.{tabulate}
use Rattle.feeding.specs.Networks.{at}
use Rattle.feeding.specs.Parts.{closed_in}
use Rattle.feeding_parts.proofs.Roots.{root_in}
use Rattle.feeding_parts.proofs.Relabelling.{stands_none, turn_open, turn_loop, turn_low, turn_high, parts_done}
use Rattle.feeding_parts.proofs.parts_of.Goals as goal
use Rattle.feeding_parts.proofs.parts_of.Goals.{else-closed-l-eq1, then-closed-l-eq1+else-x-y+else-x-y-2, then-closed-l-eq1+else-x-y+then-x-y-2, then-closed-l-eq1+then-x-y}

pub loop-l-init : goal.loop-l-init
unfolding tabulate
loop-l-init c =
    let s = c.args in
    stands_none (at s.from.now) (at s.to.now) (closed_in s.closed.now) _ _ refl refl

pub overflow_cast-a : goal.overflow_cast-a
overflow_cast-a c = omega (arith, c.type_inv.from c.loop-l.l)

pub overflow_cast-b : goal.overflow_cast-b
overflow_cast-b c = omega (arith, c.type_inv.to c.loop-l.l)

pub root-x-requires : goal.root-x-requires
root-x-requires c =
    let n = c.loop-l in
    record { falls = n.invariant.falls; x_in_bounds = omega (arith, c.requires.from_in n.l (omega arith), n.invariant.long) }

pub root-y-requires : goal.root-y-requires
root-y-requires c =
    let n = c.loop-l in
    record { falls = n.invariant.falls; x_in_bounds = omega (arith, c.requires.to_in n.l (omega arith), n.invariant.long) }

pub bounds-looped-a : goal.bounds-looped-a
bounds-looped-a c =
    c.requires.from_in c.loop-l.l (omega arith)

pub overflow_cast-parent : goal.overflow_cast-parent
overflow_cast-parent c =
    let n = c.loop-l in
    omega (arith, root_in n.parent n.invariant.falls _ c.root-x.result (c.requires.from_in n.l (omega arith)) c.root-x.ensures)

pub bounds-parent-y : goal.bounds-parent-y
bounds-parent-y c =
    let n = c.loop-l in
    omega (arith, root_in n.parent n.invariant.falls _ c.root-y.result (c.requires.to_in n.l (omega arith)) c.root-y.ensures)

pub overflow_cast-parent-then-x-y-2 : goal.overflow_cast-parent-then-x-y-2
overflow_cast-parent-then-x-y-2 c =
    let n = c.loop-l in
    omega (arith, root_in n.parent n.invariant.falls _ c.root-x.result (c.requires.from_in n.l (omega arith)) c.root-x.ensures)

pub bounds-parent-a : goal.bounds-parent-a
bounds-parent-a c =
    c.requires.from_in c.loop-l.l (omega arith)

pub overflow_cast-parent-then-x-y-2-2 : goal.overflow_cast-parent-then-x-y-2-2
overflow_cast-parent-then-x-y-2-2 c =
    let n = c.loop-l in
    omega (arith, root_in n.parent n.invariant.falls _ c.root-x.result (c.requires.from_in n.l (omega arith)) c.root-x.ensures)

pub bounds-parent-b : goal.bounds-parent-b
bounds-parent-b c =
    c.requires.to_in c.loop-l.l (omega arith)

pub overflow_cast-parent-else-x-y-2 : goal.overflow_cast-parent-else-x-y-2
overflow_cast-parent-else-x-y-2 c =
    let n = c.loop-l in
    omega (arith, root_in n.parent n.invariant.falls _ c.root-y.result (c.requires.to_in n.l (omega arith)) c.root-y.ensures)

pub bounds-parent-x : goal.bounds-parent-x
bounds-parent-x c =
    let n = c.loop-l in
    omega (arith, root_in n.parent n.invariant.falls _ c.root-x.result (c.requires.from_in n.l (omega arith)) c.root-x.ensures)

pub overflow_cast-parent-else-x-y-2-2 : goal.overflow_cast-parent-else-x-y-2-2
overflow_cast-parent-else-x-y-2-2 c =
    let n = c.loop-l in
    omega (arith, root_in n.parent n.invariant.falls _ c.root-y.result (c.requires.to_in n.l (omega arith)) c.root-y.ensures)

pub bounds-parent-a-else-x-y-2 : goal.bounds-parent-a-else-x-y-2
bounds-parent-a-else-x-y-2 c =
    c.requires.from_in c.loop-l.l (omega arith)

pub overflow_cast-parent-else-x-y-2-3 : goal.overflow_cast-parent-else-x-y-2-3
overflow_cast-parent-else-x-y-2-3 c =
    let n = c.loop-l in
    omega (arith, root_in n.parent n.invariant.falls _ c.root-y.result (c.requires.to_in n.l (omega arith)) c.root-y.ensures)

pub bounds-parent-b-else-x-y-2 : goal.bounds-parent-b-else-x-y-2
bounds-parent-b-else-x-y-2 c =
    c.requires.to_in c.loop-l.l (omega arith)

pub loop-l-preserved : goal.loop-l-preserved
loop-l-preserved c =
    let n = c.loop-l in
    let f = at c.args.from.now in
    let t = at c.args.to.now in
    let k = closed_in c.args.closed.now in
    elim c.if-closed-l-eq1.branch [
      | then-closed-l-eq1+then-x-y w ↦ rw (w.parent-is, w.looped-is)
          (turn_loop f t k n.l n.parent n.looped n.invariant (eq-eqb (at c.args.closed.now n.l) 1 (omega arith))
          (c.requires.from_in n.l (omega arith)) (c.requires.to_in n.l (omega arith))
          w.root-x.result w.root-y.result w.root-x.ensures w.root-y.ensures (omega arith))
      | then-closed-l-eq1+else-x-y+then-x-y-2 w ↦ rw (w.parent-is, w.looped-is)
          (turn_low f t k n.l n.parent n.looped n.invariant (eq-eqb (at c.args.closed.now n.l) 1 (omega arith))
          (c.requires.from_in n.l (omega arith)) (c.requires.to_in n.l (omega arith))
          w.root-x.result w.root-y.result w.root-x.ensures w.root-y.ensures (omega arith))
      | then-closed-l-eq1+else-x-y+else-x-y-2 w ↦ rw (w.parent-is, w.looped-is)
          (turn_high f t k n.l n.parent n.looped n.invariant (eq-eqb (at c.args.closed.now n.l) 1 (omega arith))
          (c.requires.from_in n.l (omega arith)) (c.requires.to_in n.l (omega arith))
          w.root-x.result w.root-y.result w.root-x.ensures w.root-y.ensures (omega arith))
      | else-closed-l-eq1 w ↦ rw (w.parent-is, w.looped-is) (turn_open f t k n.l n.parent n.looped n.invariant (ne_eqb (at c.args.closed.now n.l) 1 (omega arith)))
    ]

pub flat-label-requires : goal.flat-label-requires
flat-label-requires c = c.loop-l.invariant.falls

pub returns : goal.returns
returns c =
    let s = c.args in
    let n = c.loop-l in
    parts_done s.from.now s.to.now s.closed.now n.l s.links n.parent n.looped c.flat-label.result n.invariant (omega arith)
    c.flat-label.ensures
