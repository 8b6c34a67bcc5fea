-- `feeding_parts::root` meets its contract: the entry that the walk stands at keeps the root of x, since an element and its entry have one root.
use mathlib.Core.Path.{refl, sym, ap, ◌∙◌}
use native.Mathlib.Omega.{arith}
use Rattle.feeding_parts.specs.Labelling.{root_of}
use Rattle.feeding_parts.proofs.Roots.{falls_all, root_own, root_up}
use Rattle.feeding_parts.proofs.root.Goals as goal

pub overflow_cast-up : goal.overflow_cast-up
overflow_cast-up c = omega (arith, c.type_inv.parent c.args.x)

pub loop-up-init : goal.loop-up-init
loop-up-init c = (omega arith, refl, refl)

pub bounds-parent-at-in-loop-up : goal.bounds-parent-at-in-loop-up
bounds-parent-at-in-loop-up c =
    omega (arith, falls_all c.args.parent.now c.requires.falls c.loop-up.at)

pub overflow_cast-up-in-loop-up : goal.overflow_cast-up-in-loop-up
overflow_cast-up-in-loop-up c = omega (arith, c.type_inv.parent c.loop-up.up)

pub loop-up-smaller : goal.loop-up-smaller
loop-up-smaller c =
    omega (arith, falls_all c.args.parent.now c.requires.falls c.loop-up.at)

pub loop-up-preserved : goal.loop-up-preserved
loop-up-preserved c =
    let n = c.loop-up in (
      omega (arith, falls_all c.args.parent.now c.requires.falls n.at),
      refl,
      ap (root_of c.args.parent.now) n.invariant.1 ∙ root_up c.args.parent.now c.requires.falls n.at ∙ n.invariant.2,
    )

pub returns : goal.returns
returns c =
    let a = c.args in
    let n = c.loop-up in
    sym (root_own a.parent.now n.at (omega arith)) ∙ n.invariant.2
