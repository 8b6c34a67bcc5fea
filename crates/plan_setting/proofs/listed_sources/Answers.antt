-- `listed_sources` meets its contract. The loop's invariant: the members among the first s elements stand one behind the other.
use mathlib.Core.Path.{refl}
use native.Mathlib.Omega.{arith}
use Rattle.plan_setting.proofs.Filling.{sources_none, sources_on, sources_off, sources_all}
use Rattle.plan_setting.proofs.listed_sources.Goals as goal
use Rattle.plan_setting.proofs.listed_sources.Goals.{else-sound-s-eq1, then-sound-s-eq1}

pub loop-s-init : goal.loop-s-init
loop-s-init c =
    sources_none c.args.sound.now

pub bounds-element-count : goal.bounds-element-count
bounds-element-count c =
    omega (arith, c.loop-s.invariant.few)

pub overflow_add-count : goal.overflow_add-count
overflow_add-count c =
    omega (arith, c.loop-s.invariant.few)

pub loop-s-preserved : goal.loop-s-preserved
loop-s-preserved c =
    let loop· = c.loop-s in
    elim c.if-sound-s-eq1.branch [
      | then-sound-s-eq1 w ↦ sources_on c.args.sound.now loop·.s loop·.count loop·.element loop·.invariant _ _ _ (omega arith) (omega arith) refl (omega arith) w.element-is
      | else-sound-s-eq1 w ↦ sources_off c.args.sound.now loop·.s loop·.count loop·.element loop·.invariant _ _ (omega arith) (omega arith) w.element-is
    ]

pub returns : goal.returns
returns c =
    sources_all c.args.sound.now c.loop-s.s c.loop-s.count c.loop-s.element c.loop-s.invariant c.args.elements (omega arith)
