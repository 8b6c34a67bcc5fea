-- `left_over` meets its contract. The loop's invariant: out has what is left of the capacities of the sources among the first s elements, at their labels.
use mathlib.Core.Path.{◌≡◌, refl, ap, ◌∙◌}
use native.Mathlib.Omega.{arith}
use Rattle.feeding.specs.Networks.{at}
use borrow.Author.Tests.{eq-eqb, ne_eqb}
use Rattle.plan_supply.specs.Supply.{spare_in}
use Rattle.plan_supply.proofs.Adding.{spare_none, spare_skip, spare_step}
use Rattle.plan_supply.proofs.left_over.Goals as goal
use Rattle.plan_supply.proofs.left_over.Goals.{else-sound-s-eq1, then-sound-s-eq1}

pub loop-s-init : goal.loop-s-init
loop-s-init c =
    let the-args = c.args in
    spare_none the-args.asked the-args.label.now the-args.sound.now the-args.capacity.now c.requires.asked_long

pub overflow_sub-out : goal.overflow_sub-out
overflow_sub-out c =
    let pre· = c.requires in
    let loop· = c.loop-s in
    let the-args = c.args in
    omega (arith, pre·.borne loop·.s (omega arith) (eq-eqb (at the-args.sound.now loop·.s) 1 (omega arith)))

pub loop-s-preserved : goal.loop-s-preserved
loop-s-preserved c =
    let the-args = c.args in
    let loop· = c.loop-s in
    let pre· = c.requires in
    elim c.if-sound-s-eq1.branch [
      | then-sound-s-eq1 w ↦ w.out-is ∙ spare_step the-args.asked the-args.label.now the-args.sound.now the-args.capacity.now loop·.s loop·.out (at the-args.label.now loop·.s) _ loop·.invariant (eq-eqb (at the-args.sound.now loop·.s) 1 (omega arith)) refl (pre·.label_in loop·.s (omega arith)) refl
      | else-sound-s-eq1 w ↦ w.out-is ∙ spare_skip the-args.asked the-args.label.now the-args.sound.now the-args.capacity.now loop·.s loop·.out loop·.invariant (ne_eqb (at the-args.sound.now loop·.s) 1 (omega arith))
    ]

pub returns : goal.returns
returns c =
    let loop· = c.loop-s in
    let the-args = c.args in
    let all : loop·.s ≡ the-args.elements = omega arith in
    loop·.invariant ∙ ap (spare_in the-args.asked the-args.label.now the-args.sound.now the-args.capacity.now) all
