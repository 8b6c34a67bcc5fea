-- `fellows_of` meets its contract. The loop's invariant: the mask is that of the switches passed.
use mathlib.Core.Path.{◌≡◌}
use lib.Dec.{eqb}
use borrow.Author.Tests.{eq-eqb, ne_eqb}
use native.Mathlib.Omega.{arith}
use Rattle.feeding.specs.Networks.{at}
use Rattle.plan_problem.proofs.Masks.{mask_none, mask_fits, mask_on, mask_off}
use Rattle.plan_setting.proofs.fellows_of.Goals as goal
use Rattle.plan_setting.proofs.fellows_of.Goals.{else-own-g, then-own-g}

pub loop-j-init : goal.loop-j-init
loop-j-init c =
    let the-args = c.args in
    omega (arith, mask_none (λ x. eqb (at the-args.guard.now (at the-args.link.now x)) the-args.g))

pub bounds-link-j : goal.bounds-link-j
bounds-link-j c =
    omega (arith, c.requires.fit)

pub overflow_cast-l : goal.overflow_cast-l
overflow_cast-l c =
    let pre· = c.requires in
    let loop· = c.loop-j in
    omega (arith, pre·.link_in loop·.j (omega arith))

pub offset_bounds-guard-l : goal.offset_bounds-guard-l
offset_bounds-guard-l c =
    omega (arith, c.requires.link_in c.loop-j.j (omega arith))

pub bounds-guard-l : goal.bounds-guard-l
bounds-guard-l c =
    omega (arith, c.requires.link_in c.loop-j.j (omega arith))

pub overflow_mul-mask : goal.overflow_mul-mask
overflow_mul-mask c =
    let the-args = c.args in
    let loop· = c.loop-j in
    let pre· = c.requires in
    omega (arith, mask_fits (λ x. eqb (at the-args.guard.now (at the-args.link.now x)) the-args.g) loop·.j (omega (arith, pre·.fit)), loop·.invariant)

pub overflow_add-mask : goal.overflow_add-mask
overflow_add-mask c =
    let the-args = c.args in
    let loop· = c.loop-j in
    let pre· = c.requires in
    omega (arith, mask_fits (λ x. eqb (at the-args.guard.now (at the-args.link.now x)) the-args.g) loop·.j (omega (arith, pre·.fit)), loop·.invariant)

pub loop-j-preserved : goal.loop-j-preserved
loop-j-preserved c =
    let the-args = c.args in
    let loop· = c.loop-j in
    (elim c.if-own-g.branch [ then-own-g w ↦ mask_on (λ x. eqb (at the-args.guard.now (at the-args.link.now x)) the-args.g) loop·.j loop·.mask _ loop·.invariant (eq-eqb _ _ w.if-own-g.true) w.mask-is | else-own-g w ↦ mask_off (λ x. eqb (at the-args.guard.now (at the-args.link.now x)) the-args.g) loop·.j loop·.mask _ loop·.invariant (ne_eqb _ _ w.if-own-g.false) w.mask-is ])

pub returns : goal.returns
returns c =
    let loop· = c.loop-j in
    let all : loop·.j ≡ c.args.n = omega arith in rw (← all) loop·.invariant
