-- `element_sum` and `link_sum` add up what lies ahead: a walk over the element's own ends, whose last link waits; each call takes one off the depth.
use Prim.Native.Nat.{◌-◌}
use mathlib.Core.Path.{◌∙◌}
use native.Mathlib.Omega.{arith}
use Rattle.feeding_part_sums.proofs.Summing.{begins, own_fits, none, head_read, done, below, next_read, later, opened, came_by, goes_on, roomy, link_no_end, link_none, far_in, link_is}
use Rattle.feeding_part_sums.proofs.+element_sum_link_sum.Goals as goal
use Rattle.feeding_part_sums.proofs.+element_sum_link_sum.Goals.{element_sum-else-closed-l-eq1, element_sum-then-closed-l-eq1+else-l-via, element_sum-then-closed-l-eq1+then-l-via}

pub element_sum-overflow_cast-own : goal.element_sum-overflow_cast-own
element_sum-overflow_cast-own t c =
    omega (arith, c.fits-number c.args.e)

pub element_sum-overflow_add-sum : goal.element_sum-overflow_add-sum
element_sum-overflow_add-sum t c =
    let pre· = c.requires in
    let the-args = c.args in
    omega (arith, own_fits pre·.sum_lent (the-args.depth - 1) the-args.e the-args.via the-args.before the-args.depth, pre·.via_bound)

pub element_sum-returns-then-depth-eq0 : goal.element_sum-returns-then-depth-eq0
element_sum-returns-then-depth-eq0 t c =
    let the-args = c.args in
    none c.requires.sum_lent (the-args.depth - 1) the-args.e the-args.via the-args.before the-args.depth _ (omega arith) (omega arith)

pub element_sum-overflow_cast-j : goal.element_sum-overflow_cast-j
element_sum-overflow_cast-j t c =
    let pre· = c.requires in
    let the-args = c.args in
    omega (arith, head_read pre·.sum_lent (the-args.depth - 1) the-args.e the-args.via (omega arith))

pub element_sum-loop-j-init : goal.element_sum-loop-j-init
element_sum-loop-j-init t c =
    let pre· = c.requires in
    let the-args = c.args in
    begins pre·.sum_lent (the-args.depth - 1) the-args.e the-args.via the-args.before (omega arith) _ (omega arith)

pub element_sum-bounds-closed-l : goal.element_sum-bounds-closed-l
element_sum-bounds-closed-l t c =
    let pre· = c.requires in
    let the-args = c.args in
    let loop· = c.loop-j in
    omega (arith, below pre·.sum_lent (the-args.depth - 1) the-args.e the-args.via the-args.before loop·.sum loop·.last loop·.j loop·.invariant (omega arith), pre·.sum_lent.lent.fit)

pub element_sum-link_sum-sum-requires : goal.element_sum-link_sum-sum-requires
element_sum-link_sum-sum-requires t c =
    let pre· = c.requires in
    let loop· = c.loop-j in
    let the-args = c.args in
    ((omega arith), (pre·.sum_lent, (loop·.invariant.last_in, omega (arith, roomy pre·.sum_lent (the-args.depth - 1) the-args.e the-args.via the-args.before loop·.sum loop·.last loop·.j loop·.invariant (omega arith) (omega arith) (omega arith) the-args.depth (omega arith), pre·.via_bound))))

pub element_sum-overflow_cast-j-in-loop-j : goal.element_sum-overflow_cast-j-in-loop-j
element_sum-overflow_cast-j-in-loop-j t c =
    let pre· = c.requires in
    let the-args = c.args in
    let loop· = c.loop-j in
    omega (arith, next_read pre·.sum_lent (the-args.depth - 1) the-args.e the-args.via the-args.before loop·.sum loop·.last loop·.j loop·.invariant (omega arith))

pub element_sum-loop-j-smaller : goal.element_sum-loop-j-smaller
element_sum-loop-j-smaller t c =
    let pre· = c.requires in
    let the-args = c.args in
    let loop· = c.loop-j in
    omega (arith, later pre·.sum_lent (the-args.depth - 1) the-args.e the-args.via the-args.before loop·.sum loop·.last loop·.j loop·.invariant (omega arith))

pub element_sum-loop-j-preserved : goal.element_sum-loop-j-preserved
element_sum-loop-j-preserved t c =
    let pre· = c.requires in
    let the-args = c.args in
    let loop· = c.loop-j in
    (elim c.if-closed-l-eq1.branch [ element_sum-then-closed-l-eq1+then-l-via w ↦ goes_on pre·.sum_lent (the-args.depth - 1) the-args.e the-args.via the-args.before loop·.sum loop·.last loop·.j loop·.invariant (omega arith) (omega arith) (omega arith) c.if-closed-l-eq1.sum c.if-closed-l-eq1.last (omega (arith, w.link_sum-sum.ensures)) (omega arith) | element_sum-then-closed-l-eq1+else-l-via w ↦ came_by pre·.sum_lent (the-args.depth - 1) the-args.e the-args.via the-args.before loop·.sum loop·.last loop·.j loop·.invariant (omega arith) c.if-closed-l-eq1.sum c.if-closed-l-eq1.last (omega arith) (omega arith) (omega arith) | element_sum-else-closed-l-eq1 w ↦ opened pre·.sum_lent (the-args.depth - 1) the-args.e the-args.via the-args.before loop·.sum loop·.last loop·.j loop·.invariant (omega arith) c.if-closed-l-eq1.sum c.if-closed-l-eq1.last (omega arith) (omega arith) (omega arith) ])

pub element_sum-link_sum-requires : goal.element_sum-link_sum-requires
element_sum-link_sum-requires t c =
    let pre· = c.requires in
    let loop· = c.loop-j in
    let the-args = c.args in
    ((omega arith), (pre·.sum_lent, (loop·.invariant.last_in, omega (arith, done pre·.sum_lent (the-args.depth - 1) the-args.e the-args.via the-args.before loop·.sum loop·.last loop·.j loop·.invariant the-args.depth (omega arith) (omega arith), pre·.via_bound))))

pub element_sum-returns : goal.element_sum-returns
element_sum-returns t c =
    let pre· = c.requires in
    let the-args = c.args in
    let loop· = c.loop-j in
    c.link_sum.ensures ∙ done pre·.sum_lent (the-args.depth - 1) the-args.e the-args.via the-args.before loop·.sum loop·.last loop·.j loop·.invariant the-args.depth (omega arith) (omega arith)

pub link_sum-returns-then-j-ge192 : goal.link_sum-returns-then-j-ge192
link_sum-returns-then-j-ge192 t c =
    let the-args = c.args in
    link_no_end c.requires.sum_lent the-args.depth the-args.j the-args.before (omega arith)

pub link_sum-returns-then-depth-eq0 : goal.link_sum-returns-then-depth-eq0
link_sum-returns-then-depth-eq0 t c =
    let the-args = c.args in
    link_none c.requires.sum_lent the-args.j (omega arith) the-args.depth the-args.before (omega arith)

pub link_sum-overflow_cast-f : goal.link_sum-overflow_cast-f
link_sum-overflow_cast-f t c =
    let pre· = c.requires in
    omega (arith, far_in pre·.sum_lent c.args.j (omega arith) (pre·.j_bound (omega arith)), pre·.sum_lent.few)

pub link_sum-element_sum-requires : goal.link_sum-element_sum-requires
link_sum-element_sum-requires t c =
    let pre· = c.requires in
    let the-args = c.args in
    ((omega arith), (pre·.sum_lent, (far_in pre·.sum_lent the-args.j (omega arith) (pre·.j_bound (omega arith)), omega (arith, link_is pre·.sum_lent the-args.j (omega arith) (pre·.j_bound (omega arith)) (the-args.depth - 1) the-args.depth (omega arith), pre·.j_bound_2))))

pub link_sum-returns : goal.link_sum-returns
link_sum-returns t c =
    let pre· = c.requires in
    let the-args = c.args in
    omega (arith, c.element_sum.ensures, link_is pre·.sum_lent the-args.j (omega arith) (pre·.j_bound (omega arith)) (the-args.depth - 1) the-args.depth (omega arith))
