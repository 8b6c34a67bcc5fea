-- `plan_cost` meets its contract: the sum is the cost of the steps passed, and the guards marked are those that they pay for.
use Prim.Native.Nat.{◌+◌}
use native.Mathlib.Omega.{arith}
use Rattle.feeding.specs.Networks.{at}
use Rattle.judge_steps.proofs.Paying.{paid_small, paid_first, paid_free, paid_again, paid_new, paid_last}
use Rattle.network.proofs.Pairs.{both}
use Rattle.judge_steps.proofs.plan_cost.Goals as goal
use Rattle.judge_steps.proofs.plan_cost.Goals.{else-g-net, else-g-net-via-then-g-net+else-paid-g-eq0, else-g-net-via-else-g-net, then-g-net+then-paid-g-eq0}

pub loop-i-init : goal.loop-i-init
loop-i-init c =
    let the-args = c.args in
    let pre· = (both c.requires.well_formed c.requires.well_formed_plan) in
    paid_first the-args.net pre·.0 the-args.plan pre·.1

pub overflow_cast-link : goal.overflow_cast-link
overflow_cast-link c =
    let pre· = (both c.requires.well_formed c.requires.well_formed_plan) in
    omega (arith, pre·.1.link_in c.loop-i.i (omega arith), pre·.0.links_fit, pre·.0.cost_long, pre·.0.guard_long)

pub offset_bounds-cost-link : goal.offset_bounds-cost-link
offset_bounds-cost-link c =
    let pre· = (both c.requires.well_formed c.requires.well_formed_plan) in
    omega (arith, pre·.1.link_in c.loop-i.i (omega arith), pre·.0.links_fit, pre·.0.cost_long, pre·.0.guard_long)

pub bounds-cost-link : goal.bounds-cost-link
bounds-cost-link c =
    let pre· = (both c.requires.well_formed c.requires.well_formed_plan) in
    omega (arith, pre·.1.link_in c.loop-i.i (omega arith), pre·.0.links_fit, pre·.0.cost_long, pre·.0.guard_long)

pub overflow_cast-sum : goal.overflow_cast-sum
overflow_cast-sum c =
    let pre· = (both c.requires.well_formed c.requires.well_formed_plan) in
    let the-args = c.args in
    let loop· = c.loop-i in
    omega (arith, pre·.0.cost_in_lem (at the-args.plan.link loop·.i) (pre·.1.link_in loop·.i (omega arith)))

pub overflow_add-sum : goal.overflow_add-sum
overflow_add-sum c =
    let pre· = (both c.requires.well_formed c.requires.well_formed_plan) in
    let the-args = c.args in
    let loop· = c.loop-i in
    omega (arith, pre·.0.cost_in_lem (at the-args.plan.link loop·.i) (pre·.1.link_in loop·.i (omega arith)), paid_small the-args.net pre·.0 the-args.plan pre·.1 loop·.paid loop·.sum loop·.i loop·.invariant)

pub offset_bounds-guard-link : goal.offset_bounds-guard-link
offset_bounds-guard-link c =
    let pre· = (both c.requires.well_formed c.requires.well_formed_plan) in
    omega (arith, pre·.1.link_in c.loop-i.i (omega arith), pre·.0.links_fit, pre·.0.cost_long, pre·.0.guard_long)

pub bounds-guard-link : goal.bounds-guard-link
bounds-guard-link c =
    let pre· = (both c.requires.well_formed c.requires.well_formed_plan) in
    omega (arith, pre·.1.link_in c.loop-i.i (omega arith), pre·.0.links_fit, pre·.0.cost_long, pre·.0.guard_long)

pub overflow_cast-g : goal.overflow_cast-g
overflow_cast-g c =
    let pre· = (both c.requires.well_formed c.requires.well_formed_plan) in
    let the-args = c.args in
    let loop· = c.loop-i in
    omega (arith, pre·.0.guard_in (at the-args.plan.link loop·.i) (pre·.1.link_in loop·.i (omega arith)))

pub bounds-paid-g : goal.bounds-paid-g
bounds-paid-g c =
    let loop· = c.loop-i in
    let pre· = (both c.requires.well_formed c.requires.well_formed_plan) in
    omega (arith, loop·.invariant.long, pre·.0.links_fit)

pub bounds-paid-g-then-paid-g-eq0 : goal.bounds-paid-g-then-paid-g-eq0
bounds-paid-g-then-paid-g-eq0 c =
    let loop· = c.loop-i in
    let pre· = (both c.requires.well_formed c.requires.well_formed_plan) in
    omega (arith, loop·.invariant.long, pre·.0.links_fit)

pub offset_bounds-cost-g : goal.offset_bounds-cost-g
offset_bounds-cost-g c =
    let pre· = (both c.requires.well_formed c.requires.well_formed_plan) in
    omega (arith, pre·.0.links_fit)

pub bounds-cost-g : goal.bounds-cost-g
bounds-cost-g c =
    let pre· = (both c.requires.well_formed c.requires.well_formed_plan) in
    omega (arith, pre·.0.cost_long, pre·.0.links_fit)

pub overflow_cast-sum-then-paid-g-eq0 : goal.overflow_cast-sum-then-paid-g-eq0
overflow_cast-sum-then-paid-g-eq0 c =
    let pre· = (both c.requires.well_formed c.requires.well_formed_plan) in
    let the-args = c.args in
    let loop· = c.loop-i in
    omega (arith, pre·.0.cost_in_lem (at the-args.net.guard (at the-args.plan.link loop·.i)) (omega arith))

pub overflow_mul-sum : goal.overflow_mul-sum
overflow_mul-sum c =
    let pre· = (both c.requires.well_formed c.requires.well_formed_plan) in
    let the-args = c.args in
    let loop· = c.loop-i in
    omega (arith, pre·.0.cost_in_lem (at the-args.net.guard (at the-args.plan.link loop·.i)) (omega arith))

pub overflow_add-sum-then-paid-g-eq0 : goal.overflow_add-sum-then-paid-g-eq0
overflow_add-sum-then-paid-g-eq0 c =
    let pre· = (both c.requires.well_formed c.requires.well_formed_plan) in
    let the-args = c.args in
    let loop· = c.loop-i in
    omega (arith, pre·.0.cost_in_lem (at the-args.net.guard (at the-args.plan.link loop·.i)) (omega arith), pre·.0.cost_in_lem (at the-args.plan.link loop·.i) (pre·.1.link_in loop·.i (omega arith)), paid_small the-args.net pre·.0 the-args.plan pre·.1 loop·.paid loop·.sum loop·.i loop·.invariant)

pub loop-i-preserved : goal.loop-i-preserved
loop-i-preserved c =
    let the-args = c.args in
    let pre· = (both c.requires.well_formed c.requires.well_formed_plan) in
    let loop· = c.loop-i in
    (elim c.if-g-net.branch [ then-g-net+then-paid-g-eq0 w ↦ paid_new the-args.net pre·.0 the-args.plan pre·.1 loop·.paid loop·.sum loop·.i loop·.invariant (omega arith) (loop·.i + 1) (omega arith) (omega arith) (omega arith) _ _ w.paid-is w.sum-is | else-g-net w ↦ elim w.else-g-net.branch [ else-g-net-via-then-g-net+else-paid-g-eq0 v ↦ paid_again the-args.net pre·.0 the-args.plan pre·.1 loop·.paid loop·.sum loop·.i loop·.invariant (omega arith) (loop·.i + 1) (omega arith) (omega arith) (omega arith) _ _ w.paid-is w.sum-is | else-g-net-via-else-g-net v ↦ paid_free the-args.net pre·.0 the-args.plan pre·.1 loop·.paid loop·.sum loop·.i loop·.invariant (omega arith) (loop·.i + 1) (omega arith) (omega arith) _ _ w.paid-is w.sum-is ] ])

pub returns : goal.returns
returns c =
    let the-args = c.args in
    let pre· = (both c.requires.well_formed c.requires.well_formed_plan) in
    let loop· = c.loop-i in
    paid_last the-args.net pre·.0 the-args.plan pre·.1 loop·.paid loop·.sum loop·.i loop·.invariant (omega arith)
