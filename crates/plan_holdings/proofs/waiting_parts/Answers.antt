-- `waiting_parts` meets its contract. The loop's invariant: sum counts the parts below x that wait, and so is at most x.
use mathlib.Core.Path.{◌≡◌, sym, ◌∙◌}
use native.Mathlib.Omega.{arith}
use Rattle.feeding.proofs.Sums.{sum_to_no}
use Rattle.plan_holdings.proofs.Tests.{waiting_yes, waiting_served, waiting_member}
use Rattle.plan_holdings.proofs.waiting_parts.Goals as goal
use Rattle.plan_holdings.proofs.waiting_parts.Goals.{else-label-x, else-label-x-via-then-label-x+else-waits, else-label-x-via-else-label-x, then-label-x+then-waits}

pub loop-x-init : goal.loop-x-init
loop-x-init c = (omega arith, sym (sum_to_no _))

pub overflow_cast-label : goal.overflow_cast-label
overflow_cast-label c = omega (arith, c.type_inv.label c.loop-x.x)

pub loop-x-preserved : goal.loop-x-preserved
loop-x-preserved c =
    let the-args = c.args in
    let loop· = c.loop-x in (
      (elim c.if-label-x.branch [ then-label-x+then-waits w ↦ omega arith | else-label-x w ↦ omega arith ]),
      (elim c.if-label-x.branch [
        | then-label-x+then-waits w ↦ waiting_yes the-args.label.now the-args.holds.now loop·.x loop·.sum _ loop·.invariant.1
            (omega arith) (sym w.waits.ensures ∙ w.if-waits.true) (omega arith)
        | else-label-x w ↦ (elim w.else-label-x.branch [
          | else-label-x-via-then-label-x+else-waits v ↦ waiting_served the-args.label.now the-args.holds.now loop·.x loop·.sum _
              loop·.invariant.1 (omega arith) (sym v.waits.ensures ∙ v.if-waits.false) (omega arith)
          | else-label-x-via-else-label-x v ↦ waiting_member the-args.label.now the-args.holds.now loop·.x loop·.sum _
              loop·.invariant.1 (omega arith) (omega arith)
        ])
      ]),
    )

pub returns : goal.returns
returns c =
    let loop· = c.loop-x in
    let the-args = c.args in
    let all : loop·.x ≡ the-args.elements = omega arith in
    rw (← all) loop·.invariant.1
