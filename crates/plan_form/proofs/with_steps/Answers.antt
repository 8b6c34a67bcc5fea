-- `with_steps` meets its contract. The loop's invariant: the plan has the steps of the sweep over the links below l, so at most l more.
use mathlib.Core.Path.{◌≡◌}
use Prim.Native.Nat.{◌+◌}
use native.Mathlib.Omega.{arith}
use Rattle.plan_form.proofs.Sweeping.{swept_to, swept_none, swept_on, swept_other, swept_out, swept_room}
use Rattle.plan_form.proofs.with_steps.Goals as goal
use Rattle.plan_form.proofs.with_steps.Goals.{else-operated-l-eq1, else-operated-l-eq1-via-else-operated-l-eq1, else-operated-l-eq1-via-then-operated-l-eq1+else-closed-l}
use Rattle.plan_form.proofs.with_steps.Goals.{then-operated-l-eq1+then-closed-l}

pub loop-l-init : goal.loop-l-init
loop-l-init c =
    let the-args = c.args in
    (omega arith, swept_none the-args.operated.now the-args.closed.now the-args.state the-args.plan the-args.close)

pub loop-l-preserved : goal.loop-l-preserved
loop-l-preserved c =
    let the-args = c.args in
    let loop· = c.loop-l in
    let operated = the-args.operated.now in
    let closed = the-args.closed.now in
    let next : c.if-operated-l-eq1.longer ≡ swept_to operated closed the-args.state the-args.plan the-args.close (loop·.l + 1) =
    (elim c.if-operated-l-eq1.branch [
      | then-operated-l-eq1+then-closed-l w ↦ swept_on operated closed the-args.state the-args.plan the-args.close loop·.l loop·.longer _
          loop·.invariant.1 (omega arith) (omega arith) w.longer-is
      | else-operated-l-eq1 w ↦ (elim w.else-operated-l-eq1.branch [
        | else-operated-l-eq1-via-then-operated-l-eq1+else-closed-l v ↦
            swept_other operated closed the-args.state the-args.plan the-args.close loop·.l loop·.longer _ loop·.invariant.1 (omega arith) w.longer-is
        | else-operated-l-eq1-via-else-operated-l-eq1 v ↦
            swept_out operated closed the-args.state the-args.plan the-args.close loop·.l loop·.longer _ loop·.invariant.1 (omega arith) w.longer-is
      ])
    ]) in
    (swept_room operated closed the-args.state the-args.plan the-args.close (loop·.l + 1) _ next, next)

pub returns : goal.returns
returns c =
    let loop· = c.loop-l in
    let all : loop·.l ≡ c.args.links = omega arith in
    rw (← all) loop·.invariant.1
