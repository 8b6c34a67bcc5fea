-- What `write_plan` answers becomes the reply.
use Rattle.planner.proofs.Cases.{plan_fits, plan_short}
use Rattle.planner.proofs.written_reply.Goals as goal

pub returns-in-Ok : goal.returns-in-Ok
returns-in-Ok c =
    let the-args = c.args in
    record { value = plan_fits the-args.planned the-args.plan the-args.buffer.now c.write_plan.result c.write_plan.ensures.value _ c.in-Ok.is; buffer_after = c.write_plan.ensures.buffer_after }

pub returns-in-Err : goal.returns-in-Err
returns-in-Err c =
    let the-args = c.args in
    record { value = plan_short the-args.planned the-args.plan the-args.buffer.now c.write_plan.result c.write_plan.ensures.value _ c.in-Err.is; buffer_after = c.write_plan.ensures.buffer_after }
