-- `file_both::plan_behind` reads the plan file behind a network.
use Rattle.std.proofs.lemmas.Result.{err_from_is_err_and}
use Rattle.file_both.proofs.Inputs.{behind_refused, behind_accepted}
use Rattle.file_both.proofs.plan_behind.Goals as goal

pub returns-in_err-plan : goal.returns-in_err-plan
returns-in_err-plan c =
    let p = err_from_is_err_and c.from_residual.result c.from_residual.ensures.1 in
    let a = c.args in
    rw (p.1, p.2) (behind_refused a.s.now a.at a.net c.read_plan.result c.read_plan.ensures _ c.in_err-plan.was)

pub returns : goal.returns
returns c =
    let a = c.args in
    behind_accepted a.s.now a.at a.net c.read_plan.result c.read_plan.ensures _ c.in_ok-plan.was
