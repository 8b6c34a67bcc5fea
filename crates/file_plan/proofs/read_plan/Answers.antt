-- `file_plan::read_plan` reads the file and asks rule 13.
use mathlib.Core.Path.{◌≡◌, ◌∙◌}
use Rattle.std.proofs.Common.{rules}
use Rattle.std.specs.Prelude.{Err}
use Rattle.file_network.proofs.Inputs.{unread, ended_accepted, ended_refused}
use Rattle.file_plan.specs.PlanFiles.{plan_file}
use Rattle.file_plan.specs.Inputs.{plan_input_by}
use Rattle.file_plan.proofs.read_plan.Goals as goal

pub returns-in_err-part : goal.returns-in_err-part
unfolding plan_input_by
returns-in_err-part c =
    let a = c.args in
    let same : c.from_residual.result ≡ Err (c.in_err-part.field-0.0) = search rules in
    same ∙ unread a.s.now (plan_file a.s.now a.links a.at) _ c.in_err-part.ensures

pub returns-in_err-ended : goal.returns-in_err-ended
unfolding plan_input_by
returns-in_err-ended c =
    let a = c.args in
    let same : c.from_residual-in_err-ended.result ≡ Err (c.in_err-ended.field-0.0) = search rules in
    same ∙ ended_refused a.s.now (plan_file a.s.now a.links a.at) _ c.in_ok-part.ensures _ c.in_err-ended.ensures

pub returns : goal.returns
unfolding plan_input_by
returns c =
    let a = c.args in
    ended_accepted a.s.now (plan_file a.s.now a.links a.at) _ c.in_ok-part.ensures _ c.in_ok-ended.ensures
