-- `file_final::plans_behind` reads the first plan file, then the second directly behind it.
use mathlib.Core.Path.{◌≡◌, ap, ◌∙◌}
use Rattle.std.proofs.Common.{rules}
use Rattle.std.specs.Prelude.{Err}
use Rattle.file_network.proofs.Outcomes.{part_refused, part_reached}
use Rattle.file_plan.specs.PlanFiles.{plan_file}
use Rattle.file_final.specs.Inputs.{second_behind, plans_behind_by, final_read}
use Rattle.file_final.proofs.plans_behind.Goals as goal

pub returns-in_err-part : goal.returns-in_err-part
unfolding plans_behind_by
returns-in_err-part c =
    let a = c.args in
    let same : c.from_residual.result ≡ Err (c.in_err-part.field-0.0) = search rules in
    same ∙ ap final_read
    (part_refused (plan_file a.s.now a.net.links a.start) (λ middle stage p. second_behind a.s.now a.net a.start middle p) _ c.in_err-part.ensures)

pub returns : goal.returns
unfolding plans_behind_by
returns c =
    let a = c.args in
    c.second_behind.ensures
    ∙ ap final_read
    (part_reached (plan_file a.s.now a.net.links a.start) (λ middle stage p. second_behind a.s.now a.net a.start middle p) _ c.in_ok-part.ensures).1
