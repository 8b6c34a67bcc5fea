-- `file_final::read_plan_behind` counts the place of a refusal on: it lies within the file, so the sum fits.
use mathlib.Core.Path.{sym, ap, ◌∙◌}
use native.Mathlib.Omega.{arith}
use Rattle.file_network.specs.Runs.{Reading}
use Rattle.file_plan.specs.declared.plan.Plan.{Plan}
use Rattle.file_plan.specs.Inputs.{plan_input, plan_read}
use Rattle.file_final.specs.Inputs.{counted_on}
use Rattle.file_final.proofs.Within.{place_within}
use Rattle.file_final.proofs.Answers.{was_refused, was_whole}
use Rattle.file_final.proofs.read_plan_behind.Goals as goal

pub overflow_add-place : goal.overflow_add-place
overflow_add-place c =
    let a = c.args in
    omega (arith, place_within a.s.now a.links _ (was_refused (plan_input a.s.now a.links 0) _ (sym c.read_plan.ensures ∙ c.in-Err.is)))

pub returns-in-Ok : goal.returns-in-Ok
returns-in-Ok c =
    let a = c.args in
    let whole = was_whole (plan_input a.s.now a.links 0) _ (sym c.read_plan.ensures ∙ c.in-Ok.is) in
    ap (λ (o : Reading Plan). plan_read (counted_on a.before o)) (sym whole.is)

pub returns-in-Err : goal.returns-in-Err
returns-in-Err c =
    let a = c.args in
    let none = was_refused (plan_input a.s.now a.links 0) _ (sym c.read_plan.ensures ∙ c.in-Err.is) in
    ap (λ (o : Reading Plan). plan_read (counted_on a.before o)) (sym none)
