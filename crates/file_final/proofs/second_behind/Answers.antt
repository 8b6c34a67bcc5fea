-- `file_final::second_behind` reads the second plan file behind the first.
use mathlib.Core.Path.{sym, ◌∙◌}
use Rattle.std.proofs.lemmas.Result.{err_from_is_err_and}
use Rattle.file_plan.specs.Inputs.{plan_input}
use Rattle.file_plan.proofs.Sizes.{plan_input_size}
use Rattle.file_final.specs.Inputs.{two_plans, second_behind_by}
use Rattle.file_final.proofs.Answers.{none, was_whole, both_plans}
use Rattle.file_final.proofs.second_behind.Goals as goal

pub returns-in_err-second : goal.returns-in_err-second
unfolding second_behind_by
returns-in_err-second c =
    let p = err_from_is_err_and c.from_residual.result c.from_residual.ensures.1 in
    let a = c.args in
    rw (p.1, p.2) (none (plan_input a.s.now a.net.links a.middle) (two_plans a.net a.start a.middle a.first) _ (sym c.read_plan.ensures ∙ c.in_err-second.was))

pub returns : goal.returns
unfolding second_behind_by
returns c =
    let a = c.args in
    let second = c.in_ok-second.second in
    let o = plan_input a.s.now a.net.links a.middle in
    let whole = was_whole o second (sym c.read_plan.ensures ∙ c.in_ok-second.was) in
    both_plans o a.net a.first second a.start a.middle _ whole (plan_input_size a.s.now a.net.links a.middle whole.at whole.stage second whole.is).1
