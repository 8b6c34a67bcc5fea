-- `file_final::second_lent` reads the second plan file, lent apart, its places counted on.
use mathlib.Core.Path.{sym, ap, ◌∙◌}
use Prim.Native.Nat.{ℕ, ◌+◌}
use Rattle.std.proofs.lemmas.Result.{err_from_is_err_and}
use Rattle.file_plan.specs.Inputs.{plan_input}
use Rattle.file_plan.proofs.Sizes.{plan_input_size}
use Rattle.file_final.specs.Inputs.{counted_on, two_plans, second_lent_by}
use Rattle.file_final.proofs.Answers.{none, was_whole_on, both_plans_on}
use Rattle.file_final.proofs.second_lent.Goals as goal

pub returns-in_err-last : goal.returns-in_err-last
unfolding second_lent_by
returns-in_err-last c =
    let p = err_from_is_err_and c.from_residual.result c.from_residual.ensures.1 in
    let a = c.args in
    rw (p.1, p.2) (none (counted_on a.middle (plan_input a.second.now a.net.links 0)) (two_plans a.net a.start a.middle a.first) _
    (sym c.read_plan_behind.ensures ∙ c.in_err-last.was))

pub returns : goal.returns
unfolding second_lent_by
returns c =
    let a = c.args in
    let last = c.in_ok-last.last in
    let o = plan_input a.second.now a.net.links 0 in
    let whole = was_whole_on a.middle o last (sym c.read_plan_behind.ensures ∙ c.in_ok-last.was) in
    let size = plan_input_size a.second.now a.net.links 0 whole.at whole.stage last whole.is in
    both_plans_on a.middle o a.net a.first last a.start a.middle _ whole (ap (λ (x : ℕ). a.middle + x) size.1)
