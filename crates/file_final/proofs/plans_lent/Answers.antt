-- `file_final::plans_lent` reads the first plan file, lent apart, its places counted on, then the second behind its length.
use mathlib.Core.Path.{sym, ap, ◌∙◌}
use Prim.Native.Nat.{◌+◌}
use native.Mathlib.Omega.{arith}
use lib.ListN.{length}
use Rattle.std.proofs.lemmas.Result.{err_from_is_err_and}
use Rattle.file_network.specs.Runs.{Reading, read_on}
use Rattle.file_plan.specs.declared.plan.Plan.{Plan}
use Rattle.file_plan.specs.Inputs.{plan_input}
use Rattle.file_final.specs.Inputs.{counted_on, second_lent, plans_lent_by, final_read}
use Rattle.file_final.proofs.Answers.{none, was_whole_on, plan_whole_most}
use Rattle.file_final.proofs.plans_lent.Goals as goal

pub returns-in_err-plan : goal.returns-in_err-plan
unfolding plans_lent_by
returns-in_err-plan c =
    let p = err_from_is_err_and c.from_residual.result c.from_residual.ensures.1 in
    let a = c.args in
    rw (p.1, p.2) (none (counted_on a.start (plan_input a.first.now a.net.links 0))
    (λ at stage p. second_lent a.second.now a.net a.start (a.start + length a.first.now) p) _ (sym c.read_plan_behind.ensures ∙ c.in_err-plan.was))

pub second_lent-requires : goal.second_lent-requires
second_lent-requires c =
    let a = c.args in
    let whole = was_whole_on a.start (plan_input a.first.now a.net.links 0) _ (sym c.read_plan_behind.ensures ∙ c.in_ok-plan.was) in
    omega (arith, plan_whole_most a.first.now a.net.links _ whole)

pub returns : goal.returns
unfolding plans_lent_by
returns c =
    let a = c.args in
    let whole = was_whole_on a.start (plan_input a.first.now a.net.links 0) _ (sym c.read_plan_behind.ensures ∙ c.in_ok-plan.was) in
    c.second_lent.ensures
    ∙ ap (λ (o : Reading Plan). final_read (read_on (counted_on a.start o)
    (λ at stage p. second_lent a.second.now a.net a.start (a.start + length a.first.now) p))) (sym whole.is)
