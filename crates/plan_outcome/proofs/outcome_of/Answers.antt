-- The outcome of what was found, by whether that is a plan.
use mathlib.Core.Path.{sym, ap, ap₂, ◌∙◌}
use Rattle.file_plan.specs.declared.plan.Plan.{Plan}
use Rattle.plan_sums.specs.declared.Sums.{Sums}
use Rattle.plan_outcome.specs.declared.Reply.TheVariants as Reply·
use Rattle.plan_outcome.specs.Outcomes.{outcome_without, outcome_given}
use Rattle.plan_outcome.proofs.Solving.{start_sums}
use Rattle.plan_outcome.proofs.outcome_of.Goals as goal

pub returns-in-Some : goal.returns-in-Some
unfolding outcome_given
returns-in-Some c =
    let f = c.in-Some.f in
    ap (λ (l : Sums). record { reply = Reply·.Plan (record { steps = f.plan.steps; cost = f.cost; sums = l }); plan = f.plan }) c.sums_after-sums.ensures
    ∙ ap (outcome_given c.args.start.net) (sym c.in-Some.is)

pub returns-in-None : goal.returns-in-None
unfolding outcome_given outcome_without
returns-in-None c =
    ap₂ (λ (l : Sums) (p : Plan). record { reply = Reply·.NoPlan l; plan = p }) (c.sums_after-sums-in-None.ensures ∙ start_sums c.args.start c.requires) c.empty-plan.ensures
    ∙ ap (outcome_given c.args.start.net) (sym c.in-None.is)
