-- What is found for an accepted network gives its outcome.
use mathlib.Core.Path.{◌∙◌}
use Rattle.feeding_start.proofs.Starts.{begun_searchable}
use Rattle.plan_answer.proofs.Solving.{solved}
use Rattle.plan_answer.proofs.solve.Goals as goal

pub cheapest_plan-found-requires : goal.cheapest_plan-found-requires
cheapest_plan-found-requires c =
    begun_searchable c.args.start c.requires

pub outcome_of-requires : goal.outcome_of-requires
outcome_of-requires c =
    c.requires

pub returns : goal.returns
returns c =
    c.outcome_of.ensures ∙ solved c.args.start c.requires c.cheapest_plan-found.result c.cheapest_plan-found.ensures
