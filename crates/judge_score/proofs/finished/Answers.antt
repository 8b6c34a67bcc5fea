-- `judge_score::finished` meets its contract: the states after the steps are the configuration that they lead to.
use mathlib.Core.Path.{ap, ◌∙◌}
use Rattle.feeding.specs.Networks.{net_of, grid_of}
use Rattle.feeding_start.proofs.Starts.{closed_of}
use Rattle.judge_steps.proofs.Configurations.{finished_dark}
use Rattle.judge_steps.proofs.Front.{plan_in}
use Rattle.feeding.specs.Below.{some_below}
use Rattle.judge_score.proofs.Ways.{short_at, complete_at}
use borrow.Author.Rules.{rules}
use Rattle.network.proofs.Pairs.{both}
use Rattle.judge_score.proofs.finished.Goals as goal

pub states_after-closed-requires : goal.states_after-closed-requires
states_after-closed-requires c =
    let the-args = c.args in
    let pre· = (both c.requires.begun c.requires.well_formed_plan) in
    plan_in the-args.start.net the-args.plan pre·.0.formed pre·.1

pub lowest_dark-requires : goal.lowest_dark-requires
lowest_dark-requires c =
    record { begun = c.requires.begun; closed_len = search rules }

pub returns-in-Some : goal.returns-in-Some
unfolding net_of grid_of
returns-in-Some c =
    let the-args = c.args in
    let pre· = (both c.requires.begun c.requires.well_formed_plan) in
    short_at (net_of the-args.start.net) _ _ c.lowest_dark.result (c.lowest_dark.ensures ∙ ap (some_below the-args.start.net.elements) (finished_dark the-args.start.net the-args.plan _ _ pre·.0.formed pre·.1 (closed_of the-args.start _ pre·.0.made) c.states_after-closed.ensures)) _ c.in-Some.is

pub plan_cost-requires : goal.plan_cost-requires
plan_cost-requires c =
    let pre· = (both c.requires.begun c.requires.well_formed_plan) in
    record { well_formed = pre·.0.formed; well_formed_plan = pre·.1 }

pub returns-in-None : goal.returns-in-None
unfolding net_of grid_of
returns-in-None c =
    let the-args = c.args in
    let pre· = (both c.requires.begun c.requires.well_formed_plan) in
    complete_at (net_of the-args.start.net) _ _ c.lowest_dark.result (c.lowest_dark.ensures ∙ ap (some_below the-args.start.net.elements) (finished_dark the-args.start.net the-args.plan _ _ pre·.0.formed pre·.1 (closed_of the-args.start _ pre·.0.made) c.states_after-closed.ensures)) c.in-None.is _ c.plan_cost.ensures
