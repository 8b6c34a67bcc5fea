-- `judge_score::marked` meets its contract: how the plan stands, and where it is complete the cheapest cost, give its mark.
use mathlib.Core.Path.{◌∙◌}
use Rattle.plan_form.specs.Printing.{steps_of}
use Rattle.judge_score.proofs.Ways.{asked_room, asked_mark}
use Rattle.network.proofs.Pairs.{both}
use Rattle.judge_score.proofs.marked.Goals as goal

pub mark_with-requires : goal.mark_with-requires
mark_with-requires c =
    let the-args = c.args in
    let pre· = (both c.requires.begun c.requires.well_formed_plan) in
    asked_room the-args.start.net pre·.0.formed pre·.0.starts (steps_of the-args.plan) c.standing_of-found.result c.standing_of-found.ensures c.complete-asked.result (λ h. c.complete-asked.ensures ∙ h) c.least_asked-least.result c.least_asked-least.ensures

pub returns : goal.returns
returns c =
    let the-args = c.args in
    let pre· = (both c.requires.begun c.requires.well_formed_plan) in
    asked_mark the-args.start.net pre·.0.formed pre·.0.starts (steps_of the-args.plan) c.standing_of-found.result c.standing_of-found.ensures c.complete-asked.result (λ h. c.complete-asked.ensures ∙ h) c.least_asked-least.result c.least_asked-least.ensures _ c.mark_with.ensures
