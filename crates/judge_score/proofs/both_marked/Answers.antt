-- `judge_score::both_marked` meets its contract: one cheapest cost serves both, since it is found where either plan asks for it.
use Rattle.plan_form.specs.Printing.{steps_of}
use Rattle.judge_score.proofs.Ways.{first_asks, second_asks, asked_room, asked_mark}
use Rattle.network.proofs.Pairs.{both}
use Rattle.judge_score.proofs.both_marked.Goals as goal

pub mark_with-first-requires : goal.mark_with-first-requires
mark_with-first-requires c =
    let the-args = c.args in
    let pre· = (both c.requires.begun c.requires.well_formed_plan) in
    asked_room the-args.start.net pre·.0.formed pre·.0.starts (steps_of the-args.first) c.standing_of-one.result c.standing_of-one.ensures c.either_complete-asked.result (first_asks c.standing_of-one.result c.standing_of-other.result _ c.either_complete-asked.ensures) c.least_asked-least.result c.least_asked-least.ensures

pub mark_with-second-requires : goal.mark_with-second-requires
mark_with-second-requires c =
    let the-args = c.args in
    let pre· = (both c.requires.begun c.requires.well_formed_plan) in
    asked_room the-args.start.net pre·.0.formed pre·.0.starts (steps_of the-args.second) c.standing_of-other.result c.standing_of-other.ensures c.either_complete-asked.result (second_asks c.standing_of-one.result c.standing_of-other.result _ c.either_complete-asked.ensures) c.least_asked-least.result c.least_asked-least.ensures

pub returns : goal.returns
returns c =
    let the-args = c.args in
    let pre· = (both c.requires.begun c.requires.well_formed_plan) in
    record { first_value = asked_mark the-args.start.net pre·.0.formed pre·.0.starts (steps_of the-args.first) c.standing_of-one.result c.standing_of-one.ensures c.either_complete-asked.result (first_asks c.standing_of-one.result c.standing_of-other.result _ c.either_complete-asked.ensures) c.least_asked-least.result c.least_asked-least.ensures _ c.mark_with-first.ensures; second_value = asked_mark the-args.start.net pre·.0.formed pre·.0.starts (steps_of the-args.second) c.standing_of-other.result c.standing_of-other.ensures c.either_complete-asked.result (second_asks c.standing_of-one.result c.standing_of-other.result _ c.either_complete-asked.ensures) c.least_asked-least.result c.least_asked-least.ensures _ c.mark_with-second.ensures }
