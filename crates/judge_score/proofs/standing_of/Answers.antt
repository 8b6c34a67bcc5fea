-- `judge_score::standing_of` meets its contract: the first bad step decides, and where there is none what is left dark does.
use Rattle.feeding_start.proofs.Starts.{operable_of, begun_searchable}
use Rattle.judge_score.proofs.Ways.{broken_standing, good_standing}
use Rattle.network.proofs.Pairs.{both}
use Rattle.judge_score.proofs.standing_of.Goals as goal

pub examine-requires : goal.examine-requires
examine-requires c =
    let pre· = (both c.requires.begun c.requires.well_formed_plan) in
    record { searchable = begun_searchable c.args.start pre·.0; well_formed_plan = pre·.1 }

pub returns-in-Err : goal.returns-in-Err
returns-in-Err c =
    let the-args = c.args in
    let pre· = (both c.requires.begun c.requires.well_formed_plan) in
    broken_standing the-args.start.net pre·.0.formed the-args.plan pre·.1 the-args.start.operable (operable_of the-args.start _ pre·.0.made) c.examine.result c.examine.ensures _ c.in-Err.is

pub returns-in-Ok : goal.returns-in-Ok
returns-in-Ok c =
    let the-args = c.args in
    let pre· = (both c.requires.begun c.requires.well_formed_plan) in
    good_standing the-args.start.net pre·.0.formed the-args.plan pre·.1 the-args.start.operable (operable_of the-args.start _ pre·.0.made) c.examine.result c.examine.ensures c.in-Ok.is _ c.finished.ensures
