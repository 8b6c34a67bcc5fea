-- `decide` meets its contract: rules 14 to 18, then both marks.
use Rattle.std.proofs.lemmas.Result.{err_from_is_err_and}
use Rattle.final_judge.proofs.Ways.{unaccepted_final, read_begun, read_plans, plans_marked}
use Rattle.final_judge.proofs.decide.Goals as goal

pub accept-requires : goal.accept-requires
accept-requires c = c.requires.net

pub both_marked-marks-requires : goal.both_marked-marks-requires
both_marked-marks-requires c =
    let r = c.args.read in
    record { begun = read_begun r c.requires c.accept.result c.accept.ensures _ c.in_ok-start.was; well_formed_plan = read_plans r c.requires c.accept.result c.accept.ensures _ c.in_ok-start.was }

pub marked_final-requires : goal.marked_final-requires
marked_final-requires c = c.requires

pub returns-in_err-start : goal.returns-in_err-start
returns-in_err-start c =
    let p = err_from_is_err_and c.from_residual.result c.from_residual.ensures.1 in
    rw (p.1, p.2) (unaccepted_final c.args.read c.requires c.accept.result c.accept.ensures _ c.in_err-start.was)

pub returns : goal.returns
returns c =
    plans_marked c.args.read c.requires c.accept.result c.accept.ensures _ c.in_ok-start.was c.both_marked-marks.result c.both_marked-marks.ensures.first_value c.both_marked-marks.ensures.second_value _ c.marked_final.ensures
