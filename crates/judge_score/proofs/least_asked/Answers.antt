-- `judge_score::least_asked` meets its contract: the planner's promise has one value.
use native.Mathlib.Omega.{arith}
use Rattle.judge_score.proofs.Ways.{not_asked, asked_cost, asked_none}
use Rattle.judge_score.proofs.least_asked.Goals as goal

pub returns-then-not-asked : goal.returns-then-not-asked
returns-then-not-asked c =
    let the-args = c.args in
    let pre· = c.requires in
    not_asked the-args.start.net pre·.formed pre·.starts the-args.asked c.if-not-asked.true

pub returns-in-Some : goal.returns-in-Some
returns-in-Some c =
    let the-args = c.args in
    let pre· = c.requires in
    asked_cost the-args.start.net pre·.formed pre·.starts the-args.asked c.if-not-asked.false c.cheapest_cost.result c.cheapest_cost.ensures _ c.in-Some.is _ (omega arith)

pub returns-in-None : goal.returns-in-None
returns-in-None c =
    let the-args = c.args in
    let pre· = c.requires in
    asked_none the-args.start.net pre·.formed pre·.starts the-args.asked c.if-not-asked.false c.cheapest_cost.result c.cheapest_cost.ensures c.in-None.is _ (omega arith)
