-- `final_better::part_of` meets its contract, by the three answers.
use native.Mathlib.Omega.{arith}
use Rattle.final_better.proofs.Places.{place_first, place_second, place_none}
use Rattle.final_better.proofs.part_of.Goals as goal

pub returns-in-First : goal.returns-in-First
returns-in-First c =
    let the-args = c.args in
    place_first the-args.first the-args.second the-args.better _ _ c.in-First.is (omega arith) (omega arith)

pub returns-in-Second : goal.returns-in-Second
returns-in-Second c =
    let the-args = c.args in
    place_second the-args.first the-args.second the-args.better _ _ c.in-Second.is (omega arith) (omega arith)

pub returns-in-Neither : goal.returns-in-Neither
returns-in-Neither c =
    let the-args = c.args in
    place_none the-args.first the-args.second the-args.better _ _ c.in-Neither.is (omega arith) (omega arith)
