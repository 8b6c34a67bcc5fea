-- What two parts are found to be, test by test.
use native.Mathlib.Omega.{arith}
use Rattle.judge_closing.proofs.Joinings.{one_part, two_sources, second_faulty, fed_first, first_faulty, fed_second, both_dark}
use Rattle.judge_closing.proofs.joining_by.Goals as goal

pub returns-then-first-ge16384 : goal.returns-then-first-ge16384
returns-then-first-ge16384 c =
    let the-args = c.args in
    one_part the-args.first the-args.second (omega arith)

pub returns-then-t-ne0 : goal.returns-then-t-ne0
returns-then-t-ne0 c =
    let the-args = c.args in
    two_sources the-args.first the-args.second (omega arith) (omega arith) (omega arith)

pub returns-then-second-ne0 : goal.returns-then-second-ne0
returns-then-second-ne0 c =
    let the-args = c.args in
    second_faulty the-args.first the-args.second (omega arith) (omega arith) (omega arith) (omega arith)

pub returns-then-s-ne0 : goal.returns-then-s-ne0
returns-then-s-ne0 c =
    let the-args = c.args in
    fed_first the-args.first the-args.second (omega arith) _ (omega arith) (omega arith) (omega arith) (omega arith)

pub returns-then-first-ne0 : goal.returns-then-first-ne0
returns-then-first-ne0 c =
    let the-args = c.args in
    first_faulty the-args.first the-args.second (omega arith) (omega arith) (omega arith) (omega arith)

pub returns-then-t-ne0-2 : goal.returns-then-t-ne0-2
returns-then-t-ne0-2 c =
    let the-args = c.args in
    fed_second the-args.first the-args.second (omega arith) _ (omega arith) (omega arith) (omega arith) (omega arith)

pub returns : goal.returns
returns c =
    let the-args = c.args in
    both_dark the-args.first the-args.second (omega arith) (omega arith) (omega arith)
