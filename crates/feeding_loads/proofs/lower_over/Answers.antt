-- `lower_over` takes the lower number only where the margin is negative: by its two tests, the first of which is the load test.
use native.Mathlib.Omega.{arith}
use Rattle.feeding_load_test.proofs.Signs.{passed, failed}
use Rattle.feeding_loads.proofs.Rounds.{lower_within, lower_above}
use Rattle.feeding_loads.proofs.lower_over.Goals as goal

pub returns-then-margin_of-ge0 : goal.returns-then-margin_of-ge0
returns-then-margin_of-ge0 c =
    let a = c.args in
    let fits = passed a.capacity a.load c.margin_of.result (omega arith) (omega arith) c.margin_of.ensures c.if-margin_of-ge0.true in
    omega (arith, lower_within a.e a.load a.capacity a.over fits)

pub returns : goal.returns
returns c =
    let a = c.args in
    let more = failed a.capacity a.load c.margin_of.result (omega arith) (omega arith) c.margin_of.ensures c.if-margin_of-ge0.false in
    omega (arith, lower_above a.e a.load a.capacity a.over more)
