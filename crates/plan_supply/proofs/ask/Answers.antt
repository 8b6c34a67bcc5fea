-- `ask` meets its contract: the two cases of the load test are laws of `Adding`.
use native.Mathlib.Omega.{arith}
use Rattle.feeding_load_test.proofs.Signs.{passed, failed}
use Rattle.plan_supply.proofs.Adding.{ask_small, ask_large}
use Rattle.plan_supply.proofs.ask.Goals as goal

pub returns-then-margin_of-ge0 : goal.returns-then-margin_of-ge0
returns-then-margin_of-ge0 c =
    let the-args = c.args in
    ask_small the-args.load the-args.capacity
    (passed the-args.capacity the-args.load c.margin_of.result (omega arith) (omega arith) c.margin_of.ensures c.if-margin_of-ge0.true)

pub returns : goal.returns
returns c =
    let the-args = c.args in
    ask_large the-args.load the-args.capacity
    (failed the-args.capacity the-args.load c.margin_of.result (omega arith) (omega arith) c.margin_of.ensures c.if-margin_of-ge0.false)
