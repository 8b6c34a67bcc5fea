-- `bears` meets its contract: the second load test is asked where the first passes.
use mathlib.Core.Path.{sym, ◌∙◌, refl}
use Prim.Native.Nat.{◌+◌}
use native.Mathlib.Omega.{arith}
use Rattle.feeding_load_test.proofs.Signs.{sign_test, below, not_below}
use Rattle.plan_spurs.proofs.OneMore.{too_much, both_borne}
use Rattle.plan_spurs.proofs.bears.Goals as goal

pub returns-then-margin_of-lt0 : goal.returns-then-margin_of-lt0
returns-then-margin_of-lt0 c =
    let the-args = c.args in
    too_much the-args.own the-args.limit the-args.load the-args.capacity
    (below the-args.limit the-args.own c.margin_of.result (omega arith) (omega arith) c.margin_of.ensures c.if-margin_of-lt0.true)

pub returns : goal.returns
returns c =
    let the-args = c.args in
    sym (sign_test the-args.capacity (the-args.load + the-args.own) c.margin_of-2.result (omega arith) (omega arith) c.margin_of-2.ensures _ refl)
    ∙ both_borne the-args.own the-args.limit the-args.load the-args.capacity
    (not_below the-args.limit the-args.own c.margin_of.result (omega arith) (omega arith) c.margin_of.ensures c.if-margin_of-lt0.false)
