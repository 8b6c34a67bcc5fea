-- `holdings` meets its contract. The loop's invariant: the entries below x are those of the table.
use mathlib.Core.Path.{◌≡◌, refl}
use native.Mathlib.Omega.{arith}
use Rattle.plan_holdings.proofs.Tests.{filled_more, filled_all}
use Rattle.plan_holdings.proofs.holdings.Goals as goal

pub loop-x-init : goal.loop-x-init
loop-x-init c = (refl, λ y below. absurd (omega arith))

pub loop-x-preserved : goal.loop-x-preserved
loop-x-preserved c =
    let the-args = c.args in
    let loop· = c.loop-x in
    filled_more the-args.live.now the-args.faulty.now the-args.needed.now loop·.x _ loop·.out
    (omega arith) loop·.invariant c.held.ensures

pub returns : goal.returns
returns c =
    let loop· = c.loop-x in
    let the-args = c.args in
    let all : loop·.x ≡ 64 = omega arith in
    filled_all the-args.live.now the-args.faulty.now the-args.needed.now loop·.out (rw all at loop·.invariant)
