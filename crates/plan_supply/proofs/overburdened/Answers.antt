-- `overburdened` meets its contract: each return is one case of `bears`.
use mathlib.Core.Path.{sym, ◌∙◌}
use native.Mathlib.Omega.{arith}
use borrow.Author.Tests.{ltb-true, ltb-false}
use Rattle.plan_supply.proofs.Joining.{heavy_first, heavy_second, heavy_neither}
use Rattle.plan_supply.proofs.overburdened.Goals as goal

pub returns-then-source_in : goal.returns-then-source_in
returns-then-source_in c =
    let the-args = c.args in
    heavy_first the-args.x the-args.y the-args.a the-args.b _ (sym c.source_in.ensures ∙ c.if-source_in.true)
    (λ h. omega (arith, ltb-true)) (λ h. omega (arith, ltb-false))

pub returns-then-source_in-2 : goal.returns-then-source_in-2
returns-then-source_in-2 c =
    let the-args = c.args in
    heavy_second the-args.x the-args.y the-args.a the-args.b _
    (sym c.source_in.ensures ∙ c.if-source_in.false) (sym c.source_in-2.ensures ∙ c.if-source_in-2.true)
    (λ h. omega (arith, ltb-true)) (λ h. omega (arith, ltb-false))

pub returns : goal.returns
returns c =
    let the-args = c.args in
    heavy_neither the-args.x the-args.y the-args.a the-args.b (sym c.source_in.ensures ∙ c.if-source_in.false) (sym c.source_in-2.ensures ∙ c.if-source_in-2.false)
