-- `carried_on` meets its contract: each return is one case of `carried_on`.
use mathlib.Core.Path.{sym, ◌∙◌}
use native.Mathlib.Omega.{arith}
use Rattle.plan_supply.proofs.Joining.{borne_first, borne_second, on_first, on_second, on_neither}
use Rattle.feeding.proofs.Pairs.{both}
use Rattle.plan_supply.proofs.carried_on.Goals as goal

pub overflow_sub-result : goal.overflow_sub-result
overflow_sub-result c =
    let the-args = c.args in
    omega (arith, borne_first the-args.x the-args.y the-args.a the-args.b c.requires.b_value (sym c.source_in.ensures ∙ c.if-source_in.true))

pub returns-then-source_in : goal.returns-then-source_in
returns-then-source_in c =
    let the-args = c.args in
    on_first the-args.x the-args.y the-args.a the-args.b (sym c.source_in.ensures ∙ c.if-source_in.true)

pub overflow_sub-result-then-source_in-2 : goal.overflow_sub-result-then-source_in-2
overflow_sub-result-then-source_in-2 c =
    let the-args = c.args in
    let pre· = (both c.requires.b_value c.requires.b_bound) in
    omega (arith, borne_second the-args.x the-args.y the-args.a the-args.b pre·.0 (sym c.source_in.ensures ∙ c.if-source_in.false) (sym c.source_in-2.ensures ∙ c.if-source_in-2.true))

pub returns-then-source_in-2 : goal.returns-then-source_in-2
returns-then-source_in-2 c =
    let the-args = c.args in
    on_second the-args.x the-args.y the-args.a the-args.b (sym c.source_in.ensures ∙ c.if-source_in.false) (sym c.source_in-2.ensures ∙ c.if-source_in-2.true)

pub returns : goal.returns
returns c =
    let the-args = c.args in
    on_neither the-args.x the-args.y the-args.a the-args.b (sym c.source_in.ensures ∙ c.if-source_in.false) (sym c.source_in-2.ensures ∙ c.if-source_in-2.false)
