-- `demand_of` meets its contract. The loop's invariant: sum is what the members below e ask.
use mathlib.Core.Path.{◌≡◌, ap, ◌∙◌}
use native.Mathlib.Omega.{arith}
use Rattle.feeding.specs.Networks.{at}
use borrow.Author.Tests.{eq-eqb, ne_eqb}
use Rattle.plan_supply.specs.Supply.{demand_in}
use Rattle.plan_supply.proofs.Adding.{ask_most, demand_none, demand_most, demand_on, demand_off}
use Rattle.plan_supply.proofs.demand_of.Goals as goal
use Rattle.plan_supply.proofs.demand_of.Goals.{else-has-e-eq1, then-has-e-eq1}

pub loop-e-init : goal.loop-e-init
loop-e-init c =
    let the-args = c.args in
    demand_none the-args.has.now the-args.load.now the-args.capacity.now

pub overflow_add-sum : goal.overflow_add-sum
overflow_add-sum c =
    let the-args = c.args in
    let loop· = c.loop-e in
    let pre· = c.requires in
    omega (
      arith,
      c.ask-sum.ensures,
      ask_most (at the-args.load.now loop·.e) (at the-args.capacity.now loop·.e) (pre·.load_in_lem loop·.e (omega arith)),
      loop·.invariant,
      demand_most the-args.has.now the-args.load.now the-args.capacity.now loop·.e (λ i k. pre·.load_in_lem i (omega arith)),
      pre·.fit,
    )

pub loop-e-preserved : goal.loop-e-preserved
loop-e-preserved c =
    let the-args = c.args in
    let loop· = c.loop-e in
    elim c.if-has-e-eq1.branch [
      | then-has-e-eq1 w ↦ demand_on the-args.has.now the-args.load.now the-args.capacity.now loop·.e loop·.sum w.ask-sum.result _ loop·.invariant (eq-eqb (at the-args.has.now loop·.e) 1 (omega arith)) w.ask-sum.ensures w.sum-is
      | else-has-e-eq1 w ↦ demand_off the-args.has.now the-args.load.now the-args.capacity.now loop·.e loop·.sum _ loop·.invariant (ne_eqb (at the-args.has.now loop·.e) 1 (omega arith)) w.sum-is
    ]

pub returns : goal.returns
returns c =
    let loop· = c.loop-e in
    let the-args = c.args in
    let all : loop·.e ≡ the-args.elements = omega arith in
    loop·.invariant ∙ ap (demand_in the-args.has.now the-args.load.now the-args.capacity.now) all
