-- `asks_of` meets its contract. The loop's invariant: out has what the first e elements ask, at their labels.
use mathlib.Core.Path.{◌≡◌, refl, ap, ◌∙◌}
use Prim.Native.Nat.{◌+◌}
use native.Mathlib.Omega.{arith}
use Rattle.feeding.specs.Networks.{at}
use Rattle.plan_supply.specs.Supply.{asks_in}
use Rattle.plan_supply.proofs.Adding.{ask_most, asks_none, asks_at, asked_most, asks_step}
use Rattle.plan_supply.proofs.asks_of.Goals as goal

pub loop-e-init : goal.loop-e-init
loop-e-init c =
    let the-args = c.args in
    asks_none the-args.label.now the-args.load.now the-args.capacity.now

pub overflow_add-out : goal.overflow_add-out
overflow_add-out c =
    let the-args = c.args in
    let loop· = c.loop-e in
    let pre· = c.requires in
    let x = at the-args.label.now loop·.e in
    omega (
      arith,
      c.ask.ensures,
      ask_most (at the-args.load.now loop·.e) (at the-args.capacity.now loop·.e) (pre·.load_in_lem loop·.e (omega arith)),
      ap (λ xs. at xs x) loop·.invariant ∙ asks_at the-args.label.now the-args.load.now the-args.capacity.now loop·.e x (pre·.label_in loop·.e (omega arith)),
      asked_most the-args.label.now the-args.load.now the-args.capacity.now loop·.e x (λ i k. pre·.load_in_lem i (omega arith)),
      pre·.fit,
    )

pub loop-e-preserved : goal.loop-e-preserved
loop-e-preserved c =
    let the-args = c.args in
    let loop· = c.loop-e in
    let pre· = c.requires in
    asks_step the-args.label.now the-args.load.now the-args.capacity.now loop·.e loop·.out (at the-args.label.now loop·.e) _ loop·.invariant refl (pre·.label_in loop·.e (omega arith)) (ap (λ y. at loop·.out (at the-args.label.now loop·.e) + y) c.ask.ensures)

pub returns : goal.returns
returns c =
    let loop· = c.loop-e in
    let the-args = c.args in
    let all : loop·.e ≡ the-args.elements = omega arith in
    loop·.invariant ∙ ap (asks_in the-args.label.now the-args.load.now the-args.capacity.now) all
