-- `with_set` meets its contract. The loop's invariant: what is left of the set makes of out what the whole set makes of the states.
use mathlib.Core.Path.{◌≡◌, refl, ◌∙◌}
use Prim.Native.Nat.{ℕ, ◌<◌, ◌-◌, ◌%◌}
use native.Mathlib.Omega.{arith}
use Rattle.feeding.specs.Networks.{at}
use Rattle.plan_switches.proofs.Columns.{states_end, states_step, turned_is}
use Rattle.plan_switches.proofs.with_set.Goals as goal

pub loop-i-init : goal.loop-i-init
loop-i-init c = refl

pub overflow_cast-l : goal.overflow_cast-l
overflow_cast-l c = omega (arith, c.requires.link_in (c.loop-i.i - 1) (omega arith))

pub loop-i-preserved : goal.loop-i-preserved
loop-i-preserved c =
    let the-args = c.args in
    let loop· = c.loop-i in
    let link = the-args.link.now in
    let closed = the-args.closed.now in
    let i = loop·.i in
    let bit = loop·.rest % 2 in
    let apart : (k : ℕ) → k < i - 1 → at link k ≡ at link (i - 1) → ⊥ = λ k b. c.requires.apart k (i - 1) b (omega arith) in
    states_step (at link) (at closed) i (i - 1) loop·.rest c.from.result loop·.out _ _ apart loop·.invariant (omega arith)
    (c.from.ensures ∙ turned_is (at closed (i - 1)) bit) refl

pub returns : goal.returns
returns c =
    let loop· = c.loop-i in
    let the-args = c.args in
    let none : loop·.i ≡ 0 = omega arith in
    states_end (at the-args.link.now) (at the-args.closed.now) loop·.rest loop·.out _ (rw none at loop·.invariant)
