-- The states after the steps: what the steps left make of the states so far is what all make of those at the start.
use mathlib.Core.Path.{refl, ◌∙◌}
use borrow.Author.Rules.{rules}
use native.Mathlib.Omega.{arith}
use Rattle.judge_steps.proofs.Following.{state_byte, run_first, run_turn, run_last}
use Rattle.judge_steps.proofs.states_after.Goals as goal

pub loop-i-init : goal.loop-i-init
loop-i-init c =
    let the-args = c.args in
    run_first the-args.plan the-args.start (search rules)

pub overflow_cast-link : goal.overflow_cast-link
overflow_cast-link c = omega (arith, c.requires.link_in c.loop-i.i (omega arith))

pub bounds-closed-link : goal.bounds-closed-link
bounds-closed-link c =
    let pre· = c.requires in
    let loop· = c.loop-i in
    omega (arith, pre·.link_in loop·.i (omega arith))

pub loop-i-preserved : goal.loop-i-preserved
loop-i-preserved c =
    let the-args = c.args in
    let loop· = c.loop-i in
    run_turn the-args.plan the-args.start loop·.closed loop·.i loop·.invariant (omega arith)
    _ (c.from.ensures ∙ state_byte _) _ refl _ (omega arith)

pub returns : goal.returns
returns c =
    let the-args = c.args in
    let loop· = c.loop-i in
    run_last the-args.plan the-args.start loop·.closed loop·.i loop·.invariant (omega arith)
