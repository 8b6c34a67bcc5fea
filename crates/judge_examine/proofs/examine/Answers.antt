-- The first bad step: each turn is one step from a safe configuration, and the steps left give the whole answer.
use borrow.Author.Rules.{rules}
use mathlib.Core.Path.{◌≡◌, refl, ◌∙◌}
use native.Mathlib.Omega.{arith}
use Rattle.feeding_restoration.proofs.Reach.{bits_long}
use Rattle.judge_steps.proofs.Following.{state_byte}
use Rattle.feeding_start.proofs.Starts.{own_of, closed_of, operable_of}
use Rattle.judge_examine.proofs.Examining.{first_turn, last_turn, steppable, bad_turn, good_turn}
use Rattle.network.proofs.Pairs.{both}
use Rattle.judge_examine.proofs.examine.Goals as goal

pub returns-then-plan-eq0 : goal.returns-then-plan-eq0
returns-then-plan-eq0 c =
    let the-args = c.args in
    let pre· = (both c.requires.searchable c.requires.well_formed_plan) in
    last_turn the-args.start.net pre·.0.formed the-args.start.operable the-args.plan pre·.1 the-args.start.closed 0 (first_turn the-args.start.net pre·.0.formed the-args.start.operable the-args.plan pre·.1 pre·.0.safe the-args.start.closed (closed_of the-args.start _ pre·.0.made)) (omega (arith, c.if-plan-eq0))

pub loop-i-init : goal.loop-i-init
loop-i-init c =
    let the-args = c.args in
    let pre· = (both c.requires.searchable c.requires.well_formed_plan) in
    (first_turn the-args.start.net pre·.0.formed the-args.start.operable the-args.plan pre·.1 pre·.0.safe the-args.start.closed (closed_of the-args.start _ pre·.0.made), refl)

pub overflow_cast-l : goal.overflow_cast-l
overflow_cast-l c =
    let pre· = (both c.requires.searchable c.requires.well_formed_plan) in
    omega (arith, pre·.0.formed.links_fit, pre·.1.link_in c.loop-i.i (omega (arith, c.loop-i-test.true)))

pub bounds-operable-l : goal.bounds-operable-l
bounds-operable-l c =
    let the-args = c.args in
    let pre· = (both c.requires.searchable c.requires.well_formed_plan) in
    let loop· = c.loop-i in
    let loop-test· = c.loop-i-test in
    omega (arith, bits_long _ _ _ (operable_of the-args.start _ pre·.0.made), pre·.0.formed.links_fit, pre·.1.link_in loop·.i (omega (arith, loop-test·.true)))

pub examine_step-requires : goal.examine_step-requires
examine_step-requires c =
    let the-args = c.args in
    let pre· = (both c.requires.searchable c.requires.well_formed_plan) in
    let loop· = c.loop-i in
    let loop-test· = c.loop-i-test in
    steppable the-args.start.net pre·.0.formed the-args.start.operable the-args.plan pre·.1 c.walk_of-walk.result loop·.sign (record { own = the-args.start.own; own_is = own_of the-args.start _ pre·.0.made; walk_is = c.walk_of-walk.ensures; sign_is = loop·.invariant.1 ∙ c.signs_of-sign.ensures }) loop·.closed loop·.i loop·.invariant.0 (omega (arith, loop-test·.true))

pub returns-in_err-examine_step : goal.returns-in_err-examine_step
returns-in_err-examine_step c =
    let the-args = c.args in
    let pre· = (both c.requires.searchable c.requires.well_formed_plan) in
    let loop· = c.loop-i in
    let loop-test· = c.loop-i-test in
    let same : c.from_residual.result ≡ c.examine_step.result = search rules in
    same ∙ bad_turn the-args.start.net pre·.0.formed the-args.start.operable the-args.plan pre·.1 c.walk_of-walk.result loop·.sign (record { own = the-args.start.own; own_is = own_of the-args.start _ pre·.0.made; walk_is = c.walk_of-walk.ensures; sign_is = loop·.invariant.1 ∙ c.signs_of-sign.ensures }) loop·.closed loop·.i loop·.invariant.0 (omega (arith, loop-test·.true)) c.from-want.result (c.from-want.ensures ∙ state_byte _) _ (omega arith) c.examine_step.result c.examine_step.ensures.value _ (c.in_err-examine_step.was)

pub loop-i-preserved : goal.loop-i-preserved
loop-i-preserved c =
    let the-args = c.args in
    let pre· = (both c.requires.searchable c.requires.well_formed_plan) in
    let loop· = c.loop-i in
    let loop-test· = c.loop-i-test in
    (good_turn the-args.start.net pre·.0.formed the-args.start.operable the-args.plan pre·.1 c.walk_of-walk.result loop·.sign (record { own = the-args.start.own; own_is = own_of the-args.start _ pre·.0.made; walk_is = c.walk_of-walk.ensures; sign_is = loop·.invariant.1 ∙ c.signs_of-sign.ensures }) loop·.closed loop·.i loop·.invariant.0 (omega (arith, loop-test·.true)) c.from-want.result (c.from-want.ensures ∙ state_byte _) _ (omega arith) c.examine_step.result c.examine_step.ensures.value _ (c.examine_step.ensures.closed_after c.in_ok-examine_step.was) _ (omega arith) c.in_ok-examine_step.was, c.examine_step.ensures.sign_unchanged ∙ loop·.invariant.1)

pub returns : goal.returns
returns c =
    let the-args = c.args in
    let pre· = (both c.requires.searchable c.requires.well_formed_plan) in
    let loop· = c.loop-i in
    last_turn the-args.start.net pre·.0.formed the-args.start.operable the-args.plan pre·.1 loop·.closed loop·.i loop·.invariant.0 (omega arith)
