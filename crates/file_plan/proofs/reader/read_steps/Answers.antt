-- `file_plan::reader::read_steps` reads so many steps: at each turn what is left to read gives the whole outcome.
use mathlib.Core.Path.{◌≡◌, ap, ◌∙◌}
use Prim.Native.Nat.{ℕ, ◌-◌}
use native.Mathlib.Omega.{arith}
use Rattle.std.proofs.Common.{rules}
use Rattle.std.specs.Prelude.{Err}
use Rattle.file_plan.specs.declared.plan.Plan.{Plan}
use Rattle.file_stages.specs.declared.Stage.TheVariants.{Steps}
use Rattle.file_network.specs.Runs.{records, always}
use Rattle.file_network.specs.Inputs.{part_of}
use Rattle.file_plan.specs.PlanFiles.{empty_plan, with_step}
use Rattle.file_network.proofs.Outcomes.{run_done, run_refused, run_turn, turn_whole}
use Rattle.file_plan.proofs.Taken.{step_taken}
use Rattle.file_fields.specs.Views.{seen_in}
use Rattle.file_plan.proofs.reader.read_steps.Goals as goal

pub loop-i-init : goal.loop-i-init
unfolding empty_plan
loop-i-init c =
    let a = c.args in
    let n = ap (λ (x : Plan). x.steps) c.empty-plan.ensures in
    let all : a.count - 0 ≡ a.count = omega arith in
    (c.requires.1, omega (arith, n), ap (λ (k : ℕ). records a.s.now (always (seen_in a.seen)) (with_step a.s.now) k a.start a.first c.empty-plan.result) all)

pub returns-in_err-record : goal.returns-in_err-record
returns-in_err-record c =
    let a = c.args in
    let loop = c.loop-i in
    let same : c.from_residual.result ≡ Err (c.in_err-record.field-0.0) = search rules in
    same ∙
    ap part_of (run_refused a.s.now (always (seen_in a.seen)) (with_step a.s.now) _ (a.count - loop.i) loop.at loop.stage loop.plan loop.invariant.2 (omega arith) _ c.in_err-record.ensures) ∙
    ap (λ (x : Plan). part_of (records a.s.now (always (seen_in a.seen)) (with_step a.s.now) a.count a.start a.first x)) c.empty-plan.ensures

pub overflow_add-at : goal.overflow_add-at
overflow_add-at c =
    let a = c.args in
    let loop = c.loop-i in
    let w = turn_whole a.s.now (seen_in a.seen) loop.at loop.stage Steps _ c.in_ok-record.ensures loop.invariant.0 in
    omega (arith, w.fits, w.enough)

pub word_at-requires : goal.word_at-requires
word_at-requires c =
    let a = c.args in
    let loop = c.loop-i in
    let w = turn_whole a.s.now (seen_in a.seen) loop.at loop.stage Steps _ c.in_ok-record.ensures loop.invariant.0 in
    omega (arith, w.fits, w.enough)

pub overflow_add-at-in-loop-i : goal.overflow_add-at-in-loop-i
overflow_add-at-in-loop-i c =
    let a = c.args in
    let loop = c.loop-i in
    let w = turn_whole a.s.now (seen_in a.seen) loop.at loop.stage Steps _ c.in_ok-record.ensures loop.invariant.0 in
    omega (arith, w.fits, w.enough)

pub word_at-requires-in-loop-i : goal.word_at-requires-in-loop-i
word_at-requires-in-loop-i c =
    let a = c.args in
    let loop = c.loop-i in
    let w = turn_whole a.s.now (seen_in a.seen) loop.at loop.stage Steps _ c.in_ok-record.ensures loop.invariant.0 in
    omega (arith, w.fits, w.enough)

pub overflow_add-at-in-loop-i-2 : goal.overflow_add-at-in-loop-i-2
overflow_add-at-in-loop-i-2 c =
    let a = c.args in
    let loop = c.loop-i in
    let w = turn_whole a.s.now (seen_in a.seen) loop.at loop.stage Steps _ c.in_ok-record.ensures loop.invariant.0 in
    omega (arith, w.fits, w.enough)

pub overflow_add-plan : goal.overflow_add-plan
overflow_add-plan c =
    let a = c.args in
    let loop = c.loop-i in
    let w = turn_whole a.s.now (seen_in a.seen) loop.at loop.stage Steps _ c.in_ok-record.ensures loop.invariant.0 in
    omega (arith, loop.invariant.1)

pub loop-i-preserved : goal.loop-i-preserved
loop-i-preserved c =
    let a = c.args in
    let loop = c.loop-i in
    let due = c.in_ok-record.ensures in
    let w = turn_whole a.s.now (seen_in a.seen) loop.at loop.stage Steps _ due loop.invariant.0 in (
      w.next_is,
      omega (arith, loop.invariant.1),
      ap (records a.s.now (always (seen_in a.seen)) (with_step a.s.now) _ _ _)
          (step_taken a.s.now loop.at loop.i loop.plan _ _ loop.invariant.1 c.word_at.ensures c.word_at-in-loop-i.ensures) ∙
          run_turn a.s.now (always (seen_in a.seen)) (with_step a.s.now) _ (a.count - loop.i) loop.at loop.stage loop.plan loop.invariant.2 (omega arith) _ _ due (omega arith),
    )

pub returns : goal.returns
returns c =
    let a = c.args in
    let loop = c.loop-i in
    ap part_of (run_done a.s.now (always (seen_in a.seen)) (with_step a.s.now) _ (a.count - loop.i) loop.at loop.stage loop.plan loop.invariant.2 (omega arith)) ∙
    ap (λ (x : Plan). part_of (records a.s.now (always (seen_in a.seen)) (with_step a.s.now) a.count a.start a.first x)) c.empty-plan.ensures
