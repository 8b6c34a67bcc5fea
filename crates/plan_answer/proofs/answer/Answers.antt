-- The bytes are read and judged, and an accepted network is solved.
use native.Mathlib.Omega.{arith}
use mathlib.Core.Path.{◌∙◌}
use Rattle.feeding_acceptance.proofs.Promises.{read_begun}
use Rattle.plan_answer.proofs.Solving.{accepted_outcome, refusal_outcome}
use Rattle.plan_answer.proofs.answer.Goals as goal

pub solve-requires : goal.solve-requires
solve-requires c =
    read_begun c.args.s.now (λ i. omega (arith, c.type_inv.s i)) c.read_accepted.result c.read_accepted.ensures.value _ c.in-Ok.is

pub returns-in-Ok : goal.returns-in-Ok
returns-in-Ok c =
    c.solve.ensures ∙ accepted_outcome c.args.s.now c.read_accepted.result c.read_accepted.ensures.value _ c.in-Ok.is

pub returns-in-Err : goal.returns-in-Err
returns-in-Err c =
    refusal_outcome c.args.s.now c.read_accepted.result c.read_accepted.ensures.value _ c.in-Err.is c.empty-plan.result c.empty-plan.ensures
