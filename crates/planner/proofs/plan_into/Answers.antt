-- The outcome's plan is written where there is one; every other reply leaves the buffer alone.
use native.Mathlib.Omega.{arith}
use Rattle.plan_outcome.specs.Outcomes.{outcome}
use Rattle.planner.proofs.Cases.{plan_reply, plan_buffer, none_reply, none_buffer, refused_reply, refused_buffer}
use Rattle.planner.proofs.Promises.{returned_kept}
use Rattle.planner.proofs.plan_into.Goals as goal

pub returns-in-Plan : goal.returns-in-Plan
returns-in-Plan c = let the-args = c.args in let whole = returned_kept the-args.s.now (λ i. omega (arith, c.type_inv.s i)) the-args.buffer.now (plan_reply (outcome the-args.s.now) c.answer-found.result c.answer-found.ensures the-args.buffer.now _ _ c.in-Plan.is c.written_reply.ensures.value) (plan_buffer (outcome the-args.s.now) c.answer-found.result c.answer-found.ensures the-args.buffer.now _ _ c.in-Plan.is c.written_reply.ensures.buffer_after) in record { value = whole.0; buffer_after = whole.1.0; library_reply = whole.1.1 }

pub returns-in-NoPlan : goal.returns-in-NoPlan
returns-in-NoPlan c = let the-args = c.args in let whole = returned_kept the-args.s.now (λ i. omega (arith, c.type_inv.s i)) the-args.buffer.now (none_reply (outcome the-args.s.now) c.answer-found.result c.answer-found.ensures the-args.buffer.now _ c.in-NoPlan.is) (none_buffer (outcome the-args.s.now) c.answer-found.result c.answer-found.ensures the-args.buffer.now _ c.in-NoPlan.is) in record { value = whole.0; buffer_after = whole.1.0; library_reply = whole.1.1 }

pub returns-in-Refused : goal.returns-in-Refused
returns-in-Refused c = let the-args = c.args in let whole = returned_kept the-args.s.now (λ i. omega (arith, c.type_inv.s i)) the-args.buffer.now (refused_reply (outcome the-args.s.now) c.answer-found.result c.answer-found.ensures the-args.buffer.now _ c.in-Refused.is) (refused_buffer (outcome the-args.s.now) c.answer-found.result c.answer-found.ensures the-args.buffer.now _ c.in-Refused.is) in record { value = whole.0; buffer_after = whole.1.0; library_reply = whole.1.1 }
