-- The lines of the outcome's reply are put in front.
use native.Mathlib.Omega.{arith}
use Rattle.plan_outcome.specs.Outcomes.{outcome}
use Rattle.planner.proofs.Cases.{plan_printed, none_printed, refused_printed}
use Rattle.planner.proofs.Promises.{printed_kept}
use Rattle.network.proofs.Pairs.{both}
use Rattle.planner.proofs.plan_text.Goals as goal

pub returns-in-Plan : goal.returns-in-Plan
returns-in-Plan c = let the-args = c.args in let whole = printed_kept the-args.s.now (λ i. omega (arith, c.type_inv.s i)) the-args.out.now _ (plan_printed (outcome the-args.s.now) c.answer-found.result c.answer-found.ensures _ c.in-Plan.is) (both c.plan_lines.ensures.value c.plan_lines.ensures.out_after) in record { value = whole.0; out_after = whole.1.0; counted = whole.1.1.0; planner_reply = whole.1.1.1 }

pub returns-in-NoPlan : goal.returns-in-NoPlan
returns-in-NoPlan c = let the-args = c.args in let whole = printed_kept the-args.s.now (λ i. omega (arith, c.type_inv.s i)) the-args.out.now _ (none_printed (outcome the-args.s.now) c.answer-found.result c.answer-found.ensures _ c.in-NoPlan.is) (both c.none_lines.ensures.value c.none_lines.ensures.out_after) in record { value = whole.0; out_after = whole.1.0; counted = whole.1.1.0; planner_reply = whole.1.1.1 }

pub returns-in-Refused : goal.returns-in-Refused
returns-in-Refused c = let the-args = c.args in let whole = printed_kept the-args.s.now (λ i. omega (arith, c.type_inv.s i)) the-args.out.now _ (refused_printed (outcome the-args.s.now) c.answer-found.result c.answer-found.ensures _ c.in-Refused.is) (both c.refused_line.ensures.value c.refused_line.ensures.out_after) in record { value = whole.0; out_after = whole.1.0; counted = whole.1.1.0; planner_reply = whole.1.1.1 }
