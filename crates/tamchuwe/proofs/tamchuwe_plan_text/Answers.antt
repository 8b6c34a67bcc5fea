-- What is put is the lines that `plan_text` puts in front of an array.
use Rattle.tamchuwe.proofs.Texts.{fitted}
use Rattle.planner.specs.Replies.{PlannerReply}
use Rattle.tamchuwe.proofs.tamchuwe_plan_text.Goals as goal

pub returns : goal.returns
returns c = let the-args = c.args in let whole = fitted (PlannerReply the-args.network.now) _ _ _ the-args.out.now _ _ _ c.plan_text-count.ensures.value c.plan_text-count.ensures.out_after c.plan_text-count.ensures.planner_reply c.put_if_it_fits.ensures.value c.put_if_it_fits.ensures.out_after in record { value = whole.0; out_after = whole.1.0; planner_reply = whole.1.1 }
