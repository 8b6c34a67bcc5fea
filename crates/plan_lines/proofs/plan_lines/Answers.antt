-- `plan_lines::plan_lines` meets its contract: the plan's line, the steps' lines and the tail stand in front of the buffer.
use native.Mathlib.Omega.{arith}
use Rattle.plan_lines.proofs.Lines.{plan_lines_put}
use Rattle.plan_lines.specs.Lines.{plan_line}
use Rattle.network.proofs.Pairs.{both}
use Rattle.plan_lines.proofs.plan_lines.Goals as goal

pub returns : goal.returns
unfolding plan_line
returns c = let a = c.args in let whole = plan_lines_put a.out.now _ _ _ _ _ _ _ _ a.plan a.cost a.sums (omega arith) (both c.put_line-first.ensures.value c.put_line-first.ensures.out_after)
    (both c.put_steps-second.ensures.value c.put_steps-second.ensures.out_after) (both c.put_tail.ensures.value c.put_tail.ensures.out_after) (omega arith) (omega arith) in record { value = whole.0; out_after = whole.1 }
