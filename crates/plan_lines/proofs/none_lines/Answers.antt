-- `plan_lines::none_lines` meets its contract: the line of NONE and the tail stand in front of the buffer.
use native.Mathlib.Omega.{arith}
use Rattle.plan_lines.proofs.Lines.{none_lines_put}
use Rattle.network.proofs.Pairs.{both}
use Rattle.plan_lines.proofs.none_lines.Goals as goal

pub returns : goal.returns
returns c = let a = c.args in let whole = none_lines_put a.out.now _ _ _ _ _ _ _ _ a.sums (omega arith) (both c.put_text-word.ensures.value c.put_text-word.ensures.out_after)
    (both c.put_feed-first.ensures.value c.put_feed-first.ensures.out_after) (both c.put_tail.ensures.value c.put_tail.ensures.out_after) (omega arith) (omega arith) in record { value = whole.0; out_after = whole.1 }
