-- `judge_line::mark_line` meets its contract: put from the start, the line stands in front of the buffer.
use native.Mathlib.Omega.{arith}
use Rattle.texts.proofs.Pieces.{put_front}
use Rattle.judge_line.specs.MarkLines.{mark_line}
use Rattle.network.proofs.Pairs.{both}
use Rattle.judge_line.proofs.mark_line.Goals as goal

pub returns : goal.returns
returns c = let the-args = c.args in let whole = put_front the-args.out.now _ _ (mark_line the-args.mark) (omega arith) (both c.put_mark.ensures.value c.put_mark.ensures.out_after) in record { value = whole.0; out_after = whole.1 }
