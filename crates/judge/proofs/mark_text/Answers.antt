-- `judge::mark_text` meets its contract: the mark's line is put in front.
use Rattle.judge.proofs.Ways.{printed_mark}
use Rattle.network.proofs.Pairs.{both}
use Rattle.judge.proofs.mark_text.Goals as goal

pub returns : goal.returns
returns c = let the-args = c.args in let whole = printed_mark the-args.s.now c.mark_of-mark.result the-args.out.now (both c.mark_of-mark.ensures.value c.mark_of-mark.ensures.judge_reply) (both c.mark_line.ensures.value c.mark_line.ensures.out_after) in record { value = whole.0; out_after = whole.1.0; counted = whole.1.1.0; judge_reply = whole.1.1.1 }
