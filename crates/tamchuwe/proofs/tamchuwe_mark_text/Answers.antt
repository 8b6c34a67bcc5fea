-- What is put is the line that `mark_text` puts in front of an array.
use Rattle.tamchuwe.proofs.Texts.{fitted}
use Rattle.judge.specs.Judging.{JudgeReply}
use Rattle.tamchuwe.proofs.tamchuwe_mark_text.Goals as goal

pub returns : goal.returns
returns c = let the-args = c.args in let whole = fitted (JudgeReply the-args.input.now) _ _ _ the-args.out.now _ _ _ c.mark_text-length.ensures.value c.mark_text-length.ensures.out_after c.mark_text-length.ensures.judge_reply c.put_if_it_fits.ensures.value c.put_if_it_fits.ensures.out_after in record { value = whole.0; out_after = whole.1.0; judge_reply = whole.1.1 }
