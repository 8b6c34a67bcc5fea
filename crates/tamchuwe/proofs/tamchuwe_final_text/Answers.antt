-- What is put is the lines that `final_text` puts in front of an array.
use Rattle.final_judge.specs.Finals.{FinalReply}
use Rattle.tamchuwe.proofs.Texts.{fitted}
use Rattle.tamchuwe.proofs.tamchuwe_final_text.Goals as goal

pub returns : goal.returns
returns c = let the-args = c.args in let whole = fitted (FinalReply the-args.input.now) _ _ _ the-args.out.now _ _ _ c.final_text-written.ensures.value c.final_text-written.ensures.out_after c.final_text-written.ensures.final_reply c.put_if_it_fits.ensures.value c.put_if_it_fits.ensures.out_after in record { value = whole.0; out_after = whole.1.0; final_reply = whole.1.1 }
