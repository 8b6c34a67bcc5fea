-- What is put is the lines that `files_text` puts in front of an array.
use Rattle.final_judge.specs.Finals.{FilesReply}
use Rattle.tamchuwe.proofs.Texts.{fitted}
use Rattle.tamchuwe.proofs.tamchuwe_final_apart_text.Goals as goal

pub returns : goal.returns
returns c = let the-args = c.args in let whole = fitted (FilesReply the-args.network.now the-args.first.now the-args.second.now) _ _ _ the-args.out.now _ _ _ c.files_text-written.ensures.value c.files_text-written.ensures.out_after c.files_text-written.ensures.files_reply c.put_if_it_fits.ensures.value c.put_if_it_fits.ensures.out_after in record { value = whole.0; out_after = whole.1.0; files_reply = whole.1.1 }
