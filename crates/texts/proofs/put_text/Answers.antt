-- `texts::put_text` meets its contract: the part of the buffer that is written over holds the text, and so do the stores one by one.
use mathlib.Core.Path.{refl}
use native.Mathlib.Omega.{arith}
use Rattle.texts.proofs.Pieces.{text_over}
use Rattle.texts.proofs.put_text.Goals as goal

pub returns-clause-out_after : goal.returns-clause-out_after
returns-clause-out_after c =
    text_over c.args.out.now c.copy_from_slice.new.self c.args.text.now c.args.at _ (omega arith) refl c.copy_from_slice.ensures.after
