-- `texts::refused_line` meets its contract: put from the start, the line stands in front of the buffer.
use native.Mathlib.Omega.{arith}
use Rattle.texts.specs.Texts.{refused_line}
use Rattle.texts.proofs.Pieces.{put_front}
use Rattle.network.proofs.Pairs.{both}
use Rattle.texts.proofs.refused_line.Goals as goal

pub returns : goal.returns
returns c = let the-args = c.args in let whole = put_front the-args.out.now _ _ (refused_line the-args.refused) (omega arith) (both c.put_refused.ensures.value c.put_refused.ensures.out_after) in record { value = whole.0; out_after = whole.1 }
