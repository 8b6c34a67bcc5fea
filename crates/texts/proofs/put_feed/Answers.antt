-- `texts::put_feed` meets its contract: the byte that is stored is the line feed.
use mathlib.Core.Path.{refl}
use Rattle.texts.proofs.put_feed.Goals as goal

pub returns : goal.returns
returns c = record { value = refl; out_after = refl }
