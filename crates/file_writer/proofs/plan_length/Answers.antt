-- `file_writer::plan_length` meets its contract: a count of steps is a byte, so the length fits.
use mathlib.Core.Path.{refl}
use Rattle.file_writer.specs.Writing.{plan_length}
use Rattle.file_writer.proofs.plan_length.Goals as goal

pub returns : goal.returns
unfolding plan_length
returns c = refl
