-- `file_reader::Reader::next`: a record that is found lies within the bytes, so the offset behind it fits.
use mathlib.Core.Path.{sym}
use native.Mathlib.Omega.{arith}
use Rattle.file_fields.specs.Views.{seen_in}
use Rattle.file_records.proofs.Due.{due_kept}
use Rattle.file_reader.proofs.Reader.next.Goals as goal

pub overflow_add-self : goal.overflow_add-self
overflow_add-self c =
    let reader = c.args.self.now in
    omega (arith, (due_kept reader.src.now (seen_in c.args.seen) reader.at c.args.stage (sym c.in_ok-record.ensures)).framed.fits)
