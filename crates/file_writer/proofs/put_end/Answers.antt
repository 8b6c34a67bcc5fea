-- `file_writer::put_end` meets its contract: two numbers stored one behind the other are the stores of the record's bytes.
use mathlib.Core.Path.{refl}
use Prim.Native.Nat.{◌+◌}
use Rattle.file_writer.specs.Writing.{number, end_bytes}
use Rattle.network.proofs.Stores.{stored_behind}
use Rattle.file_writer.proofs.put_end.Goals as goal

pub returns : goal.returns
unfolding end_bytes
returns c =
    let a = c.args in
    stored_behind a.buffer.now _ _ a.at (a.at + 2) (number 4) (number 4)
    c.put_word.ensures c.put_word-2.ensures refl
