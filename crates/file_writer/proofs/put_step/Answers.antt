-- `file_writer::put_step` meets its contract: four numbers stored one behind the other are the stores of the record's bytes.
use mathlib.Core.Path.{refl}
use mathlib.Core.List.{◌++◌}
use Prim.Native.Nat.{◌+◌}
use Rattle.file_writer.specs.Writing.{number, state_number, step_bytes}
use Rattle.network.proofs.Stores.{stored_behind}
use Rattle.file_writer.proofs.put_step.Goals as goal

pub returns : goal.returns
unfolding step_bytes
returns c =
    let a = c.args in
    let two = stored_behind a.buffer.now _ _ a.at (a.at + 2) (number 8) (number 6)
    c.put_word.ensures
    c.put_word-2.ensures refl in
    let three = stored_behind a.buffer.now _ _ a.at (a.at + 4) (number 8 ++ number 6) (number a.link) two
    c.put_word-3.ensures refl in
    stored_behind a.buffer.now _ _ a.at (a.at + 6) (number 8 ++ number 6 ++ number a.link) (number (state_number a.close)) three
    c.put_word-4.ensures refl
