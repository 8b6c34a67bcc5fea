-- `file_writer::put_head` meets its contract: three numbers stored one behind the other are the stores of the record's bytes.
use mathlib.Core.Path.{refl}
use mathlib.Core.List.{◌++◌}
use Rattle.file_writer.specs.Writing.{number, plan_head_bytes}
use Rattle.network.proofs.Stores.{stored_behind}
use Rattle.file_writer.proofs.put_head.Goals as goal

pub returns : goal.returns
unfolding plan_head_bytes
returns c =
    let a = c.args in
    let two = stored_behind a.buffer.now _ _ 0 2 (number 6) (number 5)
    c.put_word.ensures
    c.put_word-2.ensures refl in
    stored_behind a.buffer.now _ _ 0 4 (number 6 ++ number 5) (number a.steps) two c.put_word-3.ensures refl
