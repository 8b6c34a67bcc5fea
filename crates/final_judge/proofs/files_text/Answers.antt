-- `files_text` meets its contract: the lines of what is decided.
use Rattle.final_judge.proofs.Returning.{printed_decided}
use Rattle.network.proofs.Pairs.{both}
use Rattle.final_judge.proofs.files_text.Goals as goal

pub returns : goal.returns
returns c =
    let decided = c.final_of_files-decided.ensures in
    let lines = c.final_lines.ensures in
    let whole = printed_decided _ _ _ _ (both decided.value decided.files_decided) _ c.marks_of-marks.ensures c.args.out.now _ _ (both lines.value (both lines.out_after lines.counted)) in
    record { value = whole.0; out_after = whole.1.0; counted = whole.1.1.0; files_reply = whole.1.1.1 }
