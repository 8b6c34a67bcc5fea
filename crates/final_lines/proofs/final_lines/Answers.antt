-- `final_lines::final_lines` meets its contract: the lines of both marks, or the refusal's.
use native.Mathlib.Omega.{arith}
use Rattle.final_lines.proofs.Putting.{refused_final_lem, marked_final_lem}
use Rattle.network.proofs.Pairs.{both}
use Rattle.final_lines.proofs.final_lines.Goals as goal

pub returns-in-Err : goal.returns-in-Err
returns-in-Err c =
    let a = c.args in
    let whole = refused_final_lem a.marks a.out.now _ _ _ c.in-Err.is (both c.refused_line.ensures.value c.refused_line.ensures.out_after) in
    record { value = whole.0; out_after = whole.1.0; counted = whole.1.1 }

pub returns-in-Ok : goal.returns-in-Ok
returns-in-Ok c =
    let a = c.args in
    let whole = marked_final_lem a.marks a.out.now _ _ _ c.in-Ok.is (omega arith) (both c.put_marks.ensures.value c.put_marks.ensures.out_after) in
    record { value = whole.0; out_after = whole.1.0; counted = whole.1.1 }
