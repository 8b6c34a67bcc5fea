-- `final_lines::put_marks` meets its contract: two lines, one behind the other.
use mathlib.Core.Path.{refl}
use native.Mathlib.Omega.{arith}
use Rattle.final_lines.proofs.Putting.{marks_put}
use Rattle.network.proofs.Pairs.{both}
use Rattle.final_lines.proofs.put_marks.Goals as goal

pub returns : goal.returns
returns c =
    let the-args = c.args in
    record { upper_bound = omega arith; value = (marks_put the-args.out.now _ _ the-args.at _ _ _ the-args.marks _ _ (both c.put_mark-next.ensures.value c.put_mark-next.ensures.out_after) (both c.put_mark.ensures.value c.put_mark.ensures.out_after) (omega arith) refl refl).0; out_after = (marks_put the-args.out.now _ _ the-args.at _ _ _ the-args.marks _ _ (both c.put_mark-next.ensures.value c.put_mark-next.ensures.out_after) (both c.put_mark.ensures.value c.put_mark.ensures.out_after) (omega arith) refl refl).1 }
