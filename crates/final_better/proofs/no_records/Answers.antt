-- `final_better::no_records` stays within the file: the first step's place is not past its end.
use Prim.Native.Nat.{◌≤◌}
use lib.ListN.{length}
use native.Mathlib.Omega.{arith}
use borrow.Author.Rules.{rules}
use Rattle.final_better.proofs.Places.{first_step_least}
use Rattle.final_better.proofs.no_records.Goals as goal

pub slice_bounds-result-end : goal.slice_bounds-result-end
slice_bounds-result-end c =
    let n = length c.args.file.now in
    let inside : c.first_step-at.result ≤ length c.args.file.now = omega (arith, c.first_step-at.ensures, (first_step_least n).1) in
    search rules
