-- `final_better::step_records` meets its contract: the part between the 6 bytes of the head and the 4 of the end, or nothing where there are fewer bytes.
use mathlib.Core.Path.{◌∙◌}
use Prim.Native.Nat.{◌-◌}
use lib.ListN.{length}
use native.Mathlib.Omega.{arith}
use Rattle.final_better.proofs.Records.{too_short, between}
use Rattle.final_better.proofs.step_records.Goals as goal

pub returns-then-n-lt10 : goal.returns-then-n-lt10
returns-then-n-lt10 c =
    c.no_records.ensures ∙ too_short c.args.file.now (omega arith)

pub returns : goal.returns
returns c =
    let the-args = c.args in
    between the-args.file.now (length the-args.file.now - 4 - 6) (omega arith)
