-- `final_better::first_step` meets its contract, by its test.
use native.Mathlib.Omega.{arith}
use Rattle.final_better.proofs.Places.{no_head, behind_head}
use Rattle.final_better.proofs.first_step.Goals as goal

pub returns-then-bytes-lt6 : goal.returns-then-bytes-lt6
returns-then-bytes-lt6 c =
    no_head c.args.bytes (omega arith)

pub returns : goal.returns
returns c =
    behind_head c.args.bytes (omega arith)
