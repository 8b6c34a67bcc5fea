-- `final_better::part_in` meets its contract, by the two places at which a file stands.
use native.Mathlib.Omega.{arith}
use Rattle.final_better.proofs.Places.{moved_second, moved_other}
use Rattle.final_better.proofs.part_in.Goals as goal

pub returns-in-Second : goal.returns-in-Second
returns-in-Second c =
    let the-args = c.args in
    moved_second the-args.start the-args.middle the-args.part _ c.in-Second.is (omega arith)

pub returns-in_default : goal.returns-in_default
returns-in_default c =
    let the-args = c.args in
    moved_other the-args.start the-args.middle the-args.part _ c.in_default.not-Second (omega arith)
