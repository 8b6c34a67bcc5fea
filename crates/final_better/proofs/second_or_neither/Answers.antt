-- `final_better::second_or_neither` meets its contract: arm by arm.
use borrow.Author.Rules.{rules}
use Rattle.final_better.specs.Better.{second_or_neither}
use Rattle.final_better.proofs.Marks.{both_out}
use Rattle.final_better.proofs.second_or_neither.Goals as goal

pub returns-in-Valid : goal.returns-in-Valid
unfolding second_or_neither
returns-in-Valid c =
    search rules

pub returns-in_default : goal.returns-in_default
returns-in_default c =
    both_out c.args.second c.in_default.not-Valid
