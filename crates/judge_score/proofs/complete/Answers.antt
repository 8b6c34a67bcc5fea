-- `judge_score::complete` meets its contract: arm by arm.
use mathlib.Core.Path.{sym, ap}
use Rattle.judge_marks.specs.Marks.{complete?}
use Rattle.judge_score.proofs.Ways.{incomplete}
use Rattle.judge_score.proofs.complete.Goals as goal

pub returns-in_default : goal.returns-in_default
returns-in_default c =
    incomplete c.args.found c.in_default.not-Complete

pub returns-in-Complete : goal.returns-in-Complete
unfolding complete?
returns-in-Complete c =
    ap complete? (sym c.in-Complete.is)
