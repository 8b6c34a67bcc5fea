-- `judge_score::mark_with` meets its contract: arm by arm; a complete plan costs no less than the least.
use mathlib.Core.Path.{sym, ap}
use Rattle.judge_marks.specs.Marks.{scored_at, mark_with}
use Rattle.judge_score.proofs.mark_with.Goals as goal

pub overflow_sub-excess : goal.overflow_sub-excess
overflow_sub-excess c =
    c.requires _ c.in-Complete.is

pub returns-in-Broken : goal.returns-in-Broken
unfolding mark_with
returns-in-Broken c =
    ap (mark_with c.args.least) (sym c.in-Broken.is)

pub returns-in-Short : goal.returns-in-Short
unfolding mark_with
returns-in-Short c =
    ap (mark_with c.args.least) (sym c.in-Short.is)

pub returns-in-Complete : goal.returns-in-Complete
unfolding mark_with scored_at
returns-in-Complete c =
    ap (mark_with c.args.least) (sym c.in-Complete.is)
