-- The first bad step: each turn is one step from a safe configuration, and the steps left give the whole answer.
use mathlib.Core.Path.{◌≡◌}
use Rattle.judge_examine.proofs.Examining.{Examining}
use Rattle.judge_examine.proofs.examine.Given as goal

abbrev pub invariant-loop-i : goal.invariant-loop-i
invariant-loop-i l =
    Examining l.fn.start.net l.operable l.plan l.closed l.i × (l.sign ≡ l.initial.sign)
