-- `reply_kind` gives the number of the reply's case: arm by arm.
use mathlib.Core.Path.{sym, ap}
use Rattle.host_values.specs.Values.{reply_kind}
use Rattle.host_values.proofs.reply_kind.Goals as goal

pub returns-in-Refused : goal.returns-in-Refused
unfolding reply_kind
returns-in-Refused c =
    ap reply_kind (sym c.in-Refused.is)

pub returns-in-Plan : goal.returns-in-Plan
unfolding reply_kind
returns-in-Plan c =
    ap reply_kind (sym c.in-Plan.is)

pub returns-in-NoPlan : goal.returns-in-NoPlan
unfolding reply_kind
returns-in-NoPlan c =
    ap reply_kind (sym c.in-NoPlan.is)
