-- `mark_kind` gives the number of the mark's case: arm by arm.
use mathlib.Core.Path.{sym, ap}
use Rattle.host_values.specs.Values.{mark_kind}
use Rattle.host_values.proofs.mark_kind.Goals as goal

pub returns-in-Refused : goal.returns-in-Refused
unfolding mark_kind
returns-in-Refused c =
    ap mark_kind (sym c.in-Refused.is)

pub returns-in-Broken : goal.returns-in-Broken
unfolding mark_kind
returns-in-Broken c =
    ap mark_kind (sym c.in-Broken.is)

pub returns-in-Short : goal.returns-in-Short
unfolding mark_kind
returns-in-Short c =
    ap mark_kind (sym c.in-Short.is)

pub returns-in-Valid : goal.returns-in-Valid
unfolding mark_kind
returns-in-Valid c =
    ap mark_kind (sym c.in-Valid.is)
