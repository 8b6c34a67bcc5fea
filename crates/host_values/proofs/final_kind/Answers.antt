-- `final_kind` gives the number of the answer: arm by arm.
use mathlib.Core.Path.{sym, ap}
use Rattle.host_values.specs.Values.{final_kind}
use Rattle.host_values.proofs.final_kind.Goals as goal

pub returns-in-Err : goal.returns-in-Err
unfolding final_kind
returns-in-Err c =
    ap final_kind (sym c.in-Err.is)

pub returns-in-Ok : goal.returns-in-Ok
unfolding final_kind
returns-in-Ok c =
    ap final_kind (sym c.in-Ok.is)
