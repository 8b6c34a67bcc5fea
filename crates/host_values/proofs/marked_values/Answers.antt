-- `marked_values` gives the numbers of both marks and of the part: one by one.
use native.Mathlib.Omega.{arith}
use Rattle.host_values.proofs.Counts.{marked_nine}
use Rattle.host_values.proofs.marked_values.Goals as goal

pub returns : goal.returns
returns c =
    let the-args = c.args in
    marked_nine the-args.marks the-args.part c.mark_values-one.result c.mark_values-other.result _ _ _ _ _ c.mark_kind.ensures c.mark_values-one.ensures c.mark_kind-2.ensures c.mark_values-other.ensures c.from.ensures (omega arith) (omega arith)
