-- `clashing` meets its contract: it asks the tests of `clash` in turn.
use mathlib.Core.Path.{◌≡◌, ◌∙◌}
use mathlib.Core.Bool.{◌&&◌, ◌||◌}
use Rattle.plan_stops.specs.Holding.{has_source, has_fault, clash}
use Rattle.plan_holdings.proofs.Tests.{or_first, or_second, and_first, and_second}
use Rattle.plan_holdings.proofs.clashing.Goals as goal
use Rattle.plan_holdings.proofs.clashing.Goals.{Joined-source_in, then-source_in+then-source_in-2, then-source_in+else-source_in-2, else-source_in}

-- the first part has a source, and the second a source or a fault
first : (c : Joined-source_in) → c.if-source_in.value ≡ (has_source c.args.x && (has_source c.args.y || has_fault c.args.y))
first c = elim c.if-source_in.branch [
  | then-source_in+then-source_in-2 w ↦ w.value-is
      ∙ and_second c.source_in.ensures w.if-source_in.true (or_first _ w.source_in-then-source_in.ensures w.if-source_in-2.true)
  | then-source_in+else-source_in-2 w ↦ w.value-is
      ∙ and_second c.source_in.ensures w.if-source_in.true (or_second w.source_in-then-source_in.ensures w.if-source_in-2.false w.fault_in.ensures)
  | else-source_in w ↦ w.value-is ∙ and_first _ c.source_in.ensures w.if-source_in.false
]

pub returns-then-fault_in : goal.returns-then-fault_in
unfolding clash
returns-then-fault_in c = or_first _ (first ((goal.at.returns-then-fault_in c).Joined-source_in)) c.if-fault_in.true

pub returns-then-source_in-3 : goal.returns-then-source_in-3
unfolding clash
returns-then-source_in-3 c =
    or_second (first ((goal.at.returns-then-source_in-3 c).Joined-source_in)) c.if-fault_in.false
    (and_second c.source_in-else-fault_in.ensures c.if-source_in-3.true c.fault_in-then-source_in-3.ensures)

pub returns-else-source_in-3 : goal.returns-else-source_in-3
unfolding clash
returns-else-source_in-3 c =
    or_second (first ((goal.at.returns-else-source_in-3 c).Joined-source_in)) c.if-fault_in.false
    (and_first _ c.source_in-else-fault_in.ensures c.if-source_in-3.false)
