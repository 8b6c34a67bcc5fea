-- `served_by` meets its contract: it asks the tests of `serves` in turn.
use mathlib.Core.Path.{◌≡◌, ap, ◌∙◌}
use mathlib.Core.Bool.{Bool, ◌&&◌, ◌||◌}
use Rattle.feeding.specs.Below.{gate}
use Rattle.plan_stops.specs.Holding.{has_source, waits_for, serves}
use Rattle.plan_holdings.proofs.Tests.{gate_one, or_first, or_second, and_first, and_second}
use Rattle.plan_holdings.proofs.served_by.Goals as goal
use Rattle.plan_holdings.proofs.served_by.Goals.{then-waits+then-waits-2, then-waits+else-waits-2, else-waits}
use Rattle.plan_holdings.proofs.served_by.Goals.{then-source_in, else-source_in+then-waits-3, else-source_in+else-waits-3}

pub returns : goal.returns
unfolding serves
returns c =
    let the-args = c.args in
    let first : c.if-waits.value ≡ (waits_for the-args.x && (waits_for the-args.y || has_source the-args.y)) = elim c.if-waits.branch [
      | then-waits+then-waits-2 w ↦ w.value-is
          ∙ and_second c.waits.ensures w.if-waits.true (or_first _ w.waits-then-waits.ensures w.if-waits-2.true)
      | then-waits+else-waits-2 w ↦ w.value-is
          ∙ and_second c.waits.ensures w.if-waits.true (or_second w.waits-then-waits.ensures w.if-waits-2.false w.source_in.ensures)
      | else-waits w ↦ w.value-is ∙ and_first _ c.waits.ensures w.if-waits.false
    ] in
    let all : c.if-source_in.from ≡ serves the-args.x the-args.y = elim c.if-source_in.branch [
      | then-source_in w ↦ w.from-is ∙ or_first _ first w.if-source_in.true
      | else-source_in+then-waits-3 w ↦ w.from-is ∙ or_second first w.if-source_in.false
          (and_second w.waits-else-source_in.ensures w.if-waits-3.true w.source_in-then-waits-3.ensures)
      | else-source_in+else-waits-3 w ↦ w.from-is ∙ or_second first w.if-source_in.false
          (and_first _ w.waits-else-source_in.ensures w.if-waits-3.false)
    ] in
    c.from.ensures ∙ gate_one c.if-source_in.from ∙ ap (λ (t : Bool). gate t 1) all
