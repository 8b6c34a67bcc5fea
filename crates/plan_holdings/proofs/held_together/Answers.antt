-- `held_together` meets its contract: either part's flags.
use mathlib.Core.Path.{◌∙◌}
use Rattle.plan_holdings.proofs.Tests.{or_first, or_second, held_both}
use Rattle.plan_holdings.proofs.held_together.Goals as goal
use Rattle.plan_holdings.proofs.held_together.Goals.{then-source_in, else-source_in, then-fault_in, else-fault_in, then-need_in, else-need_in}

pub returns : goal.returns
returns c =
    let the-args = c.args in
    c.held.ensures ∙ held_both the-args.x the-args.y _ _ _
    (elim c.if-source_in.branch [
      | then-source_in w ↦ w.held-is ∙ or_first _ c.source_in.ensures w.if-source_in.true
      | else-source_in w ↦ w.held-is ∙ or_second c.source_in.ensures w.if-source_in.false w.source_in-else-source_in.ensures
    ])
    (elim c.if-fault_in.branch [
      | then-fault_in w ↦ w.held-is ∙ or_first _ c.fault_in.ensures w.if-fault_in.true
      | else-fault_in w ↦ w.held-is ∙ or_second c.fault_in.ensures w.if-fault_in.false w.fault_in-else-fault_in.ensures
    ])
    (elim c.if-need_in.branch [
      | then-need_in w ↦ w.held-is ∙ or_first _ c.need_in.ensures w.if-need_in.true
      | else-need_in w ↦ w.held-is ∙ or_second c.need_in.ensures w.if-need_in.false w.need_in-else-need_in.ensures
    ])
