-- `loads_from` stores by a walk from each marked element in turn: the loop keeps what those before s have stored.
use mathlib.Core.Path.{◌∙◌}
use native.Mathlib.Omega.{arith}
use lib.ListN.{replicate}
use Rattle.feeding.specs.Parts.{closed_in}
use Rattle.feeding_loads.proofs.Sources.{carries_at}
use Rattle.feeding_margins.specs.Margins.{unfed}
use Rattle.feeding_margins.proofs.Sources.{stored_start, stored_on, stored_off, stored_all}
use Rattle.feeding_margins.proofs.loads_from.Goals as goal
use Rattle.feeding_margins.proofs.loads_from.Goals.{else-marked-s-eq1, then-marked-s-eq1}

pub loop-s-init : goal.loop-s-init
loop-s-init c =
    let a = c.args in
    stored_start a.lists.now.elements a.lists.now.links a.lists.now.far.now a.lists.now.load.now (closed_in a.lists.now.closed.now) a.marked.now (replicate 64 unfed)

pub element_loads-requires : goal.element_loads-requires
element_loads-requires c =
    let a = c.args in
    let n = c.loop-s in
    record { lent = c.requires.lent; e_lt_elements = (omega arith, omega arith); via_bound = omega (arith, carries_at a.lists.now.elements a.lists.now.links a.lists.now.far.now a.lists.now.load.now a.lists.now.load.now (closed_in a.lists.now.closed.now) a.marked.now c.requires.carries n.s (omega arith) (omega arith)) }

pub loop-s-preserved : goal.loop-s-preserved
loop-s-preserved c =
    let a = c.args in
    let n = c.loop-s in
    (elim c.if-marked-s-eq1.branch [ then-marked-s-eq1 w ↦ stored_on a.lists.now.elements a.lists.now.links a.lists.now.far.now a.lists.now.load.now (closed_in a.lists.now.closed.now) a.marked.now (replicate 64 unfed) n.s n.loads c.if-marked-s-eq1.loads (omega arith) n.invariant (w.loads-is ∙ w.element_loads.ensures.loads_after) | else-marked-s-eq1 w ↦ stored_off a.lists.now.elements a.lists.now.links a.lists.now.far.now a.lists.now.load.now (closed_in a.lists.now.closed.now) a.marked.now (replicate 64 unfed) n.s n.loads c.if-marked-s-eq1.loads (omega arith) n.invariant w.loads-is ])

pub returns : goal.returns
returns c =
    let a = c.args in
    let n = c.loop-s in
    stored_all a.lists.now.elements a.lists.now.links a.lists.now.far.now a.lists.now.load.now (closed_in a.lists.now.closed.now) a.marked.now (replicate 64 unfed) n.s n.loads (omega arith) n.invariant
