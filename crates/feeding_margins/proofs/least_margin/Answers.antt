-- `least_margin` keeps the tightest spot of the elements before e.
use mathlib.Core.Path.{◌∙◌}
use Prim.Native.Nat.{◌^◌, ◌<◌}
use native.Mathlib.Omega.{arith}
use Rattle.feeding.specs.Networks.{at}
use Rattle.feeding_margins.proofs.Scans.{spot_none, spot_on, spot_off, spot_all}
use Rattle.feeding_margins.proofs.least_margin.Goals as goal
use Rattle.feeding_margins.proofs.least_margin.Goals.{else-x, then-x}

pub loop-e-init : goal.loop-e-init
loop-e-init c =
    let a = c.args in
    spot_none a.capacity.now a.loads.now

pub overflow_cast-capacity : goal.overflow_cast-capacity
overflow_cast-capacity c =
    let n = c.loop-e in
    omega (arith, c.type_inv.capacity n.e)

pub margin_of-requires : goal.margin_of-requires
margin_of-requires c =
    let pre· = c.requires in
    let a = c.args in
    let n = c.loop-e in
    let bound : at a.capacity.now n.e < 2 ^ 63 = omega (arith, c.type_inv.capacity n.e) in
    (pre·.loads_in n.e (omega arith) (omega arith), bound)

pub loop-e-preserved : goal.loop-e-preserved
loop-e-preserved c =
    let a = c.args in
    let p = c.requires in
    let n = c.loop-e in
    (elim c.if-x.branch [
      | then-x w ↦ spot_on a.capacity.now a.loads.now n.e n.spot c.if-x.spot w.margin_of.result (omega (arith, w.if-x.true))
          (omega (arith, c.type_inv.capacity n.e)) (p.loads_in n.e (omega arith) (omega (arith, w.if-x.true)))
          n.invariant w.margin_of.ensures (w.spot-is ∙ w.tighter-spot.ensures)
      | else-x w ↦ spot_off a.capacity.now a.loads.now n.e c.if-x.spot (omega (arith, w.if-x.false)) (w.spot-is ∙ n.invariant)
    ])

pub returns : goal.returns
returns c =
    let a = c.args in
    let n = c.loop-e in
    spot_all a.capacity.now a.loads.now a.elements n.e n.spot (omega arith) n.invariant
