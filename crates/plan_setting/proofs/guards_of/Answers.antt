-- `guards_of` meets its contract. The loop's invariant: the first i switches have their charges and fellows, and the others 0.
use mathlib.Core.Path.{◌≡◌}
use Prim.Native.Nat.{◌<◌}
use native.Mathlib.Omega.{arith}
use Rattle.feeding.specs.Networks.{at}
use Rattle.plan_setting.proofs.Charges.{charge_in, fellows_in, column_none, column_more, column_kept, guarded_charge, guarded_fellows, free_charge, free_fellows}
use Rattle.plan_setting.proofs.guards_of.Goals as goal
use Rattle.plan_setting.proofs.guards_of.Goals.{else-g-links, then-g-links}

pub loop-i-init : goal.loop-i-init
loop-i-init c =
    let a = c.args in
    (column_none (charge_in a.guard.now a.cost.now a.links a.link.now), column_none (fellows_in a.guard.now a.cost.now a.links a.link.now))

pub returns : goal.returns
returns c =
    let all : c.loop-i.i ≡ c.args.count = omega arith in
    rw (← all) (record { charge_at = c.loop-i.invariant.0.entry_at; fellows_at = c.loop-i.invariant.1.entry_at })

pub loop-i-preserved : goal.loop-i-preserved
loop-i-preserved c =
    let a = c.args in
    let l = c.loop-i in
    let few : l.i < 16 = omega (arith, c.requires.switch_reach.fit) in
    elim c.if-g-links.branch [
      | then-g-links w ↦ (
        column_more (charge_in a.guard.now a.cost.now a.links a.link.now) l.i l.charge l.invariant.0 few _ _ (guarded_charge a.guard.now a.cost.now a.links a.link.now l.i w.if-g-links.true) w.charge-is,
        column_more (fellows_in a.guard.now a.cost.now a.links a.link.now) l.i l.fellows l.invariant.1 few _ _ (guarded_fellows a.guard.now a.cost.now a.links a.link.now l.i _ w.if-g-links.true w.fellows_of.ensures) w.fellows-is,
      )
      | else-g-links w ↦ (
        column_kept (charge_in a.guard.now a.cost.now a.links a.link.now) l.i l.charge l.invariant.0 few _ (free_charge a.guard.now a.cost.now a.links a.link.now l.i w.if-g-links.false) w.charge-is,
        column_kept (fellows_in a.guard.now a.cost.now a.links a.link.now) l.i l.fellows l.invariant.1 few _ (free_fellows a.guard.now a.cost.now a.links a.link.now l.i w.if-g-links.false) w.fellows-is,
      )
    ]

pub bounds-link-i : goal.bounds-link-i
bounds-link-i c =
    omega (arith, c.requires.switch_reach.fit)

pub overflow_cast-l : goal.overflow_cast-l
overflow_cast-l c =
    omega (arith, c.requires.switch_reach.link_in c.loop-i.i (omega arith))

pub offset_bounds-guards-l : goal.offset_bounds-guards-l
offset_bounds-guards-l c =
    omega (arith, c.requires.switch_reach.link_in c.loop-i.i (omega arith))

pub bounds-guards-l : goal.bounds-guards-l
bounds-guards-l c =
    omega (arith, c.requires.switch_reach.link_in c.loop-i.i (omega arith))

pub overflow_cast-g : goal.overflow_cast-g
overflow_cast-g c =
    omega (arith, c.type_inv.guards (at c.args.link.now c.loop-i.i))

pub fellows_of-requires : goal.fellows_of-requires
fellows_of-requires c =
    let reach = c.requires.switch_reach in
    record { fit = omega (arith, reach.fit); link_in = λ j k. reach.link_in j (omega arith); apart = λ j k h q. reach.apart j k h (omega arith) }
