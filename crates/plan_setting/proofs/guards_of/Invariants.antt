-- `guards_of` meets its contract. The loop's invariant: the first i switches have their charges and fellows, and the others 0.
use Rattle.plan_setting.proofs.Charges.{ColumnTo, charge_in, fellows_in}
use Rattle.plan_setting.proofs.guards_of.Given as goal

abbrev pub invariant-loop-i : goal.invariant-loop-i
invariant-loop-i l =
    ColumnTo (charge_in l.guard l.cost l.links l.link) l.i l.charge × ColumnTo (fellows_in l.guard l.cost l.links l.link) l.i l.fellows
