-- `tighter` answers by the two margins: as signed numbers, which the machine reads back from their bits.
use Rattle.std.proofs.Common.{rules}
use Rattle.feeding_margins.proofs.Scans.{tighter_first, tighter_less, tighter_more}
use Rattle.feeding_margins.proofs.tighter.Goals as goal

pub returns-in-None : goal.returns-in-None
returns-in-None c =
    let a = c.args in
    tighter_first a.spot a.e a.m c.ranges.m c.in-None.is

pub returns-then-m-old : goal.returns-then-m-old
returns-then-m-old c =
    let a = c.args in
    tighter_less a.spot a.e a.m c.ranges.m c.in-Some.old c.in-Some.is (search rules) c.if-m-old.true

pub returns-in-Some : goal.returns-in-Some
returns-in-Some c =
    let a = c.args in
    tighter_more a.spot a.e a.m c.ranges.m c.in-Some.old c.in-Some.is (search rules) c.if-m-old.false
