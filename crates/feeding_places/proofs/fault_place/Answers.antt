-- The lowest marked element whose part has a last one: what is left to search gives the whole answer.
use mathlib.Core.Path.{sym}
use native.Mathlib.Omega.{arith}
use Rattle.feeding.proofs.Lows.{lowest_start}
use Rattle.feeding_places.specs.Places.{with_last}
use Rattle.feeding_places.proofs.Tests.{with_last_on, with_last_off, with_last_none, stops, goes_on, ends}
use Rattle.feeding_places.proofs.fault_place.Goals as goal
use Rattle.feeding_places.proofs.fault_place.Goals.{else-faulty-x-eq1-via-then-faulty-x-eq1+else-last-label-lt64, else-faulty-x-eq1-via-else-faulty-x-eq1}

pub loop-x-init : goal.loop-x-init
loop-x-init c = sym (lowest_start c.args.elements (with_last c.args.label.now c.args.faulty.now c.args.last.now))

pub returns-then-last-label-lt64 : goal.returns-then-last-label-lt64
returns-then-last-label-lt64 c =
    stops c.args.elements c.loop-x.x (with_last c.args.label.now c.args.faulty.now c.args.last.now) c.loop-x.invariant (omega arith)
    (with_last_on c.args.label.now c.args.faulty.now c.args.last.now c.loop-x.x (omega arith) (omega arith))

pub loop-x-preserved : goal.loop-x-preserved
loop-x-preserved c =
    goes_on c.args.elements c.loop-x.x (with_last c.args.label.now c.args.faulty.now c.args.last.now) c.loop-x.invariant (omega arith)
    (elim c.else-faulty-x-eq1.branch [
      | else-faulty-x-eq1-via-then-faulty-x-eq1+else-last-label-lt64 w ↦ with_last_none c.args.label.now c.args.faulty.now c.args.last.now c.loop-x.x (omega arith)
      | else-faulty-x-eq1-via-else-faulty-x-eq1 w ↦ with_last_off c.args.label.now c.args.faulty.now c.args.last.now c.loop-x.x (omega arith)
    ])

pub returns : goal.returns
returns c = ends c.args.elements c.loop-x.x (with_last c.args.label.now c.args.faulty.now c.args.last.now) c.loop-x.invariant (omega arith) (omega arith)
