-- The lowest marked element that is not the last of its part: what is left to search gives the whole answer.
use mathlib.Core.Path.{sym}
use native.Mathlib.Omega.{arith}
use Rattle.feeding.proofs.Lows.{lowest_start}
use Rattle.feeding_places.specs.Places.{not_last}
use Rattle.feeding_places.proofs.Tests.{not_last_on, not_last_off, not_last_same, stops, goes_on, ends}
use Rattle.feeding_places.proofs.pair_place.Goals as goal
use Rattle.feeding_places.proofs.pair_place.Goals.{else-sound-s-eq1-via-then-sound-s-eq1+else-last-label, else-sound-s-eq1-via-else-sound-s-eq1}

pub loop-s-init : goal.loop-s-init
loop-s-init c = sym (lowest_start c.args.elements (not_last c.args.label.now c.args.sound.now c.args.last.now))

pub returns-then-last-label : goal.returns-then-last-label
returns-then-last-label c =
    stops c.args.elements c.loop-s.s (not_last c.args.label.now c.args.sound.now c.args.last.now) c.loop-s.invariant (omega arith)
    (not_last_on c.args.label.now c.args.sound.now c.args.last.now c.loop-s.s (omega arith) (omega arith))

pub loop-s-preserved : goal.loop-s-preserved
loop-s-preserved c =
    goes_on c.args.elements c.loop-s.s (not_last c.args.label.now c.args.sound.now c.args.last.now) c.loop-s.invariant (omega arith)
    (elim c.else-sound-s-eq1.branch [
      | else-sound-s-eq1-via-then-sound-s-eq1+else-last-label w ↦ not_last_same c.args.label.now c.args.sound.now c.args.last.now c.loop-s.s (omega arith)
      | else-sound-s-eq1-via-else-sound-s-eq1 w ↦ not_last_off c.args.label.now c.args.sound.now c.args.last.now c.loop-s.s (omega arith)
    ])

pub returns : goal.returns
returns c = ends c.args.elements c.loop-s.s (not_last c.args.label.now c.args.sound.now c.args.last.now) c.loop-s.invariant (omega arith) (omega arith)
