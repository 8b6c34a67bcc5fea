-- `over_place` takes the lowest number that the walks from the marked elements find: the loop keeps the lowest of those before s.
use mathlib.Core.Path.{◌∙◌, ap, sym}
use native.Mathlib.Omega.{arith}
use Rattle.feeding.specs.Below.{some_below}
use Rattle.feeding.specs.Parts.{closed_in}
use Rattle.feeding.proofs.Lows.{some_found, none_found}
use Rattle.feeding_loads.proofs.Sources.{place_none, place_on, place_off, place_all, carries_at}
use Rattle.feeding_loads.proofs.over_place.Goals as goal
use Rattle.feeding_loads.proofs.over_place.Goals.{else-sound-s-eq1, then-sound-s-eq1}

pub loop-s-init : goal.loop-s-init
loop-s-init c =
    let a = c.args in
    place_none a.lists.now.elements a.lists.now.links a.lists.now.far.now a.lists.now.load.now a.capacity.now (closed_in a.lists.now.closed.now) a.sound.now

pub element_load-c-requires : goal.element_load-c-requires
element_load-c-requires c =
    let a = c.args in
    let n = c.loop-s in record {
      lent = c.requires.lent;
      e_lt_elements = omega arith;
      via_bound = omega (
        arith,
        carries_at a.lists.now.elements a.lists.now.links a.lists.now.far.now a.lists.now.load.now a.capacity.now (closed_in a.lists.now.closed.now)
            a.sound.now
            c.requires.carries n.s (omega arith) (omega arith),
      );
    }

pub loop-s-preserved : goal.loop-s-preserved
loop-s-preserved c =
    let a = c.args in
    let n = c.loop-s in
    (elim c.if-sound-s-eq1.branch [
      | then-sound-s-eq1 w ↦ place_on a.lists.now.elements a.lists.now.links a.lists.now.far.now a.lists.now.load.now a.capacity.now (closed_in a.lists.now.closed.now) a.sound.now
          n.s n.place c.if-sound-s-eq1.place w.element_load-c.result (omega arith) w.element_load-c.ensures n.invariant (omega (arith, w.place-is, w.min-place.ensures))
      | else-sound-s-eq1 w ↦ place_off a.lists.now.elements a.lists.now.links a.lists.now.far.now a.lists.now.load.now a.capacity.now (closed_in a.lists.now.closed.now) a.sound.now
          n.s c.if-sound-s-eq1.place (omega arith) (omega (arith, w.place-is, n.invariant))
    ])

pub returns-then-place-lists : goal.returns-then-place-lists
returns-then-place-lists c =
    let a = c.args in
    let n = c.loop-s in
    sym (some_found a.lists.now.elements n.place (omega arith)) ∙ ap (some_below a.lists.now.elements) (n.invariant ∙ place_all a.lists.now.elements a.lists.now.links
    a.lists.now.far.now a.lists.now.load.now a.capacity.now (closed_in a.lists.now.closed.now) a.sound.now n.s (omega arith))

pub returns : goal.returns
returns c =
    let a = c.args in
    let n = c.loop-s in
    sym (none_found a.lists.now.elements n.place (omega arith)) ∙ ap (some_below a.lists.now.elements) (n.invariant ∙ place_all a.lists.now.elements a.lists.now.links
    a.lists.now.far.now a.lists.now.load.now a.capacity.now (closed_in a.lists.now.closed.now) a.sound.now n.s (omega arith))
