-- The least label of a marked element, kept as the least of those before.
use mathlib.Core.Path.{◌≡◌, sym, ap, ◌∙◌}
use native.Mathlib.Omega.{arith}
use Rattle.feeding.specs.Below.{some_below}
use Rattle.feeding.proofs.Lows.{some_found, none_found}
use Rattle.feeding_places.proofs.Tests.{least_below, least_none, least_all, least_on, least_off}
use Rattle.feeding_places.proofs.tree_place.Goals as goal
use Rattle.feeding_places.proofs.tree_place.Goals.{then-looped-x-eq1, else-looped-x-eq1}

pub loop-x-init : goal.loop-x-init
loop-x-init c = sym (least_none c.args.label.now c.args.looped.now c.args.elements)

pub loop-x-preserved : goal.loop-x-preserved
loop-x-preserved c =
    let label = c.args.label.now in
    let looped = c.args.looped.now in
    elim c.if-looped-x-eq1.branch [
      | then-looped-x-eq1 w ↦ omega (arith, w.place-is, w.min-place.ensures, c.loop-x.invariant, least_on label looped c.args.elements c.loop-x.x (omega arith))
      | else-looped-x-eq1 w ↦ omega (arith, w.place-is, c.loop-x.invariant, least_off label looped c.args.elements c.loop-x.x (omega arith))
    ]

pub returns-then-place-elements : goal.returns-then-place-elements
returns-then-place-elements c =
    let all : c.loop-x.x ≡ c.args.elements = omega arith in
    let least = c.loop-x.invariant ∙ ap (least_below c.args.label.now c.args.looped.now c.args.elements) all
    ∙ least_all c.args.label.now c.args.looped.now c.args.elements in
    sym (some_found c.args.elements c.loop-x.place (omega arith)) ∙ ap (some_below c.args.elements) least

pub returns-else-place-elements : goal.returns-else-place-elements
returns-else-place-elements c =
    let all : c.loop-x.x ≡ c.args.elements = omega arith in
    let least = c.loop-x.invariant ∙ ap (least_below c.args.label.now c.args.looped.now c.args.elements) all
    ∙ least_all c.args.label.now c.args.looped.now c.args.elements in
    sym (none_found c.args.elements c.loop-x.place (omega arith)) ∙ ap (some_below c.args.elements) least
