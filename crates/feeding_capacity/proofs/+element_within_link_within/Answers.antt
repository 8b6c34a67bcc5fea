-- `element_within` and `link_within` stop at the first element above its capacity, and where the room is used up: a walk over the element's own ends, of which the last that leads on waits for the end; each call takes one off the depth.
use mathlib.Core.Path.{◌≡◌, refl, sym, ap, ◌∙◌}
use native.Mathlib.Omega.{arith}
use Rattle.feeding.specs.Networks.{at}
use Rattle.feeding.specs.Parts.{closed_in}
use Rattle.feeding_loads.proofs.Lending.{turn_start}
use Rattle.feeding_capacity.specs.Within.{overloaded, past}
use Rattle.feeding_capacity.proofs.Room.{end_full, end_none}
use Rattle.feeding_capacity.proofs.Waiting.{past_over, past_add, past_zero, end_away, end_deep, end_turn}
use Rattle.feeding_capacity.proofs.Waiting.{held_moved, held_none, held_later, held_open, held_via, wait_below, wait_stops, wait_room, wait_next, wait_last}
use Prim.Native.Nat.{◌-◌, ◌^◌, ◌<◌}
use Rattle.feeding_load_test.proofs.Signs.{below, not_below}
use Rattle.feeding_capacity.proofs.+element_within_link_within.Goals as goal
use Rattle.feeding_capacity.proofs.+element_within_link_within.Goals.{element_within-else-closed-l-eq1, element_within-then-closed-l-eq1+else-l-via, element_within-then-closed-l-eq1+then-l-via+else-c}

pub element_within-returns-then-margin_of-lt0 : goal.element_within-returns-then-margin_of-lt0
element_within-returns-then-margin_of-lt0 t c =
    let a = c.args in
    let pre = c.requires in
    let own : at a.walk.now.load a.e < 2 ^ 63 = omega arith in
    let small : c.min-most.result < 2 ^ 63 = omega (arith, c.min-most.ensures) in
    let tested = below c.min-most.result (at a.walk.now.load a.e) c.margin_of.result small own c.margin_of.ensures c.if-margin_of-lt0.true in
    past_over a.before _ (sym (end_full pre.walk_lent (a.depth - 1) a.e a.via a.room pre.elements_bound.1 a.depth (omega (arith, tested, c.min-most.ensures))))

pub element_within-overflow_add-result : goal.element_within-overflow_add-result
element_within-overflow_add-result t c =
    let a = c.args in
    let own : at a.walk.now.load a.e < 2 ^ 63 = omega arith in
    let small : c.min-most.result < 2 ^ 63 = omega (arith, c.min-most.ensures) in
    let tested = not_below c.min-most.result (at a.walk.now.load a.e) c.margin_of.result small own c.margin_of.ensures c.if-margin_of-lt0.false in
    omega (arith, tested, c.min-most.ensures, c.requires.room_bound)

pub element_within-returns-then-depth-eq0 : goal.element_within-returns-then-depth-eq0
element_within-returns-then-depth-eq0 t c =
    let a = c.args in
    let pre = c.requires in
    let own : at a.walk.now.load a.e < 2 ^ 63 = omega arith in
    let small : c.min-most.result < 2 ^ 63 = omega (arith, c.min-most.ensures) in
    let tested = not_below c.min-most.result (at a.walk.now.load a.e) c.margin_of.result small own c.margin_of.ensures c.if-margin_of-lt0.false in
    past_add a.before _ (λ h. omega (arith, tested, h, c.min-most.ensures, pre.room_bound))
    ∙ ap (past a.before) (end_none pre.walk_lent (a.depth - 1) a.e a.via a.room pre.elements_bound.1 a.depth (omega arith) (omega (arith, tested, c.min-most.ensures)))

pub element_within-loop-j-init : goal.element_within-loop-j-init
element_within-loop-j-init t c =
    let a = c.args in
    let w = a.walk.now in
    let own : at w.load a.e < 2 ^ 63 = omega arith in
    let small : c.min-most.result < 2 ^ 63 = omega (arith, c.min-most.ensures) in
    let tested = not_below c.min-most.result (at w.load a.e) c.margin_of.result small own c.margin_of.ensures c.if-margin_of-lt0.false in (
      held_none w.elements w.links w.own.far a.closed.now w.load w.capacity (a.depth - 1) a.e a.via (omega arith)
          (turn_start w.own.head w.own.next w.own.far a.closed.now w.load w.capacity w.elements w.links c.requires.walk_lent (a.depth - 1) a.e a.via (omega arith)),
      tested,
    )

pub element_within-link_within-c-requires : goal.element_within-link_within-c-requires
element_within-link_within-c-requires t c =
    let pre = c.requires in
    let a = c.args in
    (omega arith, (pre.walk_lent, ((pre.elements_bound.0, wait_below pre.walk_lent (a.depth - 1) a.e a.via c.loop-j.invariant.0), omega (arith, c.min-most.ensures, c.loop-j.invariant.1, pre.room_bound))))

pub element_within-returns-then-c : goal.element_within-returns-then-c
element_within-returns-then-c t c =
    let a = c.args in
    let pre = c.requires in
    let held = c.loop-j.invariant in
    let over : c.link_within-c.result ≡ overloaded = omega arith in
    over ∙ past_over a.before _ (sym (wait_stops pre.walk_lent (a.depth - 1) a.e a.via held.0 a.room pre.elements_bound.1 _ c.link_within-c.result (c.link_within-c.ensures ∙ past_zero _) a.depth (omega arith)
    (omega (arith, c.min-most.ensures, held.1)) (omega (arith, c.min-most.ensures, held.1, pre.room_bound)) over))

pub element_within-overflow_add-sum : goal.element_within-overflow_add-sum
element_within-overflow_add-sum t c =
    let pre = c.requires in
    let a = c.args in
    let held = c.loop-j.invariant in
    omega (arith, wait_room pre.walk_lent (a.depth - 1) a.e a.via held.0 a.room pre.elements_bound.1 _ c.link_within-c.result (c.link_within-c.ensures ∙ past_zero _) (λ h. omega arith), c.min-most.ensures, held.1, pre.room_bound)

pub element_within-loop-j-smaller : goal.element_within-loop-j-smaller
element_within-loop-j-smaller t c =
    omega (arith, held_later c.requires.walk_lent (c.args.depth - 1) c.args.e c.args.via c.loop-j.invariant.0 (omega arith))

pub element_within-loop-j-preserved : goal.element_within-loop-j-preserved
element_within-loop-j-preserved t c =
    let a = c.args in
    let walk = a.walk.now in
    let held = c.loop-j.invariant in
    let pre = c.requires in
    (elim c.if-closed-l-eq1.branch [
      | element_within-then-closed-l-eq1+then-l-via+else-c w ↦ (
        held_moved walk.elements walk.links walk.own.far a.closed.now walk.load walk.capacity (a.depth - 1) a.e a.via refl (omega arith) refl
            (wait_next pre.walk_lent (a.depth - 1) a.e a.via held.0 a.room pre.elements_bound.1 _ w.link_within-c.result (w.link_within-c.ensures ∙ past_zero _) (λ h. omega arith) c.if-closed-l-eq1.sum (omega arith) (omega arith) (omega arith) (λ h. omega arith)),
        omega (arith, wait_room pre.walk_lent (a.depth - 1) a.e a.via held.0 a.room pre.elements_bound.1 _ w.link_within-c.result (w.link_within-c.ensures ∙ past_zero _) (λ h. omega arith), held.1),
      )
      | element_within-then-closed-l-eq1+else-l-via w ↦ (
        held_moved walk.elements walk.links walk.own.far a.closed.now walk.load walk.capacity (a.depth - 1) a.e a.via (omega arith) (omega arith) refl (held_via pre.walk_lent (a.depth - 1) a.e a.via held.0 (omega arith) (omega arith)),
        omega (arith, held.1),
      )
      | element_within-else-closed-l-eq1 w ↦ (
        held_moved walk.elements walk.links walk.own.far a.closed.now walk.load walk.capacity (a.depth - 1) a.e a.via (omega arith) (omega arith) refl (held_open pre.walk_lent (a.depth - 1) a.e a.via held.0 (omega arith) (λ h. omega arith)),
        omega (arith, held.1),
      )
    ])

pub element_within-link_within-requires : goal.element_within-link_within-requires
element_within-link_within-requires t c =
    let pre = c.requires in
    let a = c.args in
    (omega arith, (pre.walk_lent, ((pre.elements_bound.0, wait_below pre.walk_lent (a.depth - 1) a.e a.via c.loop-j.invariant.0), omega (arith, c.min-most.ensures, c.loop-j.invariant.1, pre.room_bound))))

pub element_within-returns : goal.element_within-returns
element_within-returns t c =
    let pre = c.requires in
    let a = c.args in
    let held = c.loop-j.invariant in
    c.link_within.ensures ∙ wait_last pre.walk_lent (a.depth - 1) a.e a.via held.0 a.room pre.elements_bound.1 _ _ refl a.before a.depth (omega arith) (omega arith)
    (omega (arith, c.min-most.ensures, held.1)) (omega (arith, c.min-most.ensures, held.1))

pub link_within-returns-then-j-ge192 : goal.link_within-returns-then-j-ge192
link_within-returns-then-j-ge192 t c =
    let a = c.args in
    let w = a.walk.now in
    end_away w.elements w.links w.own.far w.load w.capacity (closed_in a.closed.now) a.depth a.j _ a.room a.before (omega arith)

pub link_within-returns-then-depth-eq0 : goal.link_within-returns-then-depth-eq0
link_within-returns-then-depth-eq0 t c =
    let a = c.args in
    let w = a.walk.now in
    end_deep w.elements w.links w.own.far w.load w.capacity (closed_in a.closed.now) a.depth a.j _ a.room a.before (omega arith) (omega arith)

pub link_within-returns : goal.link_within-returns
link_within-returns t c =
    let pre = c.requires in
    let a = c.args in
    end_turn pre.walk_lent (a.depth - 1) a.depth a.j a.room a.before c.element_within.result (omega arith) (omega arith) (pre.elements_bound.1 (omega arith)) c.element_within.ensures
