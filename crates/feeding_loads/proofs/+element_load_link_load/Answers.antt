-- `element_load` and `link_load` answer load and lowest overload: a walk over the element's own ends; each call takes one off the depth.
use Prim.Native.Nat.{◌-◌, ◌/◌, ◌^◌, ◌<◌}
use native.Mathlib.Omega.{arith}
use Rattle.feeding.specs.Networks.{at}
use Rattle.feeding_loads.specs.Walks.{near_at}
use Rattle.feeding_loads.proofs.Lending.{turn_start, turn_none, turn_own, turn_done, turn_sum, turn_below, turn_later, turn_on, turn_via}
use Rattle.feeding_loads.proofs.Lending.{turn_open, turn_room, turn_room_by, link_turn_none, link_turn, link_turn_load}
use Rattle.feeding_loads.proofs.+element_load_link_load.Goals as goal
use Rattle.feeding_loads.proofs.+element_load_link_load.Goals.{element_load-else-lists-l-eq1, element_load-then-lists-l-eq1+else-l-via, element_load-then-lists-l-eq1+then-l-via}

pub element_load-lower_over-over-requires : goal.element_load-lower_over-over-requires
element_load-lower_over-over-requires t c =
    let a = c.args in
    let own : at a.lists.now.load.now a.e < 2 ^ 63 =
    omega (
      arith,
      c.requires.via_bound,
      turn_own _ _ _ _ _ _ _ _ c.requires.lent (a.depth - 1) a.e a.via a.depth (omega arith),
    ) in
    own

pub element_load-returns-then-depth-eq0 : goal.element_load-returns-then-depth-eq0
element_load-returns-then-depth-eq0 t c =
    let a = c.args in
    turn_none _ _ _ _ _ _ _ _ c.requires.lent (a.depth - 1) a.e a.via a.depth c.lower_over-over.result (omega arith) (omega arith) c.lower_over-over.ensures

pub element_load-loop-j-init : goal.element_load-loop-j-init
element_load-loop-j-init t c =
    let a = c.args in
    turn_start _ _ _ _ _ _ _ _ c.requires.lent (a.depth - 1) a.e a.via (omega arith)

pub element_load-bounds-lists-l : goal.element_load-bounds-lists-l
element_load-bounds-lists-l t c =
    let a = c.args in
    let n = c.loop-j in
    let below = turn_below _ _ _ _ _ _ _ _ c.requires.lent (a.depth - 1) a.e a.via n.sum n.over n.j n.invariant (omega arith) in
    omega arith

pub element_load-link_load-c-requires : goal.element_load-link_load-c-requires
element_load-link_load-c-requires t c =
    let a = c.args in
    let n = c.loop-j in
    let room = turn_room _ _ _ _ _ _ _ _ c.requires.lent (a.depth - 1) a.e a.via n.sum n.over n.j n.invariant (omega arith)
    a.depth (omega arith) (omega arith) (omega arith) in (
      omega arith,
      (
        c.requires.lent,
        (
          turn_below _ _ _ _ _ _ _ _ c.requires.lent (a.depth - 1) a.e a.via n.sum n.over n.j n.invariant (omega arith),
          omega arith,
        ),
      ),
    )

pub element_load-overflow_add-sum : goal.element_load-overflow_add-sum
element_load-overflow_add-sum t c =
    let a = c.args in
    let n = c.loop-j in
    let room = turn_room_by _ _ _ _ _ _ _ _ c.requires.lent (a.depth - 1) a.e a.via n.sum n.over n.j n.invariant (omega arith)
    a.depth c.link_load-c.result (omega arith) (omega arith) (omega arith) c.link_load-c.ensures in
    omega arith

pub element_load-bounds-lists-j : goal.element_load-bounds-lists-j
element_load-bounds-lists-j t c =
    let a = c.args in
    let n = c.loop-j in
    let below = turn_below _ _ _ _ _ _ _ _ c.requires.lent (a.depth - 1) a.e a.via n.sum n.over n.j n.invariant (omega arith) in
    omega arith

pub element_load-loop-j-smaller : goal.element_load-loop-j-smaller
element_load-loop-j-smaller t c =
    let a = c.args in
    let n = c.loop-j in
    let later = turn_later _ _ _ _ _ _ _ _ c.requires.lent (a.depth - 1) a.e a.via n.sum n.over n.j n.invariant (omega arith) in
    omega arith

pub element_load-loop-j-preserved : goal.element_load-loop-j-preserved
element_load-loop-j-preserved t c =
    let a = c.args in
    let n = c.loop-j in
    let sum = c.if-lists-l-eq1.sum in
    let over = c.if-lists-l-eq1.over in
    (elim c.if-lists-l-eq1.branch [
      | element_load-then-lists-l-eq1+then-l-via w ↦ turn_on _ _ _ _ _ _ _ _ c.requires.lent (a.depth - 1) a.e a.via n.sum n.over n.j n.invariant (omega arith)
          w.link_load-c.result sum over (omega arith) (omega arith) w.link_load-c.ensures (omega arith) (omega arith)
      | element_load-then-lists-l-eq1+else-l-via w ↦ turn_via _ _ _ _ _ _ _ _ c.requires.lent (a.depth - 1) a.e a.via n.sum n.over n.j n.invariant (omega arith)
          sum over (omega arith) (omega arith) (omega arith)
      | element_load-else-lists-l-eq1 w ↦ turn_open _ _ _ _ _ _ _ _ c.requires.lent (a.depth - 1) a.e a.via n.sum n.over n.j n.invariant (omega arith)
          sum over (omega arith) (omega arith) (omega arith)
    ])

pub element_load-lower_over-over-requires-2 : goal.element_load-lower_over-over-requires-2
element_load-lower_over-over-requires-2 t c =
    let a = c.args in
    let n = c.loop-j in
    omega (
      arith,
      c.requires.via_bound,
      turn_sum _ _ _ _ _ _ _ _ c.requires.lent (a.depth - 1) a.e a.via n.sum n.over n.j n.invariant a.depth (omega arith) (omega arith),
    )

pub element_load-returns : goal.element_load-returns
element_load-returns t c =
    let a = c.args in
    let n = c.loop-j in
    turn_done _ _ _ _ _ _ _ _ c.requires.lent (a.depth - 1) a.e a.via n.sum n.over n.j n.invariant
    a.depth c.lower_over-over-2.result (omega arith) (omega arith) c.lower_over-over-2.ensures

pub link_load-returns-then-depth-eq0 : goal.link_load-returns-then-depth-eq0
link_load-returns-then-depth-eq0 t c =
    let a = c.args in
    link_turn_none _ _ _ _ _ _ _ _ c.requires.lent a.depth (a.j / 2) (near_at a.lists.now.far.now a.j) (omega arith)

pub link_load-element_load-requires : goal.link_load-element_load-requires
link_load-element_load-requires t c =
    let a = c.args in
    let same = link_turn_load _ _ _ _ _ _ _ _ c.requires.lent (a.depth - 1) a.depth a.j (omega arith) (omega arith) in
    (omega arith, (c.requires.lent, (c.requires.lent.far_in a.j (omega arith), omega arith)))

pub link_load-returns : goal.link_load-returns
link_load-returns t c =
    let a = c.args in
    link_turn _ _ _ _ _ _ _ _ c.requires.lent (a.depth - 1) a.depth a.j c.element_load.result (omega arith) (omega arith) c.element_load.ensures
