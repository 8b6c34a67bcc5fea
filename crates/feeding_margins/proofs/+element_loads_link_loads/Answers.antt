-- `element_loads` and `link_loads` answer the load and store those on the way: a walk over the element's own ends; each call takes one off the depth.
use mathlib.Core.Path.{◌∙◌}
use Prim.Native.Nat.{◌-◌, ◌/◌}
use native.Mathlib.Omega.{arith}
use Rattle.feeding_loads.specs.Walks.{near_at}
use Rattle.feeding_loads.proofs.Lending.{link_turn_load}
use Rattle.feeding_margins.proofs.Rounds.{store_start, store_load, store_done, store_open, store_via, store_on, store_below, store_later, store_room}
use Rattle.feeding_margins.proofs.Rounds.{none_load, none_stored, link_none_load, link_none_stored, link_stored_lem}
use Rattle.feeding_margins.proofs.+element_loads_link_loads.Goals as goal
use Rattle.feeding_margins.proofs.+element_loads_link_loads.Goals.{element_loads-else-lists-l-eq1, element_loads-then-lists-l-eq1+else-l-via, element_loads-then-lists-l-eq1+then-l-via}

pub element_loads-returns-then-depth-eq0 : goal.element_loads-returns-then-depth-eq0
element_loads-returns-then-depth-eq0 t c =
    let a = c.args in
    record { value = none_load _ _ _ _ _ _ _ c.requires.lent a.loads.now a.depth a.e a.via (omega arith); loads_after = none_stored _ _ _ _ _ _ _ c.requires.lent a.loads.now a.depth a.e a.via (omega arith) }

pub element_loads-loop-j-init : goal.element_loads-loop-j-init
element_loads-loop-j-init t c =
    let a = c.args in
    store_start _ _ _ _ _ _ _ c.requires.lent (a.depth - 1) a.e a.via a.loads.now (omega arith)

pub element_loads-bounds-lists-l : goal.element_loads-bounds-lists-l
element_loads-bounds-lists-l t c =
    let a = c.args in
    let n = c.loop-j in
    let below = store_below _ _ _ _ _ _ _ c.requires.lent (a.depth - 1) a.e a.via a.loads.now n.sum n.loads n.j n.invariant (omega arith) in omega arith

pub element_loads-link_loads-sum-requires : goal.element_loads-link_loads-sum-requires
element_loads-link_loads-sum-requires t c =
    let a = c.args in
    let n = c.loop-j in
    let room = store_room _ _ _ _ _ _ _ c.requires.lent (a.depth - 1) a.e a.via a.loads.now n.sum n.loads n.j n.invariant (omega arith) a.depth (omega arith) (omega arith) (omega arith) in
    (omega arith, (c.requires.lent, ((store_below _ _ _ _ _ _ _ c.requires.lent (a.depth - 1) a.e a.via a.loads.now n.sum n.loads n.j n.invariant (omega arith), omega arith), omega arith)))

pub element_loads-overflow_add-sum : goal.element_loads-overflow_add-sum
element_loads-overflow_add-sum t c =
    let a = c.args in
    let n = c.loop-j in
    let room = store_room _ _ _ _ _ _ _ c.requires.lent (a.depth - 1) a.e a.via a.loads.now n.sum n.loads n.j n.invariant (omega arith) a.depth (omega arith) (omega arith) (omega arith) in
    omega (arith, c.link_loads-sum.ensures.value)

pub element_loads-bounds-lists-j : goal.element_loads-bounds-lists-j
element_loads-bounds-lists-j t c =
    let a = c.args in
    let n = c.loop-j in
    let below = store_below _ _ _ _ _ _ _ c.requires.lent (a.depth - 1) a.e a.via a.loads.now n.sum n.loads n.j n.invariant (omega arith) in omega arith

pub element_loads-loop-j-smaller : goal.element_loads-loop-j-smaller
element_loads-loop-j-smaller t c =
    let a = c.args in
    let n = c.loop-j in
    let later = store_later _ _ _ _ _ _ _ c.requires.lent (a.depth - 1) a.e a.via a.loads.now n.sum n.loads n.j n.invariant (omega arith) in omega arith

pub element_loads-loop-j-preserved : goal.element_loads-loop-j-preserved
element_loads-loop-j-preserved t c =
    let a = c.args in
    let n = c.loop-j in
    (elim c.if-lists-l-eq1.branch [ element_loads-then-lists-l-eq1+then-l-via w ↦ store_on _ _ _ _ _ _ _ c.requires.lent (a.depth - 1) a.e a.via a.loads.now n.sum n.loads n.j n.invariant (omega arith) w.link_loads-sum.result c.if-lists-l-eq1.sum c.if-lists-l-eq1.loads (omega arith) (omega arith) w.link_loads-sum.ensures.value (omega (arith, w.sum-is)) (w.loads-is ∙ w.link_loads-sum.ensures.loads_after) | element_loads-then-lists-l-eq1+else-l-via w ↦ store_via _ _ _ _ _ _ _ c.requires.lent (a.depth - 1) a.e a.via a.loads.now n.sum n.loads n.j n.invariant (omega arith) c.if-lists-l-eq1.sum c.if-lists-l-eq1.loads (omega arith) (omega (arith, w.sum-is)) w.loads-is | element_loads-else-lists-l-eq1 w ↦ store_open _ _ _ _ _ _ _ c.requires.lent (a.depth - 1) a.e a.via a.loads.now n.sum n.loads n.j n.invariant (omega arith) c.if-lists-l-eq1.sum c.if-lists-l-eq1.loads (omega arith) (omega (arith, w.sum-is)) w.loads-is ])

pub element_loads-returns : goal.element_loads-returns
element_loads-returns t c =
    let a = c.args in
    let n = c.loop-j in
    record { value = store_load _ _ _ _ _ _ _ c.requires.lent (a.depth - 1) a.e a.via a.loads.now n.sum n.loads n.j n.invariant a.depth (omega arith) (omega arith); loads_after = store_done _ _ _ _ _ _ _ c.requires.lent (a.depth - 1) a.e a.via a.loads.now n.sum n.loads n.j n.invariant a.depth (omega arith) (omega arith) }

pub link_loads-returns-then-depth-eq0 : goal.link_loads-returns-then-depth-eq0
link_loads-returns-then-depth-eq0 t c =
    let a = c.args in
    record { value = link_none_load _ _ _ _ _ _ _ c.requires.lent a.loads.now a.depth (a.j / 2) (near_at a.lists.now.far.now a.j) (omega arith); loads_after = link_none_stored _ _ _ _ _ _ _ c.requires.lent a.loads.now a.depth (a.j / 2) (near_at a.lists.now.far.now a.j) (omega arith) }

pub link_loads-element_loads-requires : goal.link_loads-element_loads-requires
link_loads-element_loads-requires t c =
    let a = c.args in
    let same = link_turn_load _ _ _ _ _ _ _ _ c.requires.lent (a.depth - 1) a.depth a.j (omega arith) (omega arith) in
    (omega arith, (c.requires.lent, ((c.requires.lent.far_in a.j (omega arith), omega arith), omega arith)))

pub link_loads-returns : goal.link_loads-returns
link_loads-returns t c =
    let a = c.args in
    record { value = c.element_loads.ensures.value ∙ link_turn_load _ _ _ _ _ _ _ _ c.requires.lent (a.depth - 1) a.depth a.j (omega arith) (omega arith); loads_after = c.element_loads.ensures.loads_after ∙ link_stored_lem _ _ _ _ _ _ _ c.requires.lent a.loads.now (a.depth - 1) a.depth a.j (omega arith) (omega arith) }
