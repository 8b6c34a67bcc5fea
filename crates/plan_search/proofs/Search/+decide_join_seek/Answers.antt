-- The proof of the cycle of calls {decide, join, seek}: each return is a law of `Cases`.
-- The measure is three times the number of switches that may be left, for `join` one more than that behind its switch, and for `decide` two.
use mathlib.Core.Path.{refl, sym, ap, ◌∙◌}
use native.Mathlib.Omega.{arith}
use Prim.Native.Nat.{◌%◌, ◌<◌}
use Rattle.feeding.specs.Networks.{at}
use borrow.Author.Tests.{not-false}
use Rattle.plan_switches.proofs.Columns.{turned_open, turned_closed}
use Rattle.plan_supply.proofs.Joining.{light_next, light_same, light_sum, light_join}
use Rattle.plan_search.specs.declared.Search.{Search}
use Rattle.plan_search.proofs.Placing.{placed_open, placed_closed, placed_next, lent_here}
use Rattle.plan_search.proofs.Cases.{set_small, added_most, cost_small, seeks_operated, seeks_left, few_leaves, dear_leaves, failed_leaves, taken_leaves, both_leave, open_leaves, closed_leaves, root_a_in, root_b_in, lower_in, higher_in, join_seeks, loop_leaves, clash_leaves, heavy_leaves, join_undone}
use Rattle.plan_search.proofs.Search.+decide_join_seek.Goals as goal

pub decide-seek-requires : goal.decide-seek-requires
decide-seek-requires t c =
    let few : c.args.i < c.args.setting.now.switches.count = omega (arith, c.requires.seeks.reached) in
    (omega (arith, c.args.setting.now.settled.columns.reach.fit), (c.requires.seeks, (placed_open c.args.setting.now c.args.self.now.states c.args.i c.args.set c.requires.placed few (sym (turned_open (at c.args.setting.now.switches.closed c.args.i) (c.args.set % 2) (omega arith))), light_next c.args.self.now.spare c.args.i c.requires.light c.args.self.now.spare refl)))

pub decide-returns-then-setting-i : goal.decide-returns-then-setting-i
decide-returns-then-setting-i t c =
    open_leaves c.args.setting.now c.args.self.now c.args.i c.args.fed c.args.set (omega (arith, c.requires.seeks.reached)) c.seek.new.self (omega arith) c.seek.ensures

pub decide-join-requires : goal.decide-join-requires
decide-join-requires t c =
    (omega arith, (c.requires.seeks, (c.requires.placed, (c.requires.light, (c.requires.fed_le_i, sym (turned_closed (at c.args.setting.now.switches.closed c.args.i) (c.args.set % 2) (omega arith)))))))

pub decide-returns : goal.decide-returns
decide-returns t c =
    closed_leaves c.args.setting.now c.args.self.now c.args.i c.args.fed c.args.set (omega (arith, c.requires.seeks.reached)) c.join.new.self (omega arith) c.join.ensures

pub join-returns-then-x-y : goal.join-returns-then-x-y
join-returns-then-x-y t c =
    loop_leaves c.args.setting.now c.args.self.now c.args.i c.args.fed c.args.set c.args.cost c.requires.seeks c.root-x.result c.root-y.result c.root-x.ensures c.root-y.ensures (omega arith)

pub join-bounds-self-x : goal.join-bounds-self-x
join-bounds-self-x t c =
    root_a_in c.args.setting.now c.args.self.now c.args.i c.args.fed c.args.set c.args.cost c.requires.seeks c.root-x.result c.root-y.result c.root-x.ensures c.root-y.ensures

pub join-bounds-self-x-2 : goal.join-bounds-self-x-2
join-bounds-self-x-2 t c =
    root_a_in c.args.setting.now c.args.self.now c.args.i c.args.fed c.args.set c.args.cost c.requires.seeks c.root-x.result c.root-y.result c.root-x.ensures c.root-y.ensures

pub join-offset_bounds-self-x : goal.join-offset_bounds-self-x
join-offset_bounds-self-x t c =
    omega (arith, root_a_in c.args.setting.now c.args.self.now c.args.i c.args.fed c.args.set c.args.cost c.requires.seeks c.root-x.result c.root-y.result c.root-x.ensures c.root-y.ensures)

pub join-bounds-self-y : goal.join-bounds-self-y
join-bounds-self-y t c =
    root_b_in c.args.setting.now c.args.self.now c.args.i c.args.fed c.args.set c.args.cost c.requires.seeks c.root-x.result c.root-y.result c.root-x.ensures c.root-y.ensures

pub join-bounds-self-y-2 : goal.join-bounds-self-y-2
join-bounds-self-y-2 t c =
    root_b_in c.args.setting.now c.args.self.now c.args.i c.args.fed c.args.set c.args.cost c.requires.seeks c.root-x.result c.root-y.result c.root-x.ensures c.root-y.ensures

pub join-offset_bounds-self-y : goal.join-offset_bounds-self-y
join-offset_bounds-self-y t c =
    omega (arith, root_b_in c.args.setting.now c.args.self.now c.args.i c.args.fed c.args.set c.args.cost c.requires.seeks c.root-x.result c.root-y.result c.root-x.ensures c.root-y.ensures)

pub join-returns-then-clashing : goal.join-returns-then-clashing
join-returns-then-clashing t c =
    clash_leaves c.args.setting.now c.args.self.now c.args.i c.args.fed c.args.set c.args.cost c.requires.seeks c.root-x.result c.root-y.result c.root-x.ensures c.root-y.ensures (omega arith) (sym c.clashing.ensures ∙ c.if-clashing.true)

pub join-returns-then-overburdened : goal.join-returns-then-overburdened
join-returns-then-overburdened t c =
    heavy_leaves c.args.setting.now c.args.self.now c.args.i c.args.fed c.args.set c.args.cost c.requires.seeks c.root-x.result c.root-y.result c.root-x.ensures c.root-y.ensures (omega arith) (sym c.clashing.ensures ∙ c.if-clashing.false) (sym c.overburdened.ensures ∙ c.if-overburdened.true)

pub join-bounds-self-lo : goal.join-bounds-self-lo
join-bounds-self-lo t c =
    lower_in c.args.setting.now c.args.self.now c.args.i c.args.fed c.args.set c.args.cost c.requires.seeks c.root-x.result c.root-y.result c.root-x.ensures c.root-y.ensures c.min-lo.result c.min-lo.ensures

pub join-bounds-self-lo-2 : goal.join-bounds-self-lo-2
join-bounds-self-lo-2 t c =
    lower_in c.args.setting.now c.args.self.now c.args.i c.args.fed c.args.set c.args.cost c.requires.seeks c.root-x.result c.root-y.result c.root-x.ensures c.root-y.ensures c.min-lo.result c.min-lo.ensures

pub join-bounds-self-lo-3 : goal.join-bounds-self-lo-3
join-bounds-self-lo-3 t c =
    lower_in c.args.setting.now c.args.self.now c.args.i c.args.fed c.args.set c.args.cost c.requires.seeks c.root-x.result c.root-y.result c.root-x.ensures c.root-y.ensures c.min-lo.result c.min-lo.ensures

pub join-bounds-self-lo-4 : goal.join-bounds-self-lo-4
join-bounds-self-lo-4 t c =
    lower_in c.args.setting.now c.args.self.now c.args.i c.args.fed c.args.set c.args.cost c.requires.seeks c.root-x.result c.root-y.result c.root-x.ensures c.root-y.ensures c.min-lo.result c.min-lo.ensures

pub join-bounds-self-lo-5 : goal.join-bounds-self-lo-5
join-bounds-self-lo-5 t c =
    lower_in c.args.setting.now c.args.self.now c.args.i c.args.fed c.args.set c.args.cost c.requires.seeks c.root-x.result c.root-y.result c.root-x.ensures c.root-y.ensures c.min-lo.result c.min-lo.ensures

pub join-bounds-self-lo-6 : goal.join-bounds-self-lo-6
join-bounds-self-lo-6 t c =
    lower_in c.args.setting.now c.args.self.now c.args.i c.args.fed c.args.set c.args.cost c.requires.seeks c.root-x.result c.root-y.result c.root-x.ensures c.root-y.ensures c.min-lo.result c.min-lo.ensures

pub join-offset_bounds-self-lo : goal.join-offset_bounds-self-lo
join-offset_bounds-self-lo t c =
    omega (arith, lower_in c.args.setting.now c.args.self.now c.args.i c.args.fed c.args.set c.args.cost c.requires.seeks c.root-x.result c.root-y.result c.root-x.ensures c.root-y.ensures c.min-lo.result c.min-lo.ensures)

pub join-offset_bounds-self-lo-2 : goal.join-offset_bounds-self-lo-2
join-offset_bounds-self-lo-2 t c =
    omega (arith, lower_in c.args.setting.now c.args.self.now c.args.i c.args.fed c.args.set c.args.cost c.requires.seeks c.root-x.result c.root-y.result c.root-x.ensures c.root-y.ensures c.min-lo.result c.min-lo.ensures)

pub join-offset_bounds-self-lo-3 : goal.join-offset_bounds-self-lo-3
join-offset_bounds-self-lo-3 t c =
    omega (arith, lower_in c.args.setting.now c.args.self.now c.args.i c.args.fed c.args.set c.args.cost c.requires.seeks c.root-x.result c.root-y.result c.root-x.ensures c.root-y.ensures c.min-lo.result c.min-lo.ensures)

pub join-overflow_cast-self : goal.join-overflow_cast-self
join-overflow_cast-self t c =
    omega (arith, lower_in c.args.setting.now c.args.self.now c.args.i c.args.fed c.args.set c.args.cost c.requires.seeks c.root-x.result c.root-y.result c.root-x.ensures c.root-y.ensures c.min-lo.result c.min-lo.ensures)

pub join-overflow_cast-self-2 : goal.join-overflow_cast-self-2
join-overflow_cast-self-2 t c =
    omega (arith, higher_in c.args.setting.now c.args.self.now c.args.i c.args.fed c.args.set c.args.cost c.requires.seeks c.root-x.result c.root-y.result c.root-x.ensures c.root-y.ensures c.max-hi.result c.max-hi.ensures)

pub join-bounds-self-hi : goal.join-bounds-self-hi
join-bounds-self-hi t c =
    higher_in c.args.setting.now c.args.self.now c.args.i c.args.fed c.args.set c.args.cost c.requires.seeks c.root-x.result c.root-y.result c.root-x.ensures c.root-y.ensures c.max-hi.result c.max-hi.ensures

pub join-bounds-self-hi-2 : goal.join-bounds-self-hi-2
join-bounds-self-hi-2 t c =
    higher_in c.args.setting.now c.args.self.now c.args.i c.args.fed c.args.set c.args.cost c.requires.seeks c.root-x.result c.root-y.result c.root-x.ensures c.root-y.ensures c.max-hi.result c.max-hi.ensures

pub join-carried_on-requires : goal.join-carried_on-requires
join-carried_on-requires t c =
    record { b_value = not-false _ (sym c.overburdened.ensures ∙ c.if-overburdened.false); b_bound = light_sum c.args.self.now.spare c.args.i c.requires.light c.root-x.result c.root-y.result _ _ (omega (arith, c.requires.seeks.reached, c.args.setting.now.settled.columns.reach.fit)) refl refl }

pub join-seek-requires : goal.join-seek-requires
join-seek-requires t c =
    let few : c.args.i < c.args.setting.now.switches.count = omega (arith, c.requires.seeks.reached) in
    (omega (arith, c.args.setting.now.settled.columns.reach.fit), (join_seeks c.args.setting.now c.args.self.now c.args.i c.args.fed c.args.set c.args.cost c.requires.seeks c.root-x.result c.root-y.result c.root-x.ensures c.root-y.ensures c.min-lo.result c.max-hi.result c.held_together.result c.carried_on.result (at c.args.setting.now.switches.link c.args.i) c.served_by.result (omega arith) c.min-lo.ensures c.max-hi.ensures c.served_by.ensures c.requires.fed_le_i, (placed_closed c.args.setting.now c.args.self.now.states c.args.i c.args.set c.requires.placed few c.requires.shut, light_join c.args.self.now.spare c.args.i c.requires.light c.root-x.result c.root-y.result _ _ c.min-lo.result c.carried_on.result c.carried_on.ensures (lower_in c.args.setting.now c.args.self.now c.args.i c.args.fed c.args.set c.args.cost c.requires.seeks c.root-x.result c.root-y.result c.root-x.ensures c.root-y.ensures c.min-lo.result c.min-lo.ensures))))

pub join-returns : goal.join-returns
join-returns t c =
    join_undone c.args.setting.now c.args.self.now c.args.i c.args.fed c.args.set c.args.cost c.requires.seeks c.root-x.result c.root-y.result c.root-x.ensures c.root-y.ensures (omega arith) (sym c.clashing.ensures ∙ c.if-clashing.false) (not-false _ (sym c.overburdened.ensures ∙ c.if-overburdened.false)) c.min-lo.result c.max-hi.result c.held_together.result c.served_by.result c.carried_on.result c.min-lo.ensures c.max-hi.ensures c.held_together.ensures c.served_by.ensures c.carried_on.ensures c.requires.placed (omega (arith, c.requires.seeks.reached)) c.seek.new.self _ _ _ _ refl refl refl refl c.seek.ensures

pub seek-returns-then-fed-left : goal.seek-returns-then-fed-left
seek-returns-then-fed-left t c =
    few_leaves c.args.setting.now c.args.self.now c.args.i c.args.fed c.args.set c.requires.seeks.reached (omega arith)

pub seek-returns-then-self-cost : goal.seek-returns-then-self-cost
seek-returns-then-self-cost t c =
    dear_leaves c.args.setting.now c.args.self.now c.args.i c.args.fed c.args.set c.requires.seeks.reached (omega arith) c.args.cost c.requires.seeks.cost_is (omega arith)

pub seek-loads_fit-requires : goal.seek-loads_fit-requires
seek-loads_fit-requires t c =
    lent_here c.args.setting.now c.args.self.now.states c.args.i c.args.set c.requires.placed (omega (arith, c.requires.seeks.reached))

pub seek-returns-then-loads_fit : goal.seek-returns-then-loads_fit
seek-returns-then-loads_fit t c =
    taken_leaves c.args.setting.now c.args.self.now c.args.i c.args.fed c.args.set c.requires.seeks.reached (omega arith) c.args.cost c.requires.seeks.cost_is (omega arith) (omega arith) c.requires.placed c.loads_fit.result c.loads_fit.ensures c.if-loads_fit.true

pub seek-returns-else-loads_fit : goal.seek-returns-else-loads_fit
seek-returns-else-loads_fit t c =
    failed_leaves c.args.setting.now c.args.self.now c.args.i c.args.fed c.args.set c.requires.seeks.reached (omega arith) c.args.cost c.requires.seeks.cost_is (omega arith) (omega arith) c.requires.placed c.loads_fit.result c.loads_fit.ensures c.if-loads_fit.false

pub seek-overflow_add-more : goal.seek-overflow_add-more
seek-overflow_add-more t c =
    omega (arith, cost_small c.args.setting.now c.args.self.now c.args.i c.args.fed c.args.set c.args.cost c.requires.seeks, c.added_by.ensures, added_most c.args.setting.now c.args.self.now c.args.i c.args.fed c.args.set c.args.cost c.requires.seeks c.args.i c.args.set (omega (arith, c.requires.seeks.reached)))

pub seek-overflow_mul-t : goal.seek-overflow_mul-t
seek-overflow_mul-t t c =
    omega (arith, set_small c.args.setting.now c.args.self.now c.args.i c.args.fed c.args.set c.args.cost c.requires.seeks)

pub seek-decide-requires : goal.seek-decide-requires
seek-decide-requires t c =
    (omega (arith, c.args.setting.now.settled.columns.reach.fit), (seeks_operated c.args.setting.now c.args.self.now c.args.i c.args.fed c.args.set c.args.cost c.requires.seeks _ _ (omega arith) (omega arith) (omega (arith, c.added_by.ensures)), (placed_next c.args.setting.now c.args.self.now.states c.args.i c.args.set c.requires.placed c.args.self.now.states _ refl (omega arith), (c.requires.light, c.requires.seeks.served_few))))

pub seek-decide-requires-2 : goal.seek-decide-requires-2
seek-decide-requires-2 t c =
    (omega (arith, c.args.setting.now.settled.columns.reach.fit), (seeks_left c.args.setting.now c.args.self.now c.args.i c.args.fed c.args.set c.args.cost c.requires.seeks _ c.decide.new.self _ c.decide.ensures (omega (arith, c.requires.seeks.reached)) (omega arith), (placed_next c.args.setting.now c.args.self.now.states c.args.i c.args.set c.requires.placed c.decide.new.self.states _ (ap (λ (x : Search). x.states) c.decide.ensures) (omega arith), (light_same c.args.self.now.spare c.args.i c.requires.light c.decide.new.self.spare (ap (λ (x : Search). x.spare) c.decide.ensures), c.requires.seeks.served_few))))

pub seek-returns : goal.seek-returns
seek-returns t c =
    both_leave c.args.setting.now c.args.self.now c.args.i c.args.fed c.args.set c.requires.seeks.reached (omega arith) c.args.cost c.requires.seeks.cost_is c.decide.new.self c.decide-2.new.self (omega arith) (omega (arith, c.requires.seeks.reached)) c.decide.ensures c.decide-2.ensures
