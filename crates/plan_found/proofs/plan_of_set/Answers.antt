-- The plan of a set: the calls make its arrays, and these its printed form and its states.
use mathlib.Core.Path.{sym}
use native.Mathlib.Omega.{arith}
use Rattle.feeding_restoration.proofs.Reach.{bits_long}
use Rattle.feeding_start.proofs.Starts.{closed_of}
use Rattle.plan_cheapest.proofs.Works.{switches_reach}
use Rattle.plan_found.proofs.Sets.{operated_long, set_plan}
use Rattle.network.proofs.Pairs.{both}
use Rattle.plan_found.proofs.plan_of_set.Goals as goal

pub with_set-operated-requires : goal.with_set-operated-requires
with_set-operated-requires c =
    let the-args = c.args in
    let pre· = (both c.requires.searchable (both c.requires.switches_value c.requires.cost_value)) in
    switches_reach the-args.start pre·.0 pre·.1.0

pub with_set-closed-requires : goal.with_set-closed-requires
with_set-closed-requires c =
    let the-args = c.args in
    let pre· = (both c.requires.searchable (both c.requires.switches_value c.requires.cost_value)) in
    switches_reach the-args.start pre·.0 pre·.1.0

pub slice_bounds-printed_plan-end : goal.slice_bounds-printed_plan-end
slice_bounds-printed_plan-end c =
    sym (operated_long _ _ _ _ c.with_set-operated.ensures)

pub slice_bounds-printed_plan-end-2 : goal.slice_bounds-printed_plan-end-2
slice_bounds-printed_plan-end-2 c =
    let the-args = c.args in
    let pre· = (both c.requires.searchable (both c.requires.switches_value c.requires.cost_value)) in
    sym (bits_long _ _ _ (closed_of the-args.start _ pre·.0.made))

pub printed_plan-plan-requires : goal.printed_plan-plan-requires
printed_plan-plan-requires c =
    let pre· = (both c.requires.searchable (both c.requires.switches_value c.requires.cost_value)) in
    let the-args = c.args in
    (pre·.0.formed.links_fit, omega (arith, pre·.0.formed.links_fit, operated_long _ _ _ _ c.with_set-operated.ensures), omega (arith, pre·.0.formed.links_fit, bits_long _ _ _ (closed_of the-args.start _ pre·.0.made)))

pub returns : goal.returns
returns c =
    let the-args = c.args in
    let pre· = (both c.requires.searchable (both c.requires.switches_value c.requires.cost_value)) in
    set_plan the-args.start pre·.0 pre·.1.0 the-args.best.set c.with_set-operated.ensures c.with_set-closed.ensures _ _ pre·.1.1 c.printed_plan-plan.ensures
