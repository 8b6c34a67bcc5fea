-- `falls_short` meets its contract: what is asked and what is borne are the network's.
use mathlib.Core.Path.{sym}
use Rattle.feeding_restoration.proofs.Reach.{bits_long}
use Rattle.feeding_start.proofs.Starts.{restorable_of}
use Rattle.plan_candidates.proofs.Short.{demand_reach, supply_reach, short_is}
use Rattle.plan_candidates.proofs.falls_short.Goals as goal

pub slice_bounds-demand_of-end : goal.slice_bounds-demand_of-end
slice_bounds-demand_of-end c =
    let the-args = c.args in
    let pre· = c.requires in
    sym (bits_long _ _ _ (restorable_of the-args.start _ pre·.made))

pub demand_of-asked-requires : goal.demand_of-asked-requires
demand_of-asked-requires c =
    let the-args = c.args in
    let pre· = c.requires in
    demand_reach the-args.start pre·

pub demand_of-borne-requires : goal.demand_of-borne-requires
demand_of-borne-requires c =
    let the-args = c.args in
    let pre· = c.requires in
    supply_reach the-args.start pre·

pub returns : goal.returns
returns c =
    short_is c.args.start c.requires c.demand_of-asked.ensures c.demand_of-borne.ensures
