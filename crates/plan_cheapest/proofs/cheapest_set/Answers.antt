-- `cheapest_set` meets its contract: its calls make what a set's walks need, and the candidates tried in turn give the first cheapest of all sets that work.
use mathlib.Core.Path.{sym, ap, ◌∙◌}
use native.Mathlib.Omega.{arith}
use Rattle.feeding_restoration.proofs.Reach.{bits_long, bits_reach}
use Rattle.feeding_start.proofs.Starts.{closed_of, operable_of}
use Rattle.feeding_safety.proofs.Networks.{two_ends}
use Rattle.plan_problem.specs.Sets.{none}
use Rattle.plan_candidates.proofs.Short.{none_works}
use Rattle.plan_cheapest.proofs.Works.{lumped_long, switches_reach, based_on, gathered, walking, cheapest_found}
use Rattle.plan_cheapest.specs.Option.{found_by}
use Rattle.plan_cheapest.proofs.Option.{found_some, found_none}
use Rattle.network.proofs.Pairs.{both}
use Rattle.plan_cheapest.proofs.cheapest_set.Goals as goal

pub returns-then-falls_short : goal.returns-then-falls_short
unfolding none
returns-then-falls_short c =
    found_none none (omega arith) ∙ ap found_by (none_works c.args.start c.requires.searchable c.falls_short.result c.falls_short.ensures c.if-falls_short.true)

pub slice_bounds-except-end : goal.slice_bounds-except-end
slice_bounds-except-end c =
    let the-args = c.args in
    let pre· = (both c.requires.searchable c.requires.switches_value) in
    sym (bits_long _ _ _ (closed_of the-args.start _ pre·.0.made))

pub slice_bounds-except-end-2 : goal.slice_bounds-except-end-2
slice_bounds-except-end-2 c =
    let the-args = c.args in
    let pre· = (both c.requires.searchable c.requires.switches_value) in
    sym (bits_long _ _ _ (operable_of the-args.start _ pre·.0.made))

pub except-base-requires : goal.except-base-requires
except-base-requires c =
    let pre· = (both c.requires.searchable c.requires.switches_value) in
    let the-args = c.args in
    record { reach = bits_reach _ _ _ _ pre·.0.formed.links_fit (closed_of the-args.start _ pre·.0.made); reach_2 = bits_reach _ _ _ _ pre·.0.formed.links_fit (operable_of the-args.start _ pre·.0.made) }

pub lump_layers-lumped-requires : goal.lump_layers-lumped-requires
lump_layers-lumped-requires c =
    let pre· = (both c.requires.searchable c.requires.switches_value) in
    let the-args = c.args in
    record { well_formed = pre·.0.formed; switch_reach = (switches_reach the-args.start pre·.0 pre·.1, bits_long _ _ _ c.except-base.ensures) }

pub closable_ends-own-requires : goal.closable_ends-own-requires
closable_ends-own-requires c = let the-args = c.args in
    let pre· = (both c.requires.searchable c.requires.switches_value) in
    let long = (lumped_long the-args.start.net pre·.0.formed _ _ _ _ _ _ (bits_long _ _ _ c.except-base.ensures) c.lump_layers-lumped.ensures).0 in
    record { two_ends = two_ends the-args.start.net pre·.0.formed _ long; switch_reach = (switches_reach the-args.start pre·.0 pre·.1, long) }

pub seek_candidates-best-requires : goal.seek_candidates-best-requires
seek_candidates-best-requires c =
    let r = c.requires in
    record {
      searchable = r.searchable;
      switches_value = r.switches_value;
      base_value = based_on c.args.start r.searchable c.except-base.ensures;
      walked = walking c.args.start r.searchable
          (gathered c.args.start r.searchable r.switches_value c.except-base.ensures c.lump_layers-lumped.ensures c.closable_ends-own.ensures);
    }

pub returns-then-best-lt-NO_SET : goal.returns-then-best-lt-NO_SET
unfolding none
returns-then-best-lt-NO_SET c =
    let r = c.requires in
    found_some _ (omega (arith, c.if-best-lt-NO_SET)) ∙ ap found_by (cheapest_found c.args.start r.searchable
    (gathered c.args.start r.searchable r.switches_value c.except-base.ensures c.lump_layers-lumped.ensures c.closable_ends-own.ensures)
    c.seek_candidates-best.ensures)

pub returns : goal.returns
unfolding none
returns c =
    let r = c.requires in
    found_none _ (omega (arith, c.if-best-lt-NO_SET)) ∙ ap found_by (cheapest_found c.args.start r.searchable
    (gathered c.args.start r.searchable r.switches_value c.except-base.ensures c.lump_layers-lumped.ensures c.closable_ends-own.ensures)
    c.seek_candidates-best.ensures)
