-- The cost of the cheapest set is the least of any valid plan.
use mathlib.Core.Path.{refl, sym, ◌∙◌}
use Rattle.feeding_restoration.proofs.Reach.{bits_long}
use Rattle.feeding_start.proofs.Starts.{operable_of, begun_searchable}
use Rattle.plan_cheapest.proofs.Works.{switches_asked, switches_are}
use Rattle.plan_cheapest.proofs.Option.{some_found, no_set}
use Rattle.plan_least_cost.proofs.Costing.{cheapest_found, cheapest_none}
use Rattle.plan_least_cost.proofs.cheapest_cost.Goals as goal

pub slice_bounds-switches_of-end : goal.slice_bounds-switches_of-end
slice_bounds-switches_of-end c =
    sym (bits_long _ _ _ (operable_of c.args.start _ c.requires.made))

pub switches_of-switches-requires : goal.switches_of-switches-requires
switches_of-switches-requires c =
    let pre· = c.requires in
    let the-args = c.args in
    record { well_formed = pre·.formed; operable_len = switches_asked the-args.start (begun_searchable the-args.start pre·) }

pub cheapest_set-requires : goal.cheapest_set-requires
cheapest_set-requires c =
    let the-args = c.args in
    let pre· = c.requires in
    record { searchable = begun_searchable the-args.start pre·; switches_value = switches_are the-args.start (begun_searchable the-args.start pre·) c.switches_of-switches.ensures }

pub returns-in_err-best : goal.returns-in_err-best
returns-in_err-best c =
    rw c.from_residual.ensures (cheapest_none c.args.start c.requires _ refl (no_set _ (sym c.cheapest_set.ensures ∙ c.in_err-best.was)))

pub returns : goal.returns
returns c =
    let found = some_found _ _ (sym c.cheapest_set.ensures ∙ c.in_ok-best.was) in
    cheapest_found c.args.start c.requires _ found.0 _ refl found.1
