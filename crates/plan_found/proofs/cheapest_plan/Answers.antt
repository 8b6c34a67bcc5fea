-- The cheapest set's plan, or none: the set is what the recursion over all sets chooses.
use mathlib.Core.Path.{refl, sym, ◌∙◌}
use Rattle.feeding_restoration.proofs.Reach.{bits_long}
use Rattle.feeding_start.proofs.Starts.{operable_of}
use Rattle.plan_cheapest.proofs.Works.{switches_asked, switches_are, found_small}
use Rattle.plan_cheapest.proofs.Option.{some_found, no_set}
use Rattle.plan_found.proofs.Sets.{own_cost, plan_found_lem, none_found}
use Rattle.plan_found.proofs.cheapest_plan.Goals as goal

pub slice_bounds-switches_of-end : goal.slice_bounds-switches_of-end
slice_bounds-switches_of-end c =
    sym (bits_long _ _ _ (operable_of c.args.start _ c.requires.made))

pub switches_of-switches-requires : goal.switches_of-switches-requires
switches_of-switches-requires c =
    let pre· = c.requires in
    record { well_formed = pre·.formed; operable_len = switches_asked c.args.start pre· }

pub cheapest_set-requires : goal.cheapest_set-requires
cheapest_set-requires c =
    let pre· = c.requires in
    let the-args = c.args in
    record { searchable = pre·; switches_value = switches_are the-args.start pre· c.switches_of-switches.ensures }

pub plan_of_set-requires : goal.plan_of_set-requires
plan_of_set-requires c =
    let found = some_found _ _ (sym c.cheapest_set.ensures ∙ c.in_ok-best.was) in
    record {
      searchable = c.requires;
      switches_value = switches_are c.args.start c.requires c.switches_of-switches.ensures;
      set_bound = found_small c.args.start c.requires found.0;
      cost_value = own_cost c.args.start c.requires _ found.0 found.1;
    }

pub returns-in_err-best : goal.returns-in_err-best
returns-in_err-best c =
    none_found c.args.start c.requires _ refl _ c.from_residual.ensures (no_set _ (sym c.cheapest_set.ensures ∙ c.in_err-best.was))

pub returns : goal.returns
returns c =
    let found = some_found _ _ (sym c.cheapest_set.ensures ∙ c.in_ok-best.was) in
    plan_found_lem c.args.start c.requires _ found.0 c.plan_of_set.result found.1 c.plan_of_set.ensures
