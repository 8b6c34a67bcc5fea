-- `Setting::new` meets its contract, and what it makes is settled: the numbers of the parts are small.
use native.Mathlib.Omega.{arith}
use Rattle.plan_setting.proofs.Charges.{charges_small}
use Rattle.plan_setting.proofs.Filling.{few_members, listed_in}
use Rattle.plan_setting.proofs.Setting.new.Goals as goal

pub invariant_of-result : goal.invariant_of-result
invariant_of-result c =
    let a = c.args in
    let list = c.listed_sources-sources in
    let guards = c.guards_of-guards in
    record {
      settled = record {
        columns = c.requires.columns;
        charge_in_lem = charges_small a.guard.now a.cost.now a.walk.links a.switches.link a.switches.count guards.result guards.ensures c.fits-cost;
        want_in = c.requires.want_bound.0;
        sources_fit = omega (arith, c.requires.want_bound, list.ensures.count_is, few_members a.sound.now a.walk.elements);
        source_in = listed_in a.sound.now a.walk.elements list.result list.ensures;
        elements_fit = c.requires.want_bound.1.0;
        links_fit = c.requires.want_bound.1.1;
      };
    }
