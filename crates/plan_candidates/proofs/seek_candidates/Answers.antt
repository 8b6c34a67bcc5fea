-- `seek_candidates` tries all candidates: its calls make what the search starts from, and the search tries the sets from there.
use mathlib.Core.Path.{refl, ap, ◌∙◌}
use native.Mathlib.Omega.{arith}
use Rattle.plan_search.specs.declared.Search.{Search}
use Rattle.plan_candidates.proofs.Sought.{columns, start_seeks, start_placed, tried}
use Rattle.plan_candidates.proofs.seek_candidates.Goals as goal

pub new-setting-requires : goal.new-setting-requires
new-setting-requires c =
    let walked = c.requires.walked in
    let formed = c.requires.searchable.formed in
    record {
      columns = columns c.args.start c.requires.searchable c.args.switches c.requires.switches_value;
      want_bound = (c.origin_of-origin.ensures.few, (omega (arith, formed.elements_fit, walked.elements_are), omega (arith, formed.links_fit, walked.links_are)));
    }

pub seek-requires : goal.seek-requires
seek-requires c =
    let p = c.new-setting.ensures in
    let o = c.origin_of-origin in
    record {
      seeks = start_seeks c.args.start c.requires.searchable c.args.switches c.requires.switches_value p c.requires.walked o.result o.ensures refl c.args.best;
      placed = start_placed c.args.start c.requires.searchable c.args.switches c.requires.switches_value p c.requires.walked o.result o.ensures refl c.args.best;
      light = o.ensures.light;
    }

pub returns : goal.returns
returns c =
    ap (λ (x : Search). x.best) c.seek.ensures
    ∙ tried c.args.start c.requires.searchable c.args.switches c.requires.switches_value c.new-setting.ensures c.requires.walked
    c.origin_of-origin.result c.origin_of-origin.ensures refl c.args.best
