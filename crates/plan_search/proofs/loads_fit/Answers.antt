-- `loads_fit` meets its contract. The loop's invariant: the walks from the first j sources fit.
use native.Mathlib.Omega.{arith}
use Rattle.plan_search.proofs.Placing.{fits_none, fits_more, fits_not, fits_all}
use Rattle.plan_search.proofs.loads_fit.Goals as goal

pub loop-j-init : goal.loop-j-init
loop-j-init c =
    fits_none c.args.setting.now c.args.states.now

pub bounds-setting-j : goal.bounds-setting-j
bounds-setting-j c =
    omega (arith, c.args.setting.now.settled.sources_fit)

pub within_from-requires : goal.within_from-requires
within_from-requires c =
    let settled = c.args.setting.now.settled in
    record { walk_lent = c.requires; elements_bound = (settled.elements_fit, settled.source_in c.loop-j.j (omega arith)) }

pub returns-then-not-within_from : goal.returns-then-not-within_from
returns-then-not-within_from c =
    fits_not c.args.setting.now c.args.states.now c.loop-j.j c.within_from.result (omega arith) c.within_from.ensures c.if-not-within_from.true

pub loop-j-preserved : goal.loop-j-preserved
loop-j-preserved c =
    fits_more c.args.setting.now c.args.states.now c.loop-j.j c.within_from.result c.loop-j.invariant c.within_from.ensures c.if-not-within_from.false

pub returns : goal.returns
returns c =
    fits_all c.args.setting.now c.args.states.now c.loop-j.j c.loop-j.invariant (omega arith)
