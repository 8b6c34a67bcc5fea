-- `loads_fit` meets its contract. The loop's invariant: the walks from the first j sources fit.
use mathlib.Core.Path.{◌≡◌}
use mathlib.Core.Bool.{true}
use Rattle.feeding.specs.Below.{all_to}
use Rattle.plan_search.specs.Searching.{source_fits}
use Rattle.plan_search.proofs.loads_fit.Given as goal

abbrev pub invariant-loop-j : goal.invariant-loop-j
invariant-loop-j l =
    true ≡ all_to l.j (source_fits l.setting l.states)
