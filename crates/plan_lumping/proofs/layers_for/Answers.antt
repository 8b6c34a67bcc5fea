-- `layers_for` meets its contract by its one test.
use native.Mathlib.Omega.{arith}
use Rattle.plan_lumping.proofs.LayerByLayer.{few_layers, some_layers}
use Rattle.plan_lumping.proofs.layers_for.Goals as goal

pub returns-then-switches-lt-MANY_SWITCHES : goal.returns-then-switches-lt-MANY_SWITCHES
returns-then-switches-lt-MANY_SWITCHES c = few_layers c.args.switches (omega arith)

pub returns : goal.returns
returns c = some_layers c.args.switches (omega arith)
