-- `lump_layers` lumps layer after layer: after i turns it has what the definition has after i layers.
use mathlib.Core.Path.{◌≡◌}
use Rattle.plan_lumping.specs.Layers.{lumped_layers}
use Rattle.plan_lumping.proofs.lump_layers.Given as goal

abbrev pub invariant-loop-i : goal.invariant-loop-i
invariant-loop-i l =
    l.lumped ≡ lumped_layers l.net l.link l.count l.sound l.initial.lumped l._i
