-- What is chained and lumped before sets of switches are tried: the links that a set can leave closed, and the spurs among them, layer by layer.
-- Internal: no promise to a user is said by it.
-- Assumes nothing.
use Rattle.std.specs.Prelude.{true, false, List, ℕ, zero, suc, ltb, replicate}
use Rattle.network.specs.declared.Network.{Network}
use Rattle.feeding.specs.Networks.{at, is_in}
use Rattle.feeding_ends.specs.declared.OwnEnds.{OwnEnds}
use Rattle.feeding_ends.specs.Ends.{own_ends}
use Rattle.plan_switches.specs.Switches.{with_set}
use Rattle.plan_spurs.specs.declared.Lumped.{Lumped}
use Rattle.plan_spurs.specs.Spurs.{lumped_to}

-- the links that a set can leave closed: those in `base`, and the switches
unfoldable pub closable_in : (base link : List ℕ) (count : ℕ) → List ℕ
closable_in base link count = with_set (at link) (at (replicate 16 1)) count 0 base

-- their chained ends
unfoldable pub closable_ends : (from to : List ℕ) (links : ℕ) (link : List ℕ) (count : ℕ) (base : List ℕ) → OwnEnds
closable_ends from to links link count base = own_ends (at from) (at to) (is_in (closable_in base link count)) links

-- how many layers are lumped where sets of n switches are to be tried
unfoldable pub layers_for : ℕ → ℕ
layers_for n = elim (ltb n 10) [ true ↦ 0 | false ↦ 4 ]

-- that many layers of spurs lumped: what a spur hung from may be one in the next layer
unfoldable pub lumped_layers : Network → (link : List ℕ) (count : ℕ) (sound : List ℕ) → Lumped → ℕ → Lumped
lumped_layers n link count sound s zero = s
lumped_layers n link count sound s (suc i) =
    let t = lumped_layers n link count sound s i in
    lumped_to (closable_ends n.from n.to n.links link count t.base) sound n.capacity t n.elements
