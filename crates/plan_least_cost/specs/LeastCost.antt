-- What the cheapest valid plan costs: that of a valid plan, and no valid plan costs less.
-- Assumes nothing.
use Rattle.std.specs.Prelude.{List, ℕ, Option, Some, None, Result, Ok, Err}
use Rattle.network.specs.declared.Network.{Network}
use Rattle.network.specs.declared.refusal.Refusal.{Refusal}
use Rattle.feeding.specs.Networks.{Net, net_of}
use Rattle.feeding_acceptance.specs.Reading.{AcceptedNetwork, FirstRule}
use Rattle.plan_problem.specs.Choosing.{NoPlan, CostsLeast}

-- of an accepted network
abbrev pub CheapestIn : Net → Option ℕ → Type 0
CheapestIn net (Some c) = CostsLeast net c
CheapestIn net None = NoPlan net

-- of the bytes s
pub data CheapestFor (s : List ℕ) : Result (Option ℕ) Refusal → Type 0 where
  accepted : (n : Network) {r : Option ℕ} → AcceptedNetwork s n → CheapestIn (net_of n) r → CheapestFor s (Ok r)
  refused : {f : Refusal} → FirstRule s f → CheapestFor s (Err f)
