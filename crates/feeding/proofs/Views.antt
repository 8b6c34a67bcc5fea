-- From the struct to the theory: a well-formed network has a well-formed grid, so the central theorem holds of its plans.
-- Assumes nothing.
use Prim.Native.Nat.{ℕ}
use native.Mathlib.Omega.{arith}
use mathlib.Core.Path.{◌≡◌}
use mathlib.Core.List.{List}
use lib.Dec.{eqb}
use lib.ListN.{length}
use Rattle.std.specs.Prelude.{Result, Ok}
use Rattle.network.specs.declared.refusal.Refusal.{Refusal}
use Rattle.network.specs.declared.Network.{Network}
use Rattle.network.specs.Accepted.{WellFormed}
use Rattle.feeding.specs.Acceptance.{Starts, Answered, not_a_tree, two_sources, fault_with_source, overloaded, too_many, accepted, answer_to}
use Rattle.feeding.specs.Networks.{Formed, at, grid_of, net_of}
use Rattle.feeding.specs.Plans.{Step, ValidPlan, Matched}
use Rattle.feeding.specs.Costs.{cost_of}
use Rattle.feeding.specs.Restoration.{FixedClosed, Operable, Restored, operables}
use Rattle.feeding.specs.Safety.{Safe}
use Rattle.feeding.specs.Tasks.{Lawful, restoration}
use Rattle.feeding.proofs.Answers.{operables_counted, operables_unique, acceptance_answered, answered_acceptance}
use Rattle.feeding.proofs.Below.{or_left}
use Rattle.feeding.proofs.Printed.{matched}
use Rattle.feeding.proofs.Tasks.{restoration_lawful}

pub formed_net : (n : Network) → WellFormed n → Formed (net_of n).grid
unfolding net_of grid_of
formed_net n w = record { end_a_lt = w.from_in; end_b_lt = w.to_in; differ = w.differ }

-- "Fixed links are always closed."
pub fixed_closed : (n : Network) → FixedClosed (net_of n) (net_of n).start_closed
unfolding net_of
fixed_closed n l k h = or_left (eqb (at n.form l) 0) _ h

-- document 01's task in a network that was read
pub lawful : (n : Network) → WellFormed n → Lawful (net_of n) (restoration (net_of n))
lawful n w = restoration_lawful (net_of n) (formed_net n w)

-- rules 14 to 18 of it
pub network_answered : (n : Network) → WellFormed n → Answered (net_of n) (answer_to n)
network_answered n w = acceptance_answered (net_of n) (formed_net n w) (restoration (net_of n)) (lawful n w)

pub answered_network : (n : Network) → WellFormed n → (a : Result Unit Refusal) → Answered (net_of n) a → a ≡ answer_to n
answered_network n w a h = answered_acceptance (net_of n) (formed_net n w) (restoration (net_of n)) (lawful n w) a h

-- an accepted network starts safe, and no more of its switches are operable than may be
pub accepted_starts : (n : Network) → WellFormed n → answer_to n ≡ Ok tt → Starts (net_of n)
accepted_starts n w e = go (answer_to n) (network_answered n w) e
  where
    go : (a : Result Unit Refusal) → Answered (net_of n) a → a ≡ Ok tt → Starts (net_of n)
    go _ (accepted {n = m} s o h) e =
        record { safe = s; few = omega (arith, operables_unique (Operable (net_of n)) m (length (operables (net_of n))) o (operables_counted (net_of n) (restoration (net_of n)) (lawful n w))) }
    go _ (not_a_tree _ _) e = let z : ◌≡◌ {A = ℕ} 0 1 = cc in absurd (omega arith)
    go _ (two_sources _ _ _) e = let z : ◌≡◌ {A = ℕ} 0 1 = cc in absurd (omega arith)
    go _ (fault_with_source _ _ _ _) e = let z : ◌≡◌ {A = ℕ} 0 1 = cc in absurd (omega arith)
    go _ (overloaded _ _ _ _ _) e = let z : ◌≡◌ {A = ℕ} 0 1 = cc in absurd (omega arith)
    go _ (too_many _ _ _) e = let z : ◌≡◌ {A = ℕ} 0 1 = cc in absurd (omega arith)

module _ (n : Network) (well : WellFormed n) (safe : Safe (net_of n).grid (net_of n).start_closed) (q : List Step) where
  -- a valid plan is matched by the printed form of what it leaves changed, which costs no more
  pub plan_matched : ValidPlan (net_of n) q → Matched (net_of n) (Operable (net_of n)) (Restored (net_of n)) (cost_of (net_of n)) q
  plan_matched v = matched (net_of n) (restoration (net_of n)) (lawful n well) safe q v
