-- Demand 3, sentence by sentence. What is printed for s is `plan_text s` (Demand1).
-- Assumes nothing.
use mathlib.Core.Path.{◌≡◌}
use mathlib.Core.Bool.{Bool}
use mathlib.Core.List.{List}
use mathlib.Core.Logic.{◌↔◌}
use Prim.Native.Nat.{ℕ, ◌≤◌}
use native.Mathlib.Omega.{arith}
use lib.ListN.{length}
use Rattle.network.specs.declared.Network.{Network}
use Rattle.feeding.specs.Tasks.{most_operable}
use Rattle.feeding.specs.Networks.{net_of}
use Rattle.feeding.specs.Plans.{Step, ValidPlan, operations, printed_form}
use Rattle.feeding.specs.Costs.{cost_of}
use Rattle.feeding.proofs.Below.{gate_le}
use Rattle.feeding.proofs.Views.{formed_net}
use Rattle.plan_problem.specs.Choosing.{Picked}
use Rattle.plan_sums.specs.declared.Sums.{Sums}
use Rattle.plan_lines.specs.Lines.{plan_word}
use Rattle.feeding_acceptance.proofs.Promises.{network_starts}
use Rattle.planner.proofs.Steps.{plan_file_length}
use Rattle.theorems.proofs.Words.{printed_promises}
use Rattle.theorems.proofs.Lengths.{promised_few}
use Rattle.theorems.proofs.Exactly as Exactly
use Rattle.feeding_acceptance.specs.Reading.{Bytes, AcceptedNetwork}
use Rattle.planner.specs.Replies.{plan_text_of, plan_file_of}
use Rattle.theorems.specs.Words.{plan_text, Begins}

-- ---- "For every network that gets a printed plan, by demand 2 every accepted one that has a valid plan:"

pub plan_exactly : (s : List ℕ) → Bytes s → (n : Network) → AcceptedNetwork s n → Begins plan_word (plan_text s) ↔ ((q : List Step) × ValidPlan (net_of n) q)
plan_exactly = Exactly.plan_printed

pub plan_form : (s : List ℕ) → Begins plan_word (plan_text s) → (q : List Step) × (cost : ℕ) × (l : Sums) × (plan_text s ≡ plan_text_of q cost l)
plan_form = Exactly.plan_form

-- s is a network file that states the accepted network n, and the plan of the steps q is printed for it, with this cost
module _ (s : List ℕ) (bytes : Bytes s) (n : Network) (accepted : AcceptedNetwork s n) (q : List Step) (cost : ℕ) (l : Sums) (printed : plan_text s ≡ plan_text_of q cost l) where
  -- ---- "the printed plan is the one that document 01 picks,"

  pub picked : (D : ℕ → Bool) × (q ≡ printed_form (net_of n) D) × Picked (net_of n) D
  picked = let p = (printed_promises s bytes n accepted q cost l printed).promised in (p.set, p.form, p.picked)

  -- ---- "it is itself valid,"

  pub valid : ValidPlan (net_of n) q
  valid = (printed_promises s bytes n accepted q cost l printed).promised.valid

  -- ---- "the cost printed with it is its own,"

  pub own_cost : cost ≡ cost_of (net_of n) q
  own_cost = (printed_promises s bytes n accepted q cost l printed).promised.own

  -- ---- "and it operates each of its switches once."

  -- no switch is operated a second time
  pub once : (k : ℕ) → operations k q ≤ 1
  once k = let p = (printed_promises s bytes n accepted q cost l printed).promised in omega (arith, p.once k, gate_le (p.set k) 1)

  -- ---- "And whatever list of steps anybody draws up for that network, however long and with switches operated again and again: if the list is a valid
  -- plan, it costs at least as much as the printed one,"

  pub at_least : (r : List Step) → ValidPlan (net_of n) r → cost ≤ cost_of (net_of n) r
  at_least r v = ((printed_promises s bytes n accepted q cost l printed).promised.every r v).at_least

  -- ---- "and its cost equals the printed cost exactly when no valid plan at all costs less than it."

  pub equal_exactly : (r : List Step) → ValidPlan (net_of n) r → (cost_of (net_of n) r ≡ cost) ↔ ((r' : List Step) → ValidPlan (net_of n) r' → cost_of (net_of n) r ≤ cost_of (net_of n) r')
  equal_exactly r v = let e = (printed_promises s bytes n accepted q cost l printed).promised.every r v in (e.none_cheaper, e.equal)

  -- ---- by rule 18 it has at most 12 steps, and its file at most 106 bytes: TAMCHUWE_PLAN_FILE_LENGTH

  pub few_steps : length q ≤ most_operable
  few_steps =
      let starts = network_starts s bytes n accepted in
      promised_few (net_of n) (formed_net n starts.0) starts.1 q cost (printed_promises s bytes n accepted q cost l printed).promised

  pub plan_file_long : length (plan_file_of q) ≤ 106
  plan_file_long = omega (arith, few_steps, plan_file_length q)
