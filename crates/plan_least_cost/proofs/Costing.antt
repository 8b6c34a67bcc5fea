-- The cheapest set's cost is the least of any valid plan, for an accepted network and for the bytes that it was read from.
-- Assumes nothing.
use mathlib.Core.Path.{◌≡◌, sym, ◌∙◌, subst}
use mathlib.Core.List.{List}
use Prim.Native.Nat.{ℕ, ◌≤◌, ◌<◌}
use native.Mathlib.Omega.{arith}
use Rattle.std.specs.Prelude.{Option, Some, None, Result, Ok, Err}
use Rattle.network.specs.declared.Network.{Network}
use Rattle.network.specs.declared.refusal.Refusal.{Refusal}
use Rattle.feeding_start.specs.declared.Start.{Start}
use Rattle.feeding_start.specs.Starting.{operable_in, Begun}
use Rattle.feeding_start.proofs.Starts.{operables_of}
use Rattle.feeding.specs.Networks.{Net, net_of}
use Rattle.feeding.specs.Costs.{cost_of, set_cost}
use Rattle.feeding.specs.Restoration.{Operable, Restored}
use Rattle.feeding.proofs.Views.{formed_net}
use Rattle.feeding_acceptance.specs.Reading.{Admission, AcceptedNetwork, FirstRule}
use Rattle.feeding_acceptance.specs.Reading as Reading
use Rattle.feeding_acceptance.proofs.Promises.{same_refusal}
use Rattle.plan_problem.specs.declared.Best.{Best}
use Rattle.plan_problem.specs.Choosing.{CostsLeast, works?, planned_by, restored_over}
use Rattle.plan_problem.specs.Sets.{cheapest_by}
use Rattle.plan_problem.proofs.Choices.{PromisedChoice, planned_promised, promised_least}
use Rattle.plan_problem.proofs.Found.{costs_below, planned_found, planned_nothing, found_cost}
use Rattle.plan_least_cost.specs.LeastCost.{CheapestIn, CheapestFor}
use Rattle.plan_least_cost.specs.LeastCost as LeastCost

module _ (st : Start) (b : Begun st) (best : Best) (is : best ≡ cheapest_by (operable_in st) (set_cost (net_of st.net)) (works? (net_of st.net))) where
  abbrev n : Network
  n = st.net

  abbrev n' : Net
  n' = net_of st.net

  -- the choice over the operable switches is promised
  promised : PromisedChoice n' (restored_over n' (operable_in st))
  unfolding planned_by
  promised = subst (λ (ls : List ℕ). PromisedChoice n' (restored_over n' ls)) (sym (operables_of st b))
      (planned_promised n' (formed_net n b.formed) b.starts.safe)

  pub cheapest_found : (c : ℕ) → c ≡ best.cost → best.cost < 18446744073709551615 → CheapestIn (net_of n) (Some c)
  cheapest_found c e h =
      subst (CostsLeast n') (sym (e ∙ found_cost (operable_in st) (set_cost n') (costs_below n b.formed) (works? n') best is h))
      (promised_least n' (Operable n') (Restored n') (cost_of n') _ _
      (subst (PromisedChoice n') (planned_found (operable_in st) (set_cost n') (costs_below n b.formed) (works? n') best is h) promised))

  pub cheapest_none : 18446744073709551615 ≤ best.cost → CheapestIn (net_of n) None
  cheapest_none h = subst (PromisedChoice n') (planned_nothing (operable_in st) (set_cost n') (costs_below n b.formed) (works? n') best is h) promised

-- ---- of the bytes s, by what was read

pub cheapest_bytes : (s : List ℕ) (a : Result Start Refusal) → Admission s a → (start : Start) → a ≡ Ok start → (r : Option ℕ) → CheapestIn (net_of start.net) r → CheapestFor s (Ok r)
cheapest_bytes s _ (Reading.refused _) start e r h = let z : ◌≡◌ {A = ℕ} 0 1 = cc in absurd (omega arith)
cheapest_bytes s _ (Reading.accepted read a) start e r h =
    let same : read ≡ start = cc in
    LeastCost.accepted start.net (subst (λ (x : Start). AcceptedNetwork s x.net) same a) h

pub cheapest_refused : (s : List ℕ) (a : Result Start Refusal) → Admission s a → (f : Refusal) → a ≡ Err f → CheapestFor s (Err f)
cheapest_refused s _ (Reading.refused b) f e = LeastCost.refused (subst (FirstRule s) (same_refusal e) b)
cheapest_refused s _ (Reading.accepted _ _) f e = let z : ◌≡◌ {A = ℕ} 0 1 = cc in absurd (omega arith)
