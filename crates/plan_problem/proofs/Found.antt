-- The cheapest set, a number, is the set that the recursion chooses, and its cost is that set's; a well-formed network's sets cost less than no set.
-- Assumes nothing.
use mathlib.Core.Path.{◌≡◌, sym, ap, ◌∙◌, subst}
use mathlib.Core.Bool.{Bool, false}
use mathlib.Core.List.{List}
use Prim.Native.Nat.{ℕ, ◌≤◌, ◌<◌}
use Rattle.network.specs.declared.Network.{Network}
use Rattle.network.specs.Accepted.{WellFormed}
use Rattle.feeding.specs.Networks.{grid_of, net_of}
use Rattle.feeding.specs.Costs.{set_cost}
use Rattle.plan_problem.specs.declared.Best.{Best}
use Rattle.plan_problem.specs.Choosing.{nothing, chosen, no_dearer, best}
use Rattle.plan_problem.specs.Sets.{set_in, cheapest_by, choice_by}
use Rattle.plan_problem.proofs.Cheapest.{choice_chosen, choice_nothing, cheapest_best, cheapest_own}
use Rattle.plan_problem.proofs.Prices.{set_cost_below}

pub costs_below : (n : Network) → WellFormed n → (D : ℕ → Bool) → set_cost (net_of n) D < 18446744073709551615
unfolding net_of grid_of
costs_below n well = set_cost_below (net_of n) well.links_fit well.cost_in_lem

module _ (ls : List ℕ) (cost : (ℕ → Bool) → ℕ) (below : (D : ℕ → Bool) → cost D < 18446744073709551615) (works : (ℕ → Bool) → Bool)
    (found : Best) (is : found ≡ cheapest_by ls cost works) where
  found_chosen : choice_by ls found ≡ best (no_dearer cost) works (λ _. false) ls
  found_chosen = ap (choice_by ls) is ∙ cheapest_best ls cost below works

  pub planned_found : found.cost < 18446744073709551615 → best (no_dearer cost) works (λ _. false) ls ≡ chosen (set_in ls found.set)
  planned_found h = sym found_chosen ∙ choice_chosen ls found h

  pub planned_nothing : 18446744073709551615 ≤ found.cost → best (no_dearer cost) works (λ _. false) ls ≡ nothing
  planned_nothing h = sym found_chosen ∙ choice_nothing ls found h

  pub found_cost : found.cost < 18446744073709551615 → found.cost ≡ cost (set_in ls found.set)
  found_cost h =
      subst (λ (b : Best). b.cost ≡ cost (set_in ls b.set)) (sym is)
      (cheapest_own ls cost below works (subst (λ (b : Best). b.cost < 18446744073709551615) is h))
