-- What was found, as arrays, gives the outcome that its plan has: sums see the states of the network's links only.
-- Assumes nothing.
use mathlib.Core.Path.{◌≡◌, refl, ap, ◌∙◌}
use mathlib.Core.List.{List}
use Prim.Native.Nat.{ℕ, ◌<◌}
use native.Mathlib.Omega.{arith}
use lib.ListN.{length}
use Rattle.std.specs.Prelude.{Option, Some}
use Rattle.network.specs.declared.Network.{Network}
use Rattle.feeding.specs.Networks.{Net, grid_of, net_of, is_in}
use Rattle.feeding.specs.Parts.{Config, closed_in}
use Rattle.feeding.specs.Plans.{Step, run}
use Rattle.feeding.proofs.States.{live_same}
use Rattle.feeding_restoration.proofs.Sets.{set_at}
use Rattle.feeding_start.specs.declared.Start.{Start}
use Rattle.feeding_start.specs.Starting.{Begun}
use Rattle.feeding_start.proofs.Starts.{closed_of}
use Rattle.file_plan.specs.PlanFiles.{empty_plan}
use Rattle.plan_problem.specs.Choosing.{Planning, unplanned, by}
use Rattle.plan_form.specs.Printing.{plan_with}
use Rattle.plan_form.proofs.Steps.{with_count, empty_steps}
use Rattle.plan_sums.specs.Sums.{sums_after}
use Rattle.plan_sums.proofs.Totals.{sums_ext}
use Rattle.plan_found.specs.declared.Found.{Found}
use Rattle.plan_found.specs.Finding.{FoundBy}
use Rattle.plan_outcome.specs.Outcomes.{outcome_with, outcome_from, outcome_given}

-- ---- sums see the states of the network's links only

pub sums_same : (net : Net) (c c' : Config) → ((l : ℕ) → l < net.grid.K → c l ≡ c' l) → sums_after net c ≡ sums_after net c'
unfolding sums_after
sums_same net c c' same = sums_ext net.grid.load _ _ _ _ net.grid.E (λ e _. live_same net.grid c c' same e) (λ e _. refl)

-- the loads at the start are those of its states
pub start_sums : (st : Start) → Begun st → sums_after (net_of st.net) (closed_in st.closed) ≡ sums_after (net_of st.net) (net_of st.net).start_closed
unfolding net_of grid_of
start_sums st b = sums_same (net_of st.net) (closed_in st.closed) (net_of st.net).start_closed
    (set_at st.net b.formed st.net.links _ st.closed b.formed.links_fit (closed_of st _ b.made))

-- a plan of any cost: its cost, its steps and its states give its outcome
pub given_by_plan : (n : Network) (price : List Step → ℕ) (q : List Step) (f : Found)
    → f.cost ≡ price q
    → f.plan ≡ plan_with empty_plan q
    → ((l : ℕ) → l < n.links → is_in f.closed l ≡ run (net_of n).start_closed q l)
    → outcome_given n (Some f) ≡ outcome_from n price (by q)
unfolding outcome_from outcome_with outcome_given net_of grid_of
given_by_plan n price q f cost plan closed = rw (plan, cost, count, sums) refl
  where
    count : (plan_with empty_plan q).steps ≡ length q
    count = omega (arith, with_count empty_plan q, empty_steps)

    sums : sums_after (net_of n) (closed_in f.closed) ≡ sums_after (net_of n) (run (net_of n).start_closed q)
    sums = sums_same (net_of n) (closed_in f.closed) (run (net_of n).start_closed q) closed

-- the theorem: the outcome of what was found is that of its plan
pub given_found : (n : Network) (price : List Step → ℕ) (p : Planning) (r : Option Found) → FoundBy n price p r → outcome_given n r ≡ outcome_from n price p
unfolding outcome_from outcome_given
given_found n price unplanned r e = ap (outcome_given n) e
given_found n price (by q) r (f, (e, found)) = ap (outcome_given n) e ∙ given_by_plan n price q f found.cost found.plan found.closed
