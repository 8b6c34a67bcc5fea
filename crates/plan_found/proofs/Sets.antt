-- A set's arrays give its printed form, its cost and the states that it leaves, and so the plan of that set.
-- Assumes nothing.
use mathlib.Core.Path.{◌≡◌, refl, sym, ap, ◌∙◌}
use mathlib.Core.Bool.{Bool, true, false, cond, false≢true}
use mathlib.Core.List.{List}
use Prim.Native.Nat.{ℕ, zero, suc, ◌/◌, ◌%◌, ◌<◌, ◌≤◌}
use native.Mathlib.Omega.{arith}
use lib.Dec.{eqb}
use lib.ListN.{length, replicate, length-replicate}
use borrow.Author.Tests.{eqb-true, lt-ltb}
use Rattle.std.specs.Prelude.{Option, Some, None}
use Rattle.network.specs.declared.Network.{Network}
use Rattle.network.specs.Accepted.{WellFormed}
use Rattle.feeding.specs.Below.{gate}
use Rattle.feeding.specs.Networks.{Net, grid_of, net_of, at, is_in}
use Rattle.feeding.specs.Plans.{put, printed_form, flip}
use Rattle.feeding.specs.Costs.{set_cost, cost_of}
use Rattle.feeding.specs.Restoration.{operables_by}
use Rattle.feeding.proofs.Bits.{at_bits}
use Rattle.feeding.proofs.Lows.{those_out}
use Rattle.feeding.proofs.Printed.{printed_run}
use Rattle.feeding.proofs.Prices.{cost_printed}
use Rattle.feeding_restoration.proofs.Reach.{bits_long}
use Rattle.feeding_restoration.proofs.Sets.{set_at}
use Rattle.feeding_start.specs.declared.Start.{Start}
use Rattle.feeding_start.specs.Starting.{operable_in, Searchable}
use Rattle.feeding_start.proofs.Starts.{closed_of}
use Rattle.file_plan.specs.declared.plan.Plan.{Plan}
use Rattle.file_plan.specs.PlanFiles.{empty_plan}
use Rattle.plan_problem.specs.declared.Best.{Best}
use Rattle.plan_problem.specs.Choosing.{works?, printed_plan, restored_over}
use Rattle.plan_problem.specs.Sets.{set_of, set_in, cheapest_by}
use Rattle.plan_problem.proofs.Found.{costs_below, planned_found, planned_nothing, found_cost}
use Rattle.plan_problem.proofs.Rising.{at_member}
use Rattle.plan_form.specs.Printing.{plan_with, form_of}
use Rattle.plan_form.proofs.Steps.{form_printed}
use Rattle.plan_switches.specs.declared.Switches.{Switches}
use Rattle.plan_switches.specs.Switches.{switch_list, with_set}
use Rattle.plan_switches.proofs.States.{length_states, states_flipped, set_operated}
use Rattle.plan_found.specs.declared.Found.{Found}
use Rattle.plan_found.specs.Finding.{FoundPlan, FoundBy}

-- ---- the set that a number writes has links of the network only

set_inside : (op : ℕ → ℕ) (m top s l : ℕ) → ((j : ℕ) → j < m → op j < top) → set_of op m s l ≡ true → l < top
unfolding set_of put
set_inside op zero top s l h d = absurd (false≢true d)
set_inside op (suc m) top s l h d = go (set_inside op m top (s / 2) l (λ j k. h j (omega arith))) (eqb l (op m)) refl d
  where
    go : (set_of op m (s / 2) l ≡ true → l < top) → (t : Bool) → eqb l (op m) ≡ t → cond t (eqb (s % 2) 1) (set_of op m (s / 2) l) ≡ true → l < top
    go ih true t e = rw (eqb-true l (op m) t) (h m (omega arith))
    go ih false t e = ih e

pub switches_inside : (net : Net) (op : ℕ → Bool) (s l : ℕ) → set_in (operables_by net op) s l ≡ true → l < net.grid.K
unfolding set_in operables_by
switches_inside net op s l d =
    set_inside (at (operables_by net op)) (length (operables_by net op)) net.grid.K s l
    (λ j k. (those_out net.grid.K op _ (at_member (operables_by net op) j k)).0) d

-- ---- the plan of arrays

module _ (st : Start) (ok : Searchable st) {sw : Switches} (sw-is : sw ≡ switch_list st.net (operable_in st)) where
  abbrev n : Network
  n = st.net

  abbrev w : WellFormed n
  w = ok.formed

  links_are : (net_of n).grid.K ≡ n.links
  unfolding net_of grid_of
  links_are = refl

  closed_at : (l : ℕ) → l < n.links → is_in st.closed l ≡ (net_of n).start_closed l
  closed_at = set_at n w n.links _ st.closed w.links_fit (closed_of st _ ok.made)

  bit_at : (l : ℕ) → l < (net_of n).grid.K → at st.closed l ≡ gate ((net_of n).start_closed l) 1
  unfolding net_of grid_of
  bit_at l k =
      ap (λ (xs : List ℕ). at xs l) (closed_of st _ ok.made)
      ∙ at_bits 96 n.links _ l (omega (arith, w.links_fit))
      ∙ rw (lt-ltb l n.links k)

  module _ (s : ℕ) {operated states : List ℕ}
      (operated-is : operated ≡ with_set (at sw.link) (at (replicate 16 0)) sw.count s (replicate 96 0))
      (states-are : states ≡ with_set (at sw.link) (at sw.closed) sw.count s st.closed) where
    abbrev D : ℕ → Bool
    D = set_in (operable_in st) s

    in_set : (l : ℕ) → l < n.links → is_in operated l ≡ D l
    unfolding switch_list
    in_set l h = rw (operated-is, sw-is) (set_operated n w (is_in st.operable) ok.switches ok.few s l h)

    in_states : (l : ℕ) → l < n.links → is_in states l ≡ flip (net_of n).start_closed D l
    unfolding switch_list
    in_states l h = rw (states-are, sw-is)
        (states_flipped n w (is_in st.operable) ok.switches ok.few st.closed (bits_long _ _ _ (closed_of st _ ok.made))
        (λ k lt _. closed_at k lt) s l h)

    inside : (l : ℕ) → D l ≡ true → l < (net_of n).grid.K
    inside = switches_inside (net_of n) (is_in st.operable) s

    form : form_of operated st.closed n.links ≡ printed_form (net_of n) D
    form =
        ap (form_of operated st.closed) (sym links_are)
        ∙ form_printed (net_of n) D operated st.closed (λ l k. in_set l (omega (arith, links_are))) bit_at

    pub set_plan : (cost : ℕ) (plan : Plan) → cost ≡ set_cost (net_of n) D → plan ≡ plan_with empty_plan (form_of operated st.closed n.links)
        → FoundPlan n (cost_of (net_of n)) (printed_form (net_of n) D) (record { cost = cost; plan = plan; closed = states })
    set_plan cost plan c p = record {
      cost = c ∙ sym (cost_printed (net_of n) D inside);
      told = omega (arith, c, costs_below n w D);
      plan = p ∙ ap (plan_with empty_plan) form;
      closed = λ l k. in_states l k ∙ ap (λ (x : ℕ → Bool). x l) (sym (printed_run (net_of n) D inside));
    }

-- ---- the choice

module _ (st : Start) (ok : Searchable st) (best : Best) (is : best ≡ cheapest_by (operable_in st) (set_cost (net_of st.net)) (works? (net_of st.net))) where
  pub own_cost : best.cost < 18446744073709551615 → best.cost ≡ set_cost (net_of st.net) (set_in (operable_in st) best.set)
  own_cost = found_cost (operable_in st) (set_cost (net_of st.net)) (costs_below st.net ok.formed) (works? (net_of st.net)) best is

  pub plan_found_lem : (f : Found) → best.cost < 18446744073709551615
      → FoundPlan st.net (cost_of (net_of st.net)) (printed_form (net_of st.net) (set_in (operable_in st) best.set)) f
      → FoundBy st.net (cost_of (net_of st.net)) (printed_plan (net_of st.net) (restored_over (net_of st.net) (operable_in st))) (Some f)
  unfolding printed_plan
  plan_found_lem f h kept =
      rw (planned_found (operable_in st) (set_cost (net_of st.net)) (costs_below st.net ok.formed) (works? (net_of st.net)) best is h) (f, (refl, kept))

  pub none_found : (r : Option Found) → r ≡ None → 18446744073709551615 ≤ best.cost
      → FoundBy st.net (cost_of (net_of st.net)) (printed_plan (net_of st.net) (restored_over (net_of st.net) (operable_in st))) r
  unfolding printed_plan
  none_found r e h =
      rw (planned_nothing (operable_in st) (set_cost (net_of st.net)) (costs_below st.net ok.formed) (works? (net_of st.net)) best is h) e

-- what `printed_plan` asks of the set's array
pub operated_long : (link closed : ℕ → ℕ) (count s : ℕ) {operated : List ℕ} → operated ≡ with_set link closed count s (replicate 96 0) → length operated ≡ 96
operated_long link closed count s e = ap length e ∙ length_states link closed count s (replicate 96 0) ∙ length-replicate {A = ℕ} 96 0
