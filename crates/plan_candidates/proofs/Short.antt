-- Where all sources together bear less than all restorable elements ask, no set works.
-- Assumes nothing.
use mathlib.Core.Path.{◌≡◌, sym, ap, ap₂, ◌∙◌}
use mathlib.Core.Bool.{Bool, true}
use Prim.Native.Nat.{ℕ}
use native.Mathlib.Omega.{arith}
use lib.Dec.{ltb}
use borrow.Author.Tests.{ltb-true}
use Rattle.network.specs.declared.Network.{Network}
use Rattle.network.specs.Accepted.{WellFormed}
use Rattle.feeding.specs.Below.{gate}
use Rattle.feeding.specs.Networks.{net_of, grid_of, at}
use Rattle.feeding.proofs.Sums.{sum_to_ext}
use Rattle.feeding.proofs.Views.{formed_net}
use Rattle.feeding_restoration.proofs.Sets.{set_at, fits}
use Rattle.feeding_restoration.proofs.Reach.{bits_long}
use Rattle.plan_problem.specs.Sets.{none, cheapest_by}
use Rattle.plan_problem.specs.Choosing.{works?}
use Rattle.feeding_start.specs.declared.Start.{Start}
use Rattle.feeding_start.specs.Starting.{operable_in, Searchable}
use Rattle.feeding_start.proofs.Starts.{sound_of, restorable_of}
use Rattle.plan_stops.specs.Supply.{own_ask, demand, supply}
use Rattle.plan_supply.specs.Supply.{ask_of, demand_in, Asking}
use Rattle.plan_supply.proofs.Adding.{ask_small}
use Rattle.feeding.specs.Costs.{set_cost}
use Rattle.plan_stops.proofs.Demand.{short_none}
use Rattle.plan_candidates.specs.Candidates.{asks_of}
use Rattle.plan_candidates.proofs.Arrays.{sources_at}

module _ (st : Start) (ok : Searchable st) where
  abbrev n : Network
  n = st.net

  abbrev w : WellFormed n
  w = ok.formed

  -- what the calls ask
  pub supply_reach : Asking st.sound n.capacity n.capacity n.elements
  supply_reach = record {
    fit = w.elements_fit;
    has_long = omega (arith, bits_long _ _ _ (sound_of st _ ok.made), w.elements_fit);
    load_long = omega (arith, w.capacity_long, w.elements_fit);
    capacity_long = omega (arith, w.capacity_long, w.elements_fit);
    load_in_lem = λ e k. omega (arith, w.capacity_in e k);
  }

  pub demand_reach : Asking st.restorable n.load n.capacity n.elements
  demand_reach = record {
    fit = w.elements_fit;
    has_long = omega (arith, bits_long _ _ _ (restorable_of st _ ok.made), w.elements_fit);
    load_long = omega (arith, w.load_long, w.elements_fit);
    capacity_long = omega (arith, w.capacity_long, w.elements_fit);
    load_in_lem = λ e k. omega (arith, w.load_in_lem e k);
  }

  demand_is : demand_in st.restorable n.load n.capacity n.elements ≡ demand (net_of n) (asks_of (net_of n))
  unfolding demand_in demand ask_of own_ask net_of grid_of
  demand_is = sum_to_ext n.elements _ _ (λ e k.
      ap (λ (b : Bool). gate b (ask_of (at n.load e) (at n.capacity e))) (set_at n w n.elements _ st.restorable (fits n w) (restorable_of st _ ok.made) e k))

  -- a source that is loaded to its capacity asks what it bears
  supply_is : demand_in st.sound n.capacity n.capacity n.elements ≡ supply (net_of n).grid
  unfolding demand_in supply net_of grid_of
  supply_is = sum_to_ext n.elements _ _ (λ e k.
      ap₂ gate (sources_at st ok e k) (sym (ask_small (at n.capacity e) (at n.capacity e) (omega arith))))

  module _ {asked borne : ℕ} (Asked-is : asked ≡ demand_in st.restorable n.load n.capacity n.elements)
      (borne-is : borne ≡ demand_in st.sound n.capacity n.capacity n.elements) where
    pub short_is : ltb borne asked ≡ ltb (supply (net_of n).grid) (demand (net_of n) (asks_of (net_of n)))
    short_is = ap₂ ltb (borne-is ∙ supply_is) (Asked-is ∙ demand_is)

-- then no set of any switches works
pub none_works : (st : Start) → Searchable st → (r : Bool) → r ≡ ltb (supply (net_of st.net).grid) (demand (net_of st.net) (asks_of (net_of st.net))) → r ≡ true
    → none ≡ cheapest_by (operable_in st) (set_cost (net_of st.net)) (works? (net_of st.net))
none_works st ok r e h =
    sym (short_none (net_of st.net) (formed_net st.net ok.formed) 4294967296
    (ltb-true (supply (net_of st.net).grid) (demand (net_of st.net) (asks_of (net_of st.net))) (sym e ∙ h)) (operable_in st) (set_cost (net_of st.net)))
