-- The search tries the candidates in turn: its setting holds the network's switches and sources, and it starts from their parts.
-- Assumes nothing.
use mathlib.Core.Path.{◌≡◌, refl, sym, ap, ap₂, subst, ◌∙◌}
use mathlib.Core.Bool.{Bool, true}
use mathlib.Core.List.{List}
use Prim.Native.Nat.{ℕ, ◌-◌, ◌<◌, ◌≤◌}
use native.Mathlib.Omega.{arith}
use lib.Dec.{eqb}
use lib.ListN.{length}
use Rattle.network.specs.declared.Network.{Network}
use Rattle.network.specs.Accepted.{WellFormed}
use Rattle.feeding.specs.Below.{all_to}
use Rattle.feeding.specs.Loads.{within_from?}
use Rattle.feeding.specs.Networks.{net_of, grid_of, at, is_in}
use Rattle.feeding.specs.Parts.{closed_in}
use Rattle.feeding.specs.Costs.{set_cost}
use Rattle.feeding.proofs.Views.{formed_net}
use Rattle.feeding_loads.specs.Walks.{walk_grid, WalkLent, grid_of_walk}
use Rattle.feeding_walks.specs.declared.Walk.{Walk}
use Rattle.plan_problem.specs.declared.Best.{Best}
use Rattle.plan_problem.specs.Sets.{keep, price_of, charge_of, fellows_of, adds_by, scan, set_in}
use Rattle.plan_problem.proofs.Masks.{fellows_ext}
use Rattle.plan_problem.proofs.Prices.{price_cost}
use Rattle.plan_stops.proofs.Carried.{CarriedParts}
use Rattle.plan_problem.proofs.Scans.{keep_dear, scan_ext}
use Rattle.feeding_sets.specs.Sets.{members}
use Rattle.plan_switches.specs.declared.Switches.{Switches}
use Rattle.plan_switches.specs.Switches.{switch_list, with_set}
use Rattle.plan_switches.proofs.States as States
use Rattle.plan_setting.specs.declared.Setting.{Setting}
use Rattle.plan_setting.specs.Setting.{Columns}
use Rattle.plan_setting.specs.Packed.{Packed, adds_in}
use Rattle.plan_search.specs.declared.Search.{Search}
use Rattle.plan_stops.specs.Searching.{dearer}
use Rattle.plan_stops.proofs.Searched.{searched_restoring}
use Rattle.plan_stops.proofs.Dearer.{dear_out, dear_goes_on, price_rises}
use Rattle.plan_search.specs.Searching.{Seeks, Placed, fits_in, states_by, visit_in, switching_in, sought_in, sought}
use Rattle.feeding_start.specs.declared.Start.{Start}
use Rattle.feeding_start.specs.Starting.{operable_in, Searchable}
use Rattle.plan_candidates.specs.declared.Origin.{Origin}
use Rattle.plan_candidates.specs.Candidates.{asks_of, based_on, candidates_of, supplied_candidate?, fitting_in, Walked, Founded}
use Rattle.plan_candidates.proofs.Sources.{walks_listed}

module _ (st : Start) (ok : Searchable st) (sw : Switches) (sw-is : sw ≡ switch_list st.net (operable_in st)) where
  abbrev n : Network
  n = st.net

  abbrev w : WellFormed n
  w = ok.formed

  abbrev op : ℕ → Bool
  op = is_in st.operable

  abbrev few : length (operable_in st) ≤ 16
  few = ok.few

  count_is : sw.count ≡ length (operable_in st)
  count_is = ap (λ (x : Switches). x.count) sw-is ∙ States.count_is n w op ok.switches

  inside : (l : ℕ) → op l ≡ true → l < (net_of n).grid.K
  unfolding net_of grid_of
  inside = ok.inside

  -- what packing them asks
  pub columns : Columns sw
  unfolding switch_list net_of
  columns = subst Columns (sym sw-is) of_list
    where
      of_list : Columns (switch_list n (operable_in st))
      of_list = record {
        reach = States.link_reach n w op ok.switches few;
        from_in = λ i k. States.from_below n w op ok.switches i;
        to_in = λ i k. States.to_below n w op ok.switches i;
        closed_bit = λ i k. States.closed_bit n w op ok.switches i;
        price_in = λ i k. omega (arith, States.price_at n w op ok.switches few i k, w.cost_in_lem (at (operable_in st) i) (States.operable_in_lem n w op ok.switches i k).0);
      }

  -- the setting of these switches
  module _ {B : Setting} {want : ℕ} {walk : Walk} {left : List ℕ} (p : Packed B sw n.guard n.cost (members st.sound walk.elements) want walk)
      (walked : Walked n sw left walk) where
    switches_are : B.switches ≡ switch_list n (operable_in st)
    switches_are = p.switches_are ∙ sw-is

    in_count : (i : ℕ) → i < length (operable_in st) → i < sw.count
    in_count i k = omega (arith, count_is)

    all_are : B.switches.count ≡ length (operable_in st)
    all_are = ap (λ (x : Switches). x.count) p.switches_are ∙ count_is

    from_at : (i : ℕ) → i < length (operable_in st) → at B.switches.from i ≡ (net_of n).grid.end_a (at (operable_in st) i)
    from_at i k = ap (λ (x : Switches). at x.from i) switches_are ∙ States.from_at n w op ok.switches few i k

    to_at : (i : ℕ) → i < length (operable_in st) → at B.switches.to i ≡ (net_of n).grid.end_b (at (operable_in st) i)
    to_at i k = ap (λ (x : Switches). at x.to i) switches_are ∙ States.to_at n w op ok.switches few i k

    shut_at : (i : ℕ) → i < length (operable_in st) → eqb (at B.switches.closed i) 1 ≡ (net_of n).start_closed (at (operable_in st) i)
    shut_at i k = ap (λ (x : Switches). is_in x.closed i) switches_are ∙ States.closed_at n w op ok.switches few i k

    -- what a set leaves and costs, by the switches themselves
    states_by_lem : (s : ℕ) → states_by B B.switches.count s left ≡ with_set (at sw.link) (at sw.closed) sw.count s left
    states_by_lem s = ap (λ (x : Switches). with_set (at x.link) (at x.closed) x.count s left) p.switches_are

    link_at : (i : ℕ) → i < length (operable_in st) → at sw.link i ≡ at (operable_in st) i
    link_at i k = ap (λ (x : Switches). at x.link i) sw-is ∙ States.link_at n w op ok.switches few i k

    price_at : (i : ℕ) → i < length (operable_in st) → at B.switches.price i ≡ (net_of n).cost (at (operable_in st) i)
    price_at i k = ap (λ (x : Switches). at x.price i) switches_are ∙ States.price_at n w op ok.switches few i k

    charge_at : (i : ℕ) → i < length (operable_in st) → at B.guards.charge i ≡ charge_of (net_of n).guard (net_of n).cost (net_of n).grid.K (at (operable_in st) i)
    unfolding charge_of net_of grid_of
    charge_at i k = p.charging.charge_at i (in_count i k) ∙ rw (link_at i k, walked.links_are)

    fellows_at : (i : ℕ) → i < length (operable_in st) → at B.guards.fellows i ≡ fellows_of (λ j. (net_of n).guard (at (operable_in st) j)) (net_of n).grid.K i
    unfolding net_of grid_of
    fellows_at i k = p.charging.fellows_at i (in_count i k) ∙ rw walked.links_are (fellows_ext _ _ n.links i (λ j h. ap (at n.guard) (link_at j (omega arith))))

    price_by : (s : ℕ) → price_of (adds_in B) B.switches.count s ≡ set_cost (net_of n) (set_in (operable_in st) s)
    unfolding adds_by
    price_by s =
        States.price_ext (adds_in B) adds B.switches.count s
        (λ i t k. let b : i < length (operable_in st) = omega (arith, all_are) in rw (price_at i b, charge_at i b, fellows_at i b) refl)
        ∙ ap (λ (m : ℕ). price_of adds m s) all_are
        ∙ price_cost (net_of n) op s
      where
        adds : ℕ → ℕ → ℕ
        adds = adds_by (λ i. (net_of n).cost (at (operable_in st) i)) (λ i. charge_of (net_of n).guard (net_of n).cost (net_of n).grid.K (at (operable_in st) i))
            (fellows_of (λ j. (net_of n).guard (at (operable_in st) j)) (net_of n).grid.K)

    -- the walks from the list
    fits_by : (s : ℕ) → fits_in B (states_by B B.switches.count s left) ≡ fitting_in st sw left walk s
    unfolding fits_in fitting_in walk_grid
    fits_by s =
        ap₂ (λ (v : Walk) (xs : List ℕ). all_to B.sources.count (λ j. within_from? (grid_of_walk v) (closed_in xs) (at B.sources.element j)))
        p.walk_is (states_by_lem s)
        ∙ (walks_listed (grid_of_walk walk) (closed_in (with_set (at sw.link) (at sw.closed) sw.count s left)) st.sound
        B.sources.count _ p.listed.count_is (λ j k. rw (p.listed.element_at j (omega (arith, p.listed.count_is)))))

    module _ (origin : Origin) (from : Founded st origin) (want_is : want ≡ origin.waiting) (b : Best) where
      abbrev begun : Search
      begun = record { states = left; parent = origin.label; holds = origin.holds; spare = origin.spare; best = b }

      pub start_seeks : Seeks B begun 0 0 0 0
      unfolding price_of
      start_seeks = record {
        reached = omega arith;
        parent_long = from.carried.parent_long;
        holds_long = from.carried.holds_long;
        falls = from.carried.falls;
        served_few = omega arith;
        set_in_lem = omega arith;
        cost_is = refl;
      }

      pub start_placed : Placed B left 0 0
      unfolding with_set
      start_placed = record {
        long = walked.long;
        chosen = refl;
        ahead = λ j h. subst (λ (x : Switches). j < x.count → at left (at x.link j) ≡ 0) (sym p.switches_are) (walked.opened j);
        lent = λ t. subst (λ (v : Walk). WalkLent v (states_by B B.switches.count t left)) (sym p.walk_is)
            (subst (λ (xs : List ℕ). WalkLent walk xs) (sym (states_by_lem t)) (walked.lent t));
      }

      -- the theorem: the candidates are tried in turn
      pub tried : sought B begun 0 0 0
          ≡ scan (keep (λ s. set_cost (net_of n) (set_in (operable_in st) s)) (fitting_in st sw left walk)) (candidates_of (net_of n) op) b
      unfolding sought_in visit_in candidates_of supplied_candidate?
      tried =
          let e : B.switches.count - 0 ≡ m = omega (arith, all_are) in
          rw e
          (searched_restoring (net_of n) (formed_net n w) op inside (switching_in B) from_at to_at shut_at (dearer (price_of (adds_in B))) (keep price fits)
          (dear_goes_on (price_of (adds_in B)) m (λ j t o _. price_rises (adds_in B) j t o)) unkept (asks_of (net_of n)) B.want
          origin.label origin.holds origin.spare b carried from.weighed
          ∙ scan_ext price _ fits _ price_by fits_by (candidates_of (net_of n) op) b)
        where
          carried : CarriedParts (net_of n) (based_on st) B.want 0 origin.label origin.holds
          carried = rw (p.want_is, want_is) from.carried

          m : ℕ
          m = length (operable_in st)

          price : ℕ → ℕ
          price = price_of (adds_in B) B.switches.count

          fits : ℕ → Bool
          fits s = fits_in B (states_by B B.switches.count s left)

          -- nothing that costs as much as the best so far is kept
          unkept : (s : ℕ) (d : Best) → dearer (price_of (adds_in B)) m s d ≡ true → keep price fits d s ≡ d
          unkept s d q = keep_dear price fits d s
              (omega (arith, dear_out (price_of (adds_in B)) m s d q, ap (λ (k : ℕ). price_of (adds_in B) k s) all_are))
