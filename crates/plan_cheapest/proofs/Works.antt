-- The scan of the sets found gives the first cheapest of all that work: only candidates can, and states as numbers are their last configurations.
-- Assumes nothing.
use mathlib.Core.Path.{◌≡◌, refl, sym, ap, ◌∙◌, subst}
use mathlib.Core.Bool.{Bool, true, false, not, ◌&&◌, and-true, false≢true}
use mathlib.Core.List.{List}
use Prim.Native.Nat.{ℕ, ◌<◌, ◌≤◌, ◌^◌}
use native.Mathlib.Omega.{arith}
use native.Mathlib.Nat.{pow-le-pow_right}
use lib.Dec.{ltb}
use lib.ListN.{length}
use borrow.Author.Tests.{not-true}
use Rattle.network.specs.declared.Network.{Network}
use Rattle.network.specs.Accepted.{WellFormed}
use Rattle.feeding.specs.Below.{bits}
use Rattle.feeding.specs.Loads.{lowest_over}
use Rattle.feeding.specs.Networks.{net_of, grid_of, at, is_in}
use Rattle.feeding.specs.Parts.{Config, closed_in, sound?}
use Rattle.feeding.specs.Plans.{flip}
use Rattle.feeding.specs.Costs.{set_cost}
use Rattle.feeding.specs.Restoration.{operables_by}
use Rattle.feeding.proofs.Below.{and_left, and_right}
use Rattle.feeding.proofs.States.{over_same}
use Rattle.feeding.proofs.Views.{formed_net}
use Rattle.feeding_safety.proofs.Networks.{checked}
use Rattle.feeding_ends.specs.declared.OwnEnds.{OwnEnds}
use Rattle.feeding_ends.specs.Ends.{own_ends}
use Rattle.feeding_loads.specs.Walks.{walk_grid, WalkLent}
use Rattle.feeding_walks.specs.declared.Walk.{Walk}
use Rattle.feeding_sets.specs.Sets.{but_not, members}
use Rattle.feeding_safety.specs.Checks.{Checked}
use Rattle.feeding_restoration.proofs.Reach.{bits_long}
use Rattle.feeding_restoration.proofs.Sets.{sound_is}
use Rattle.feeding_start.specs.declared.Start.{Start}
use Rattle.feeding_start.specs.Starting.{operable_in, Searchable}
use Rattle.feeding_start.proofs.Starts.{operable_of, sound_of}
use Rattle.plan_problem.proofs.Cheapest.{cheapest_below}
use Rattle.plan_problem.specs.declared.Best.{Best}
use Rattle.plan_stops.specs.Candidates.{radial?, passes?, candidate?, opened_by}
use Rattle.plan_problem.specs.Choosing.{works?}
use Rattle.plan_problem.specs.Sets.{sets_from, set_in, none, keep, scan, cheapest_by}
use Rattle.plan_stops.proofs.Radial.{radial_out}
use Rattle.plan_problem.proofs.Scans.{scan_tested, scan_ext}
use Rattle.plan_switches.specs.declared.Switches.{Switches}
use Rattle.plan_switches.specs.Switches.{SwitchReach, switch_list, with_set}
use Rattle.plan_switches.proofs.States.{length_states, operable_in_lem, count_is, link_at, link_reach, states_flipped}
use Rattle.plan_stops.specs.Supply.{supplied?}
use Rattle.plan_stops.proofs.Works.{supplied_works}
use Rattle.plan_candidates.specs.Candidates.{asks_of, candidates_of, supplied_candidate?, opened_in, fitting_in, Walked}
use Rattle.plan_candidates.proofs.Arrays.{opened_long, opened_at, opened_off, sources_at}
use Rattle.feeding_safety.proofs.Steps.{over_lowest_is}
use Rattle.plan_spurs.specs.declared.Lumped.{Lumped}
use Rattle.plan_lumping.specs.Layers.{closable_in, closable_ends, lumped_layers}
use Rattle.plan_spurs.proofs.Spur.{loaded}
use Rattle.plan_lumping.proofs.Layers as Layers
use Rattle.plan_lumping.proofs.LayerByLayer.{layers_long}
use Rattle.plan_lumping.proofs.Layers.{Layered, set_closable}

-- what the calls return, before the scan
pub record Gathered (st : Start) (sw : Switches) (base : List ℕ) (layers : ℕ) (lumped : Lumped) (walk : Walk) : Type 0 where
  pub switches_are : sw ≡ switch_list st.net (operable_in st)
  pub reach : SwitchReach sw.link sw.count
  pub base_is : base ≡ opened_in st
  pub lumped_is : lumped ≡ lumped_layers st.net sw.link sw.count st.sound (record { base = base; load = st.net.load }) layers
  pub walk_is : walk ≡ record {
    own = closable_ends st.net.from st.net.to st.net.links sw.link sw.count lumped.base;
    load = lumped.load;
    capacity = st.net.capacity;
    elements = st.net.elements;
    links = st.net.links;
  }

-- how long the lists are with the spurs lumped
pub lumped_long : (n : Network) → WellFormed n → (link sound base : List ℕ) (count layers : ℕ) (lumped : Lumped) → length base ≡ 96
    → lumped ≡ lumped_layers n link count sound (record { base = base; load = n.load }) layers → (length lumped.base ≡ 96) × (length lumped.load ≡ 64)
lumped_long n w link sound base count layers lumped long q =
    let kept = layers_long n link count sound (record { base = base; load = n.load }) layers in
    (ap (λ (t : Lumped). length t.base) q ∙ kept.0 ∙ long, ap (λ (t : Lumped). length t.load) q ∙ kept.1 ∙ w.load_long)

-- what `switches_of` asks, and the switches that it lists
module _ (st : Start) (ok : Searchable st) where
  pub switches_asked : (length st.operable ≡ 96) × (length (members st.operable st.net.links) ≤ 16)
  unfolding members operables_by net_of grid_of
  switches_asked = (bits_long st.operable st.net.links _ (operable_of st _ ok.made), ok.few)

  pub switches_are : {sw : Switches} → sw ≡ switch_list st.net (members st.operable st.net.links) → sw ≡ switch_list st.net (operable_in st)
  unfolding members operables_by net_of grid_of
  switches_are e = e

  -- what `with_set` asks
  pub switches_reach : {sw : Switches} → sw ≡ switch_list st.net (operable_in st) → SwitchReach sw.link sw.count
  unfolding switch_list
  switches_reach e = rw e (link_reach st.net ok.formed (is_in st.operable) ok.switches ok.few)

  -- the links that are closed at the start, without the switches
  pub based_on : {base : List ℕ} → base ≡ bits 96 st.net.links (but_not st.closed st.operable) → base ≡ opened_in st
  unfolding opened_in
  based_on b = b

  pub gathered : {sw : Switches} {base : List ℕ} {layers : ℕ} {lumped : Lumped} {own : OwnEnds}
      → sw ≡ switch_list st.net (operable_in st) → base ≡ bits 96 st.net.links (but_not st.closed st.operable)
      → lumped ≡ lumped_layers st.net sw.link sw.count st.sound (record { base = base; load = st.net.load }) layers
      → own ≡ closable_ends st.net.from st.net.to st.net.links sw.link sw.count lumped.base
      → Gathered st sw base layers lumped
      (record { own = own; load = lumped.load; capacity = st.net.capacity; elements = st.net.elements; links = st.net.links })
  gathered {lumped = lumped} s b u a =
      record {
        switches_are = s;
        reach = switches_reach s;
        base_is = based_on b;
        lumped_is = u;
        walk_is = ap (λ (x : OwnEnds). record { own = x; load = lumped.load; capacity = st.net.capacity; elements = st.net.elements; links = st.net.links }) a;
      }

module _ (st : Start) (ok : Searchable st) {sw : Switches} {base : List ℕ} {layers : ℕ} {lumped : Lumped} {walk : Walk}
    (g : Gathered st sw base layers lumped walk) where
  abbrev n : Network
  n = st.net

  abbrev w : WellFormed n
  w = ok.formed

  abbrev sound : List ℕ
  sound = st.sound

  abbrev op : ℕ → Bool
  op = is_in st.operable

  abbrev few : length (operable_in st) ≤ 16
  few = ok.few

  base_long : length base ≡ 96
  base_long = ap length g.base_is ∙ opened_long st ok

  base_is : (l : ℕ) → l < n.links → is_in base l ≡ ((net_of n).start_closed l && not (op l))
  unfolding opened_by
  base_is l h = ap (λ (xs : List ℕ). is_in xs l) g.base_is ∙ opened_at st ok l h

  -- the links that are not operable are in `base` as they are at the start
  base_at : (l : ℕ) → l < n.links → op l ≡ false → is_in base l ≡ (net_of n).start_closed l
  base_at l h off = base_is l h ∙ ap (λ (x : Bool). (net_of n).start_closed l && not x) off ∙ and-true ((net_of n).start_closed l)

  -- and no operable one is
  base_apart : (l : ℕ) → l < n.links → is_in base l ≡ true → (i : ℕ) → i < sw.count → l ≡ at sw.link i → ⊥
  base_apart l h on = rw g.switches_are apart
    where
      off : op l ≡ false
      off = not-true _ (and_right ((net_of n).start_closed l) _ (sym (base_is l h) ∙ on))

      apart : (i : ℕ) → i < (switch_list n (operable_in st)).count → l ≡ at (switch_list n (operable_in st)).link i → ⊥
      apart i b q =
          let in_list : i < length (operable_in st) = omega (arith, b, count_is n w op ok.switches) in
          false≢true (sym off ∙ ap (op) (q ∙ link_at n w op ok.switches few i in_list) ∙ (operable_in_lem n w op ok.switches i in_list).1)

  -- the states that a set leaves are its last configuration
  states_at : (s l : ℕ) → l < n.links
      → closed_in (with_set (at sw.link) (at sw.closed) sw.count s base) l ≡ flip (net_of n).start_closed (set_in (operable_in st) s) l
  unfolding switch_list
  states_at s l h = rw g.switches_are (states_flipped n w op ok.switches few base base_long base_at s l h)

  sound_at : (e : ℕ) → e < n.elements → is_in sound e ≡ sound? (net_of n).grid e
  sound_at = sources_at st ok

  layered : Layered n w sw.link sw.closed sw.count g.reach sound base sound_at base_long base_apart lumped
  layered = subst (Layered n w sw.link sw.closed sw.count g.reach sound base sound_at base_long base_apart) (sym g.lumped_is)
      (Layers.layers n w sw.link sw.closed sw.count g.reach sound base sound_at base_long base_apart layers)

  -- the states that a set leaves, with the spurs left out
  abbrev after : ℕ → List ℕ
  after s = with_set (at sw.link) (at sw.closed) sw.count s lumped.base

  abbrev last : ℕ → Config
  last s = flip (net_of n).start_closed (set_in (operable_in st) s)

  -- the links that it leaves closed can be closed, so they are chained
  abbrev closable : List ℕ
  closable = closable_in lumped.base sw.link sw.count

  after_closable : (s l : ℕ) → l < n.links → closed_in (after s) l ≡ true → is_in closable l ≡ true
  after_closable s l h on = set_closable lumped.base sw.link sw.closed sw.count s l g.reach layered.base_long on

  abbrev own : OwnEnds
  own = own_ends (at n.from) (at n.to) (is_in closable) n.links

  -- the network with the spurs' loads lumped
  abbrev lighter : Network
  lighter = record {
    load = lumped.load;
    capacity = n.capacity;
    flags = n.flags;
    from = n.from;
    to = n.to;
    form = n.form;
    cost = n.cost;
    guard = n.guard;
    elements = n.elements;
    links = n.links;
  }

  lighter_formed : WellFormed lighter
  lighter_formed = record {
    some = w.some;
    elements_fit = w.elements_fit;
    links_fit = w.links_fit;
    load_long = layered.load_long;
    capacity_long = w.capacity_long;
    flags_long = w.flags_long;
    from_long = w.from_long;
    to_long = w.to_long;
    form_long = w.form_long;
    cost_long = w.cost_long;
    guard_long = w.guard_long;
    load_in_lem = layered.load_in_lem;
    capacity_in = w.capacity_in;
    flags_in = w.flags_in;
    from_in = w.from_in;
    to_in = w.to_in;
    differ = w.differ;
    form_in = w.form_in;
    cost_in_lem = w.cost_in_lem;
    guard_in = w.guard_in;
    guarded = λ l k h. let g = w.guarded l k h in record { switch = g.switch; earlier = g.earlier; guards = g.guards };
    suited = w.suited;
  }

  checked_after : (s : ℕ) → Checked lumped.load n.capacity n.flags n.from n.to own.head own.next own.far (after s) n.elements n.links
  checked_after s = checked lighter lighter_formed (is_in closable) own (after s) refl (after_closable s)
      (length_states (at sw.link) (at sw.closed) sw.count s lumped.base ∙ layered.base_long)

  walk_own : walk ≡ record { own = own; load = lumped.load; capacity = n.capacity; elements = n.elements; links = n.links }
  unfolding closable_ends
  walk_own = g.walk_is

  -- the theorem: what `seek_candidates` asks
  pub walking : Walked n sw lumped.base walk
  walking = record {
    long = layered.base_long;
    opened = opened;
    lent = λ s. subst (λ (v : Walk). WalkLent v (after s)) (sym walk_own) (checked_after s).lent;
    elements_are = ap (λ (v : Walk). v.elements) g.walk_is;
    links_are = ap (λ (v : Walk). v.links) g.walk_is;
  }
    where
      -- a switch is open in `base`, and lumping closes nothing
      in_list : (i : ℕ) → i < (switch_list n (operable_in st)).count → at (opened_in st) (at (switch_list n (operable_in st)).link i) ≡ 0
      in_list i b =
          let k : i < length (operable_in st) = omega (arith, b, count_is n w op ok.switches) in
          ap (at (opened_in st)) (link_at n w op ok.switches few i k) ∙ opened_off st ok (at (operable_in st) i) (operable_in_lem n w op ok.switches i k).1 (operable_in_lem n w op ok.switches i k).0

      link_in : (i : ℕ) → i < (switch_list n (operable_in st)).count → at (switch_list n (operable_in st)).link i < n.links
      link_in i b =
          let k : i < length (operable_in st) = omega (arith, b, count_is n w op ok.switches) in
          omega (arith, link_at n w op ok.switches few i k, (operable_in_lem n w op ok.switches i k).0)

      opened : (i : ℕ) → i < sw.count → at lumped.base (at sw.link i) ≡ 0
      opened i b = layered.off (at sw.link i) (subst (λ (x : Switches). (i : ℕ) → i < x.count → at x.link i < n.links) (sym g.switches_are) link_in i b)
          (ap (λ (xs : List ℕ). at xs (at sw.link i)) g.base_is
          ∙ subst (λ (x : Switches). (i : ℕ) → i < x.count → at (opened_in st) (at x.link i) ≡ 0) (sym g.switches_are) in_list i b)

  abbrev fitting : ℕ → Bool
  fitting = fitting_in st sw lumped.base walk

  -- where a set leaves no loop, the loads in its states are those of its last configuration
  fits_last : (s : ℕ) → candidate? (net_of n) (set_in (operable_in st) s) ≡ true
      → fitting s ≡ not (ltb (lowest_over (net_of n).grid (last s)) (net_of n).grid.E)
  unfolding fitting_in walk_grid net_of grid_of passes? loaded
  fits_last s h =
      let radial = radial_out (net_of n).grid (formed_net n w) (last s) (and_left (radial? (net_of n).grid (last s)) _ h) in
      rw walk_own (ap (λ (x : ℕ). not (ltb x n.elements)) (over_lowest_is (checked_after s) sound (sound_of st _ ok.made ∙ sym (sound_is n w))))
      ∙ ap (λ (x : ℕ). not (ltb x n.elements)) (layered.same s (last s) radial.bridges (λ l b q. sym (states_at s l b) ∙ q)
      ∙ over_same (net_of n).grid (formed_net n w) _ (last s) (states_at s))

  fits_works : (s : ℕ) → (supplied_candidate? (net_of n) op s && fitting s) ≡ works? (net_of n) (set_in (operable_in st) s)
  unfolding supplied_candidate?
  fits_works s = go (candidate? (net_of n) (set_in (operable_in st) s)) refl ∙ supplied_works (net_of n) (formed_net n w) 4294967296 (set_in (operable_in st) s)
    where
      borne : Bool
      borne = supplied? (net_of n).grid (asks_of (net_of n)) (last s)

      go : (t : Bool) → candidate? (net_of n) (set_in (operable_in st) s) ≡ t
          → ((candidate? (net_of n) (set_in (operable_in st) s) && borne) && fitting s)
          ≡ ((candidate? (net_of n) (set_in (operable_in st) s) && borne) && not (ltb (lowest_over (net_of n).grid (last s)) (net_of n).grid.E))
      go true t = ap (λ (b : Bool). (candidate? (net_of n) (set_in (operable_in st) s) && borne) && b) (fits_last s t)
      go false t = rw t

  -- the theorem: the candidates tried in turn, from none on, give the first cheapest of all sets that work
  pub cheapest_found : {best : Best}
      → best ≡ scan (keep (λ s. set_cost (net_of n) (set_in (operable_in st) s)) (fitting_in st sw lumped.base walk)) (candidates_of (net_of n) op) none
      → best ≡ cheapest_by (operable_in st) (set_cost (net_of n)) (works? (net_of n))
  unfolding candidates_of cheapest_by
  cheapest_found e =
      e
      ∙ scan_tested (λ s. set_cost (net_of n) (set_in (operable_in st) s)) fitting (supplied_candidate? (net_of n) op) (sets_from (length (operable_in st)) 0) none
      ∙ scan_ext (λ s. set_cost (net_of n) (set_in (operable_in st) s)) _ _ _ (λ s. refl) fits_works (sets_from (length (operable_in st)) 0) none

-- the cheapest set's number is small
pub found_small : (st : Start) → Searchable st → {best : Best} → best ≡ cheapest_by (operable_in st) (set_cost (net_of st.net)) (works? (net_of st.net)) → best.set < 65536
found_small st ok e =
    let top : 2 ^ length (operable_in st) ≤ 2 ^ 16 = pow-le-pow_right {n = 2} (omega arith) ok.few in
    omega (arith, ap (λ (b : Best). b.set) e, cheapest_below (operable_in st) (set_cost (net_of st.net)) (works? (net_of st.net)))
