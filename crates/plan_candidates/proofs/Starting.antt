-- The search starts from the parts of the configuration whose operable switches are open: labels and holdings stand for them.
-- Assumes nothing.
use mathlib.Core.Path.{◌≡◌, refl, sym, ap, ap₂, ◌∙◌}
use mathlib.Core.Bool.{Bool, true, false, ◌&&◌}
use mathlib.Core.List.{List}
use Prim.Native.Nat.{ℕ, ◌<◌, ◌≤◌}
use native.Mathlib.Omega.{arith}
use lib.Dec.{eqb}
use lib.ListN.{length}
use borrow.Author.Tests.{eqb-true}
use Rattle.network.specs.declared.Network.{Network}
use Rattle.network.specs.Accepted.{WellFormed}
use Rattle.feeding.specs.Below.{bits, gate, sum_to}
use Rattle.feeding.specs.Networks.{Grid, net_of, grid_of, at, is_in}
use Rattle.feeding.specs.Parts.{Config, closed_in, label}
use Rattle.feeding.specs.Restoration.{restorable?}
use Rattle.feeding.proofs.Below.{eqb_comm, and_left, any_to_ext}
use Rattle.feeding.proofs.Decided.{Kept, safe_kept}
use Rattle.feeding.proofs.Labels.{label_of_label}
use Rattle.feeding.proofs.Lows.{length_tabulate, at_tabulate}
use Rattle.feeding.proofs.Sums.{sum_to_ext}
use Rattle.feeding.proofs.Views.{formed_net}
use Rattle.feeding_parts.specs.declared.Parts.{Parts}
use Rattle.feeding_parts.specs.Labelling.{Falls, root_of, parts_of}
use Rattle.feeding_parts.proofs.Grids.{label_le, label_long}
use Rattle.feeding_parts.proofs.Roots.{root_own, root_up}
use Rattle.feeding_sets.specs.Sets.{PartsReach, part_has}
use Rattle.feeding_restoration.proofs.Reach.{parts_reach}
use Rattle.feeding_restoration.proofs.Sets.{set_at, fits}
use Rattle.feeding_restoration.proofs.Spreads.{label_is}
use Rattle.feeding_start.specs.declared.Start.{Start}
use Rattle.feeding_start.specs.Starting.{Searchable}
use Rattle.feeding_start.proofs.Starts.{faulty_of, restorable_of}
use Rattle.plan_stops.specs.Candidates.{radial?, opened_by}
use Rattle.plan_stops.specs.Holding.{waits_for}
use Rattle.plan_stops.proofs.Carried.{CarriedParts, part_has?, part_holds, waiting_parts}
use Rattle.plan_stops.proofs.Radial.{radial_opened}
use Rattle.plan_holdings.specs.Holdings.{waiting_at, holdings_of}
use Rattle.plan_candidates.specs.Candidates.{opened_in, based_on}
use Rattle.plan_candidates.proofs.Arrays.{opened_at, sources_at}

-- what the calls return that the start is made of
pub record Gathered (st : Start) (base : List ℕ) (parts : Parts) (live fault need holds : List ℕ) (total : ℕ) : Type 0 where
  pub base_is : base ≡ opened_in st
  pub parts_is : parts ≡ parts_of st.net.from st.net.to base st.net.links
  pub live_is : live ≡ bits 96 st.net.elements (part_has parts.label st.sound st.net.elements)
  pub fault_is : fault ≡ bits 96 st.net.elements (part_has parts.label st.faulty st.net.elements)
  pub need_is : need ≡ bits 96 st.net.elements (part_has parts.label st.restorable st.net.elements)
  pub holds_is : holds ≡ holdings_of live fault need
  pub total_is : total ≡ sum_to st.net.elements (waiting_at parts.label holds)

pub gathered : (st : Start) {base : List ℕ} {parts : Parts} {live fault need holds : List ℕ} {total : ℕ}
    → base ≡ opened_in st → parts ≡ parts_of st.net.from st.net.to base st.net.links
    → live ≡ bits 96 st.net.elements (part_has parts.label st.sound st.net.elements)
    → fault ≡ bits 96 st.net.elements (part_has parts.label st.faulty st.net.elements)
    → need ≡ bits 96 st.net.elements (part_has parts.label st.restorable st.net.elements) → holds ≡ holdings_of live fault need
    → total ≡ sum_to st.net.elements (waiting_at parts.label holds)
    → Gathered st base parts live fault need holds total
gathered st a b f g h i j = record { base_is = a; parts_is = b; live_is = f; fault_is = g; need_is = h; holds_is = i; total_is = j }

-- ---- what the calls ask

holdings_long : (live fault need : List ℕ) → length (holdings_of live fault need) ≡ 64
unfolding holdings_of
holdings_long live fault need = length_tabulate 64 _

module _ (n : Network) (w : WellFormed n) where
  -- a set of elements, of `spread`
  pub spread_reach : (base : List ℕ) (parts : Parts) (has : List ℕ) → parts ≡ parts_of n.from n.to base n.links → length has ≡ 96
      → PartsReach parts.label has n.elements
  spread_reach base parts has p e =
      parts_reach n.elements n.links n.from n.to base parts has w.elements_fit p (omega (arith, w.elements_fit))

  -- labels lent as a slice
  pub label_counted : (base : List ℕ) (parts : Parts) → parts ≡ parts_of n.from n.to base n.links → 64 ≡ length parts.label
  label_counted base parts p = sym (ap (λ (x : Parts). length x.label) p ∙ label_long n.from n.to base n.links)

  -- of `waiting_parts`
  pub waiting_reach : (base : List ℕ) (parts : Parts) (live fault need holds : List ℕ) → parts ≡ parts_of n.from n.to base n.links
      → holds ≡ holdings_of live fault need → (n.elements ≤ length parts.label) × (n.elements ≤ length holds)
  waiting_reach base parts live fault need holds p e = (
    rw p (omega (arith, w.elements_fit, label_long n.from n.to base n.links)),
    rw e (omega (arith, w.elements_fit, holdings_long live fault need)),
  )

-- ---- where the search starts

-- the rules that a safe configuration keeps make it radial
safe_radial : (g : Grid) (c : Config) → Kept g c → radial? g c ≡ true
unfolding radial?
safe_radial g c k = rw (k.tree, k.pair, k.fault)

module _ (st : Start) (ok : Searchable st) {base : List ℕ} {parts : Parts} {live fault need holds : List ℕ} {total : ℕ}
    (s : Gathered st base parts live fault need holds total) where
  abbrev n : Network
  n = st.net

  abbrev w : WellFormed n
  w = ok.formed

  base_at : (l : ℕ) → l < n.links → closed_in base l ≡ based_on st l
  base_at l k = ap (λ (xs : List ℕ). is_in xs l) s.base_is ∙ opened_at st ok l k

  pub label_at : (e : ℕ) → e < n.elements → at parts.label e ≡ label (net_of n).grid (based_on st) e
  unfolding net_of
  label_at e k =
      ap (λ (p : Parts). at p.label e) s.parts_is
      ∙ label_is n.elements n.links n.load n.capacity n.flags n.from n.to base (based_on st) w.elements_fit
      (λ l kl. (w.from_in l kl, w.to_in l kl)) base_at e k

  pub low : (e : ℕ) → at parts.label e ≤ e
  low e = rw s.parts_is (label_le n.from n.to base n.links e)

  pub long : length parts.label ≡ 64
  long = rw s.parts_is (label_long n.from n.to base n.links)

  falls : Falls parts.label
  falls e k = low e

  -- a label is its own label, so it is the root
  root_at : (e : ℕ) → e < n.elements → root_of parts.label e ≡ label (net_of n).grid (based_on st) e
  root_at e k = sym (root_up parts.label falls e) ∙ root_own parts.label (at parts.label e) own ∙ label_at e k
    where
      own : at parts.label (at parts.label e) ≡ at parts.label e
      own =
          label_at (at parts.label e) (omega (arith, low e)) ∙ ap (label (net_of n).grid (based_on st)) (label_at e k)
          ∙ label_of_label (net_of n).grid (based_on st) e ∙ sym (label_at e k)

  -- a set spread over the parts, at the label of a part
  part_at : (has spread : List ℕ) (f : ℕ → Bool) → spread ≡ bits 96 n.elements (part_has parts.label has n.elements)
      → ((y : ℕ) → y < n.elements → is_in has y ≡ f y) → (x : ℕ) → x < n.elements → label (net_of n).grid (based_on st) x ≡ x
      → is_in spread x ≡ part_has? (net_of n) (based_on st) f x
  unfolding part_has part_has? net_of grid_of
  part_at has spread f e is x k own =
      set_at n w n.elements _ spread (fits n w) e x k
      ∙ any_to_ext n.elements _ _ (λ y ky.
      ap₂ ◌&&◌ (is y ky) (ap₂ eqb (label_at x k ∙ own) (label_at y ky) ∙ eqb_comm x (label (net_of n).grid (based_on st) y)))

  faulty_at : (y : ℕ) → y < n.elements → is_in st.faulty y ≡ (net_of n).grid.faulty y
  faulty_at = set_at n w n.elements _ st.faulty (fits n w) (faulty_of st _ ok.made)

  restorable_at : (y : ℕ) → y < n.elements → is_in st.restorable y ≡ restorable? (net_of n) y
  restorable_at = set_at n w n.elements _ st.restorable (fits n w) (restorable_of st _ ok.made)

  holds_at : (x : ℕ) → x < n.elements → label (net_of n).grid (based_on st) x ≡ x → at holds x ≡ part_holds (net_of n) (based_on st) x
  unfolding holdings_of part_holds
  holds_at x k own =
      ap (λ (xs : List ℕ). at xs x) s.holds_is ∙ at_tabulate 64 _ x (omega (arith, w.elements_fit))
      ∙ rw (
        part_at st.sound live _ s.live_is (sources_at st ok) x k own,
        part_at st.faulty fault _ s.fault_is faulty_at x k own,
        part_at st.restorable need _ s.need_is restorable_at x k own,
      )

  -- the parts that wait are counted at their labels
  total_at : waiting_parts (net_of n) (based_on st) ≡ total
  unfolding waiting_parts waiting_at net_of grid_of
  total_at = sum_to_ext n.elements _ _ (λ x k. go x k (eqb (label (net_of n).grid (based_on st) x) x) refl) ∙ sym s.total_is
    where
      go : (x : ℕ) → x < n.elements → (t : Bool) → eqb (label (net_of n).grid (based_on st) x) x ≡ t
          → gate (eqb (label (net_of n).grid (based_on st) x) x && waits_for (part_holds (net_of n) (based_on st) x)) 1
          ≡ gate (eqb (at parts.label x) x && waits_for (at holds x)) 1
      go x k true t = rw (label_at x k, holds_at x k (eqb-true _ _ t))
      go x k false t = rw (label_at x k, t)

  -- opening switches of a safe start leaves it radial
  pub radial : radial? (net_of n).grid (based_on st) ≡ true
  unfolding opened_by
  radial =
      radial_opened (net_of n).grid (formed_net n w) (net_of n).start_closed (based_on st) (λ l h. and_left ((net_of n).start_closed l) _ h)
      (safe_radial (net_of n).grid (net_of n).start_closed (safe_kept (net_of n).grid (formed_net n w) (net_of n).start_closed ok.safe))

  -- the theorem: labels and holdings stand for the parts of the configuration whose operable switches are open
  pub starting_carried : CarriedParts (net_of n) (based_on st) total 0 parts.label holds
  unfolding net_of grid_of
  starting_carried = record {
    fit = w.elements_fit;
    parent_long = long;
    holds_long = ap length s.holds_is ∙ holdings_long live fault need;
    falls = falls;
    roots = root_at;
    holds_is = holds_at;
    radial = radial;
    counted = omega (arith, total_at);
  }
