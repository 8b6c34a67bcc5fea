-- What the search starts from as to loads: each part's number is what its source bears more, or what it asks where it has none.
-- Assumes nothing.
use mathlib.Core.Path.{◌≡◌, refl, sym, ap, ◌∙◌}
use mathlib.Core.Bool.{Bool, true, false, ◌&&◌, false≢true}
use mathlib.Core.List.{List}
use Prim.Native.Nat.{ℕ, ◌+◌, ◌*◌, ◌^◌, ◌<◌, ◌≤◌}
use native.Mathlib.Omega.{arith}
use lib.Dec.{eqb, ltb}
use lib.ListN.{length, get_or-eq_default}
use borrow.Author.Tests.{ltb-true, ltb-false}
use Rattle.network.specs.declared.Network.{Network}
use Rattle.network.specs.Accepted.{WellFormed}
use Rattle.feeding.specs.Below.{gate}
use Rattle.feeding.specs.Networks.{net_of, grid_of, at, is_in}
use Rattle.feeding.specs.Parts.{Sound, label, sound?}
use Rattle.feeding.proofs.Below.{gate_le, and_left}
use Rattle.feeding.proofs.Sums.{sum_to_ext, sum_to_below}
use Rattle.feeding.proofs.Opening.{opening_safe}
use Rattle.feeding.proofs.Tests.{sound?_in, sound?_out}
use Rattle.feeding.proofs.Views.{formed_net}
use Rattle.feeding_parts.specs.declared.Parts.{Parts}
use Rattle.feeding_restoration.proofs.Reach.{bits_long}
use Rattle.feeding_start.specs.declared.Start.{Start}
use Rattle.feeding_start.specs.Starting.{Searchable}
use Rattle.feeding_start.proofs.Starts.{sound_of}
use Rattle.plan_stops.specs.Holding.{has_source, waits_for}
use Rattle.plan_stops.proofs.Carried.{part_holds, part_in, holds_source}
use Rattle.plan_stops.specs.Candidates.{opened_by}
use Rattle.plan_stops.proofs.OneMore.{label_joined}
use Rattle.plan_stops.proofs.Radial.{Radial, radial_out}
use Rattle.plan_holdings.specs.Holdings.{waiting_at}
use Rattle.plan_stops.specs.Supply.{part_asks, own_ask, supplied?}
use Rattle.plan_stops.proofs.Supplied.{supplied_out}
use Rattle.plan_stops.proofs.Weighed.{Weighed}
use Rattle.plan_stops.proofs.Works.{safe_supplied}
use Rattle.plan_supply.specs.Supply.{Light, Rated, Sourced, ask_of, asked_at, asks_in, spare_at, spare_in}
use Rattle.plan_supply.proofs.Adding.{asks_long, asks_at, asked_most, spare_long, spare_at_lem, spare_most, spare_dark, spare_fed}
use Rattle.plan_candidates.specs.Candidates.{asks_of, based_on, Founded}
use Rattle.plan_candidates.proofs.Arrays.{sources_at}
use Rattle.plan_candidates.proofs.Starting.{Gathered, label_at, low, long, radial, starting_carried}

-- ---- what the parts ask where the search starts

module _ (st : Start) (ok : Searchable st) {base : List ℕ} {parts : Parts} {live fault need holds : List ℕ} {total : ℕ}
    (s : Gathered st base parts live fault need holds total) where
  abbrev n : Network
  n = st.net

  abbrev w : WellFormed n
  w = ok.formed

  abbrev sound : List ℕ
  sound = st.sound

  abbrev asks : ℕ → ℕ
  asks = asks_of (net_of n)

  abbrev asked : List ℕ
  asked = asks_in parts.label n.load n.capacity n.elements

  -- what `spare_of` asks
  pub rated : Rated parts.label n.load n.capacity n.elements
  rated = record {
    fit = w.elements_fit;
    label_long = omega (arith, w.elements_fit, long st ok s);
    load_long = omega (arith, w.elements_fit, w.load_long);
    capacity_long = omega (arith, w.elements_fit, w.capacity_long);
    label_in = λ e k. omega (arith, low st ok s e, w.elements_fit);
    load_in_lem = λ e k. omega (arith, w.load_in_lem e k);
  }

  -- every source bears its part: the start is safe, and switches were opened
  supplied : supplied? (net_of n).grid asks (based_on st) ≡ true
  unfolding opened_by
  supplied = safe_supplied (net_of n).grid (formed_net n w) (based_on st) 4294967296
      (opening_safe (net_of n).grid (based_on st) (net_of n).start_closed (λ l h. and_left ((net_of n).start_closed l) _ h) ok.safe)

  -- what is asked at a label is what its part asks
  asked_part : (x : ℕ) → x < 64 → at asked x ≡ part_asks (net_of n).grid asks (based_on st) x
  unfolding asked_at ask_of part_asks own_ask net_of grid_of
  asked_part x h =
      asks_at parts.label n.load n.capacity n.elements x h
      ∙ sum_to_ext n.elements _ _ (λ e k. ap (λ (y : ℕ). gate (eqb y x) (asks e)) (label_at st ok s e k))

  label_small : (e : ℕ) → e < n.elements → label (net_of n).grid (based_on st) e < 64
  label_small e k = omega (arith, label_at st ok s e k, low st ok s e, w.elements_fit)

  -- a source among the sound elements
  source : (e : ℕ) → e < n.elements → is_in sound e ≡ true → Sound (net_of n).grid e
  unfolding net_of grid_of
  source e k h = sound?_out (net_of n).grid e k (sym (sources_at st ok e k) ∙ h)

  pub sourced : Sourced (asks_in parts.label n.load n.capacity n.elements) parts.label sound n.capacity n.elements
  unfolding net_of grid_of
  sourced = record {
    fit = w.elements_fit;
    asked_long = asks_long parts.label n.load n.capacity n.elements;
    label_long = rated.label_long;
    sound_long = omega (arith, w.elements_fit, bits_long _ _ _ (sound_of st _ ok.made));
    capacity_long = rated.capacity_long;
    label_in = rated.label_in;
    capacity_in = λ e k. omega (arith, w.capacity_in e k);
    borne = λ e k h. omega (
      arith,
      ap (at asked) (label_at st ok s e k),
      asked_part (label (net_of n).grid (based_on st) e) (label_small e k),
      (supplied_out (net_of n).grid asks (based_on st) supplied).bears e (source e k h),
    );
  }

  module _ {spare : List ℕ} (spare-is : spare ≡ spare_in (asks_in parts.label n.load n.capacity n.elements) parts.label sound n.capacity n.elements) where
    number : (x : ℕ) → x < 64 → at spare x ≡ spare_at asked parts.label sound n.capacity n.elements x
    number x h = ap (λ (xs : List ℕ). at xs x) spare-is ∙ spare_at_lem asked parts.label sound n.capacity n.elements x h

    radial_start : Radial (net_of n).grid (based_on st)
    radial_start = radial_out (net_of n).grid (formed_net n w) (based_on st) (radial st ok s)

    -- the theorem: the numbers stand for the parts
    starting_weighed : Weighed (net_of n) (asks_of (net_of n)) (based_on st) spare
    unfolding net_of grid_of
    starting_weighed = record {
      long = ap length spare-is ∙ spare_long asked parts.label sound n.capacity n.elements;
      dark = dark;
      fed = fed;
    }
      where
        dark : (x : ℕ) → x < n.elements → label (net_of n).grid (based_on st) x ≡ x → has_source (part_holds (net_of n) (based_on st) x) ≡ false
            → at spare x ≡ part_asks (net_of n).grid asks (based_on st) x
        dark x k own none =
            number x (omega (arith, w.elements_fit))
            ∙ spare_dark asked parts.label sound n.capacity n.elements x (λ e b h q. false≢true (sym none ∙ holds_source (net_of n) (based_on st) x
            ∙ part_in (net_of n) (based_on st) (sound? (net_of n).grid) x e b (sym (sources_at st ok e b) ∙ h) (sym (label_at st ok s e b) ∙ q)))
            ∙ asked_part x (omega (arith, w.elements_fit))

        fed : (e : ℕ) → Sound (net_of n).grid e → at spare (label (net_of n).grid (based_on st) e) + part_asks (net_of n).grid asks (based_on st) (label (net_of n).grid (based_on st) e) ≡ (net_of n).grid.capacity e
        fed e p = omega (
          arith,
          number x (label_small e p.below),
          spare_fed asked parts.label sound n.capacity n.elements x e p.below (sources_at st ok e p.below ∙ sound?_in (net_of n).grid e p)
              (label_at st ok s e p.below) only,
          asked_part x (label_small e p.below),
          (supplied_out (net_of n).grid asks (based_on st) supplied).bears e p,
        )
          where
            x : ℕ
            x = label (net_of n).grid (based_on st) e

            only : (t : ℕ) → t < n.elements → is_in sound t ≡ true → at parts.label t ≡ x → t ≡ e
            only t b h q = radial_start.one t e (source t b h) p
                (label_joined (net_of n).grid (formed_net n w) (based_on st) e t p.below b (sym (label_at st ok s t b) ∙ q))

    -- and they are small
    starting_light : Light spare 0
    starting_light = record {
      long = ap length spare-is ∙ spare_long asked parts.label sound n.capacity n.elements;
      small = λ x. small x (ltb x 64) refl;
    }
      where
        small : (x : ℕ) (t : Bool) → ltb x 64 ≡ t → at spare x < 1099511627776 * 2 ^ 0
        small x true t = omega (
          arith,
          number x (ltb-true x 64 t),
          spare_most asked parts.label sound n.capacity n.elements x (λ e k. omega (arith, w.capacity_in e k)),
          asks_at parts.label n.load n.capacity n.elements x (ltb-true x 64 t),
          asked_most parts.label n.load n.capacity n.elements x (λ e k. omega (arith, w.load_in_lem e k)),
          w.elements_fit,
        )
        small x false t = omega (
          arith,
          get_or-eq_default spare 0 {n = x} (omega (arith, ltb-false x 64 t, ap length spare-is, spare_long asked parts.label sound n.capacity n.elements)),
        )

    few : total ≤ 64
    unfolding waiting_at
    few = omega (
      arith,
      s.total_is,
      sum_to_below 1 (waiting_at parts.label holds) n.elements (λ x k. gate_le (eqb (at parts.label x) x && waits_for (at holds x)) 1),
      w.elements_fit,
    )

    -- the theorem: all that the search starts from
    pub founded : Founded st (record { label = parts.label; holds = holds; spare = spare; waiting = total })
    founded = record {
      carried = starting_carried st ok s;
      weighed = starting_weighed;
      light = starting_light;
      few = few;
    }
