-- One layer of spurs lumped leaves the lowest overloaded element as it is, whatever the set: each spur hangs by one link in the set's configuration.
-- Assumes nothing.
use Prim.Native.Nat.{ℕ, zero, suc, ◌+◌, ◌/◌, ◌≤◌, ◌<◌, ◌^◌}
use mathlib.Core.Path.{◌≡◌, refl, sym, ap, ◌∙◌, subst}
use mathlib.Core.Bool.{Bool, true, false, not, false≢true}
use mathlib.Core.Logic.{◌⊎◌, inl, inr, ⊎_elim}
use mathlib.Core.List.{List}
use lib.Dec.{eqb, ltb}
use lib.ListN.{length, set, length-set}
use lib.Seq.{get_or-set_same, get_or-set_other}
use borrow.Author.Tests.{eqb-true, eqb-false, eq-eqb, ltb-true, ltb-false, not-true}
use native.Mathlib.Omega.{arith}
use Rattle.feeding.specs.Below.{gate}
use Rattle.feeding.specs.Loads.{lowest_over}
use Rattle.feeding.specs.Networks.{Grid, Formed, at, is_in}
use Rattle.feeding.specs.Parts.{Config, sound?}
use Rattle.feeding.proofs.Below.{and_left, and_right}
use Rattle.feeding.proofs.Forest.{Bridges}
use Rattle.feeding.proofs.Labels.{far_lt}
use Rattle.plan_spurs.specs.declared.Lumped.{Lumped}
use Rattle.plan_spurs.specs.Spurs.{spur?, bears_both, lumped_at, lumped_to}
use Rattle.plan_spurs.proofs.Hanging.{chained, below, spur_hangs}
use Rattle.plan_spurs.proofs.Spur.{loaded, Hangs, spur_same}
use Rattle.plan_spurs.proofs.OneMore.{borne_fits, at_none, at_over, at_spur, none_lumped, one_more}

-- `over` gives the configuration that a set leaves over a list of links: switches as the set says, other links as in the list
pub record Laid (over : List ℕ → Config) (first : List ℕ) (has : ℕ → Bool) (K : ℕ) : Type 0 where
  pub other : (xs ys : List ℕ) → length xs ≡ 96 → length ys ≡ 96 → (m : ℕ) → m < K → at xs m ≡ at ys m → over xs m ≡ over ys m
  pub plain : (xs : List ℕ) (m : ℕ) → m < K → is_in first m ≡ true → over xs m ≡ is_in xs m
  pub closable : (m : ℕ) → m < K → over first m ≡ true → has m ≡ true

-- of the links in `first` some are left out, and loads have not grown too large
pub record Kept (first : List ℕ) (E K : ℕ) (s : Lumped) : Type 0 where
  pub base_long : length s.base ≡ 96
  pub load_long : length s.load ≡ 64
  pub load_in_lem : (e : ℕ) → e < E → at s.load e < 2 ^ 32
  pub left : (m : ℕ) → m < K → (at s.base m ≡ at first m) ⊎ ((is_in first m ≡ true) × (at s.base m ≡ 0))

-- what a spur's tests say
record Tests (next sound base : List ℕ) (e j : ℕ) : Type 0 where
  some : j < 192
  alone : 192 ≤ at next j
  dark : is_in sound e ≡ false
  closed : is_in base (j / 2) ≡ true

tests : (next sound base : List ℕ) (e j : ℕ) → spur? next sound base e j ≡ true → Tests next sound base e j
unfolding spur?
tests next sound base e j h =
    let rest = and_right (ltb j 192) _ h in
    let last = and_right (not (ltb (at next j) 192)) _ rest in
    record {
      some = ltb-true j 192 (and_left (ltb j 192) _ h);
      alone = ltb-false (at next j) 192 (not-true _ (and_left (not (ltb (at next j) 192)) _ rest));
      dark = not-true _ (and_left (not (is_in sound e)) _ last);
      closed = and_right (not (is_in sound e)) _ last;
    }

module _ (g : Grid) (formed : Formed g) (fit : g.K ≤ 96) (few : g.E ≤ 64) (has : ℕ → Bool) (sound capacity : List ℕ)
    (capacity_is : (e : ℕ) → e < g.E → at capacity e ≡ g.capacity e) (capacity_in : (e : ℕ) → e < g.E → at capacity e < 2 ^ 32)
    (sound_is : (e : ℕ) → e < g.E → is_in sound e ≡ sound? g e)
    (over : List ℕ → Config) (first : List ℕ) (first_long : length first ≡ 96) (laid : Laid over first has g.K) where
  abbrev Keeps : Lumped → Type 0
  Keeps = Kept first g.E g.K

  -- a configuration that closes all that the set leaves closed
  abbrev Within : Config → Type 0
  Within whole = (m : ℕ) → m < g.K → over first m ≡ true → whole m ≡ true

  abbrev lowest : Lumped → ℕ
  lowest s = lowest_over (loaded g (at s.load)) (over s.base)

  -- a link left out is open
  pub under : (s : Lumped) → Keeps s → (m : ℕ) → m < g.K → over s.base m ≡ true → over first m ≡ true
  under s k m b h = ⊎_elim
      (λ q. sym (laid.other s.base first k.base_long first_long m b q) ∙ h)
      (λ q. absurd (false≢true (sym (ap (λ x. eqb x 1) q.1) ∙ sym (laid.plain s.base m b q.0) ∙ h)))
      (k.left m b)

  first_in : (s : Lumped) → Keeps s → (m : ℕ) → m < g.K → is_in s.base m ≡ true → is_in first m ≡ true
  first_in s k m b h = ⊎_elim (λ q. ap (λ x. eqb x 1) (sym q) ∙ h) (λ q. q.0) (k.left m b)

  -- the spur e hangs from `to` by the link l and is lumped with it
  module _ (s : Lumped) (k : Keeps s) (e l to : ℕ) (inside : e < g.E) (closed : is_in s.base l ≡ true) (hangs : Hangs g (over s.base) e l to)
      (dark : is_in sound e ≡ false) (borne : bears_both (at s.load e) (at capacity e) (at s.load to) (at capacity to) ≡ true) where
    abbrev moved : Lumped
    moved = record { base = set s.base l 0; load = set s.load to (at s.load to + at s.load e) }

    fits : (at s.load e ≤ at capacity e) × (at s.load to + at s.load e ≤ at capacity to)
    fits = borne_fits (at s.load e) (at capacity e) (at s.load to) (at capacity to) borne

    to_in : to < g.E
    to_in = subst (λ x. x < g.E) hangs.far_is (far_lt g formed l e hangs.below)

    gone : at (set s.base l 0) l ≡ 0
    gone = get_or-set_same s.base l 0 0 (omega (arith, k.base_long, hangs.below, fit))

    base_other : (m : ℕ) → (m ≡ l → ⊥) → at (set s.base l 0) m ≡ at s.base m
    base_other m n = get_or-set_other s.base l m 0 0 n

    load_at : (x : ℕ) → x < g.E → (t : Bool) → eqb x to ≡ t → at moved.load x ≡ at s.load x + gate t (at s.load e)
    load_at x b true t =
        let same : x ≡ to = eqb-true x to t in
        rw same (get_or-set_same s.load to _ 0 (omega (arith, k.load_long, to_in, few)))
    load_at x b false t = omega (arith, get_or-set_other s.load to x (at s.load to + at s.load e) 0 (eqb-false x to t))

    moved_kept : Keeps moved
    moved_kept = record {
      base_long = length-set s.base l 0 ∙ k.base_long;
      load_long = length-set s.load to _ ∙ k.load_long;
      load_in_lem = λ x b. grown x b (eqb x to) refl;
      left = λ m b. gaps m b (eqb m l) refl;
    }
      where
        grown : (x : ℕ) → x < g.E → (t : Bool) → eqb x to ≡ t → at moved.load x < 2 ^ 32
        grown x b true t =
            let same : x ≡ to = eqb-true x to t in
            rw same (omega (arith, load_at to to_in true (eq-eqb to to refl), fits.1, capacity_in to to_in))
        grown x b false t = omega (arith, load_at x b false t, k.load_in_lem x b)

        gaps : (m : ℕ) → m < g.K → (t : Bool) → eqb m l ≡ t → (at moved.base m ≡ at first m) ⊎ ((is_in first m ≡ true) × (at moved.base m ≡ 0))
        gaps m b true t = let same : m ≡ l = eqb-true m l t in rw same (inr (first_in s k l hangs.below closed, gone))
        gaps m b false t = ⊎_elim (λ q. inl (base_other m (eqb-false m l t) ∙ q)) (λ q. inr (q.0, base_other m (eqb-false m l t) ∙ q.1)) (k.left m b)

    moved_same : (whole : Config) → Bridges g whole → Within whole → lowest moved ≡ lowest s
    moved_same whole bridges in_whole = spur_same g formed whole bridges e l to (over s.base) (over moved.base) (at s.load) (at moved.load)
        (λ m b h. in_whole m b (under s k m b h)) hangs
        (laid.plain moved.base l hangs.below (first_in s k l hangs.below closed) ∙ ap (λ x. eqb x 1) gone)
        (λ m b n. laid.other moved.base s.base moved_kept.base_long k.base_long m b (base_other m n))
        (λ x b n. load_at x b (eqb x to) refl)
        (omega (arith, fits.0, capacity_is e inside)) (sym (sound_is e inside) ∙ dark)

  -- a step of the definition does this or nothing
  pub record Same (before after : Lumped) : Type 0 where
    pub kept : Keeps after
    pub same : (whole : Config) → Bridges g whole → Within whole → lowest after ≡ lowest before

  module _ (s : Lumped) (k : Keeps s) (e : ℕ) (inside : e < g.E) where
    abbrev j : ℕ
    j = at (chained g formed fit has).head e

    abbrev to : ℕ
    to = at (chained g formed fit has).far j

    stays : {t : Lumped} → t ≡ s → Same s t
    stays q = rw q (record { kept = k; same = λ _ _ _. refl })

    by_load : Tests (chained g formed fit has).next sound s.base e j → spur? (chained g formed fit has).next sound s.base e j ≡ true
        → (t : Bool) → bears_both (at s.load e) (at capacity e) (at s.load to) (at capacity to) ≡ t
        → Same s (lumped_at (chained g formed fit has) sound capacity e s)
    by_load r h false t = stays (at_over (chained g formed fit has) sound capacity e s h r.some t)
    by_load r h true t = rw (at_spur (chained g formed fit has) sound capacity e s h r.some t) (record {
      kept = moved_kept s k e (j / 2) to inside r.closed hangs r.dark t;
      same = moved_same s k e (j / 2) to inside r.closed hangs r.dark t;
    })
      where
        link_in : j / 2 < g.K
        link_in = omega (arith, below g formed fit has e j (omega arith) refl r.some r.alone)

        on : over s.base (j / 2) ≡ true
        on = laid.plain s.base (j / 2) link_in (first_in s k (j / 2) link_in r.closed) ∙ r.closed

        hangs : Hangs g (over s.base) e (j / 2) to
        hangs = spur_hangs g formed fit has e j (omega arith) refl r.some r.alone (over s.base) (λ m b h. laid.closable m b (under s k m b h)) on

    one : Same s (lumped_at (chained g formed fit has) sound capacity e s)
    one = by_spur (spur? (chained g formed fit has).next sound s.base e j) refl
      where
        by_spur : (t : Bool) → spur? (chained g formed fit has).next sound s.base e j ≡ t
            → Same s (lumped_at (chained g formed fit has) sound capacity e s)
        by_spur true t = by_load (tests _ sound s.base e j t) t _ refl
        by_spur false t = stays (at_none (chained g formed fit has) sound capacity e s t)

  -- the theorem: all elements in turn
  pub layer_same : (before : Lumped) → Keeps before → (n : ℕ) → n ≤ g.E
      → Same before (lumped_to (chained g formed fit has) sound capacity before n)
  layer_same before k zero h = rw (← none_lumped (chained g formed fit has) sound capacity before) (record { kept = k; same = λ _ _ _. refl })
  layer_same before k (suc n) h = rw (one_more (chained g formed fit has) sound capacity before n) (go (layer_same before k n (omega arith)))
    where
      go : Same before (lumped_to (chained g formed fit has) sound capacity before n)
          → Same before (lumped_at (chained g formed fit has) sound capacity n (lumped_to (chained g formed fit has) sound capacity before n))
      go r = record { kept = (one _ r.kept n (omega arith)).kept; same = λ whole b i. (one _ r.kept n (omega arith)).same whole b i ∙ r.same whole b i }
