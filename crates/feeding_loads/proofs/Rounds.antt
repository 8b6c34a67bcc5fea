-- A walk over an element's own ends adds up what its links carry: the ends that are skipped add nothing, and a link that leads on has one own end.
-- Assumes nothing.
use Prim.Native.Nat.{ℕ, zero, suc, ◌+◌, ◌*◌, ◌/◌, ◌≤◌, ◌<◌, min}
use mathlib.Core.Path.{◌≡◌, refl, sym, ap, ◌∙◌}
use mathlib.Core.Bool.{Bool, true, false, not, ◌&&◌, ◌||◌, and-false, false≢true}
use lib.Dec.{eqb}
use borrow.Author.Tests.{eqb-true, eq-eqb, ne_eqb, lt-ltb}
use native.Mathlib.Omega.{arith}
use Rattle.feeding.specs.Below.{gate, sum_to, least_to}
use Rattle.feeding.specs.Networks.{Grid, Formed}
use Rattle.feeding.specs.Parts.{Config, touches, far}
use Rattle.feeding.specs.Loads.{borne?, leads, element_load, link_load, above, element_over, link_over}
use Rattle.feeding.proofs.Below.{and_both, or_else}
use Rattle.feeding.proofs.Labels.{far_lt}
use Rattle.feeding.proofs.Lows.{least_to_no, least_to_more, least_to_top, least_to_gap, least_to_pairs}
use Rattle.feeding.proofs.Margins.{le_borne, lt_borne}
use Rattle.feeding.proofs.Sums.{sum_to_no, sum_to_more, sum_to_gap, sum_to_grows, sum_to_pairs}
use Rattle.feeding_ends.specs.Ends.{end_at, own}
use Rattle.feeding_loads.specs.Walks.{Skips, lower_over, element_carried, link_carried}
use Rattle.feeding_ends.proofs.Chains.{end_first, end_second, own_yes, own_no}

-- ---- the lower of two numbers, where the load is above the capacity

pub lower_within : (e x cap over : ℕ) → x ≤ cap → lower_over e x cap over ≡ over
unfolding lower_over
lower_within e x cap over h = rw (le_borne cap x h, lower_over)

pub lower_above : (e x cap over : ℕ) → cap < x → lower_over e x cap over ≡ min e over
unfolding lower_over
lower_above e x cap over h = rw (lt_borne cap x h, lower_over)

-- ---- what an own end adds

-- the end i is at e, and its link leads on
unfoldable pub lead_end : Grid → Config → (e via : ℕ) → ℕ → Bool
lead_end g c e via i = own g.end_a g.end_b c g.K e i && not (eqb (i / 2) via)

unfoldable pub end_load : Grid → Config → (d e via : ℕ) → ℕ → ℕ
end_load g c d e via i = gate (lead_end g c e via i) (link_load g c d (i / 2) e)

unfoldable pub end_over : Grid → Config → (d e via : ℕ) → ℕ → ℕ
end_over g c d e via i = or_else g.E (lead_end g c e via i) (link_over g c d (i / 2) e)

-- one of the two ends at most passes
pair_gate : (p q r s : Bool) (x : ℕ) → (p ≡ true → q ≡ true → ⊥) → gate ((p && r) && s) x + gate ((q && r) && s) x ≡ gate (r && ((p || q) && s)) x
pair_gate true true r s x h = absurd (h refl refl)
pair_gate true false true true x h = omega arith
pair_gate true false true false x h = omega arith
pair_gate true false false s x h = omega arith
pair_gate false true true true x h = omega arith
pair_gate false true true false x h = omega arith
pair_gate false true false s x h = omega arith
pair_gate false false true s x h = omega arith
pair_gate false false false s x h = omega arith

pair_low : (z : ℕ) (p q r s : Bool) (x : ℕ) → x ≤ z → (p ≡ true → q ≡ true → ⊥)
    → min (or_else z ((p && r) && s) x) (or_else z ((q && r) && s) x) ≡ or_else z (r && ((p || q) && s)) x
pair_low z true true r s x k h = absurd (h refl refl)
pair_low z true false true true x k h = omega arith
pair_low z true false true false x k h = omega arith
pair_low z true false false s x k h = omega arith
pair_low z false true true true x k h = omega arith
pair_low z false true true false x k h = omega arith
pair_low z false true false s x k h = omega arith
pair_low z false false true s x k h = omega arith
pair_low z false false false s x k h = omega arith

above_top : (g : Grid) (e x : ℕ) → e ≤ g.E → above g e x ≤ g.E
unfolding above
above_top g e x h = go (borne? (g.capacity e) x)
  where
    go : (t : Bool) → elim t [ true ↦ g.E | false ↦ e ] ≤ g.E
    go true = omega arith
    go false = h

module _ (g : Grid) (c : Config) where
  pub load_none : (e via : ℕ) → element_load g c zero e via ≡ g.load e
  unfolding element_load
  load_none e via = refl

  pub load_more : (d e via : ℕ) → element_load g c (suc d) e via ≡ g.load e + sum_to g.K (λ l. gate (leads g c e via l) (link_load g c d l e))
  unfolding element_load
  load_more d e via = refl

  pub over_none : (e via : ℕ) → element_over g c zero e via ≡ above g e (g.load e)
  unfolding element_over element_load
  over_none e via = refl

  pub over_more : (d e via : ℕ)
      → element_over g c (suc d) e via
      ≡ min (above g e (element_load g c (suc d) e via)) (least_to g.K g.E (λ l. or_else g.E (leads g c e via l) (link_over g c d l e)))
  unfolding element_over
  over_more d e via = refl

  -- no number found is above E
  over_top : (d e via : ℕ) → e < g.E → element_over g c d e via ≤ g.E
  over_top zero e via h = omega (arith, over_none e via, above_top g e (g.load e) (omega arith))
  over_top (suc d) e via h = omega (
    arith,
    over_more d e via,
    least_to_top g.K g.E (λ l. or_else g.E (leads g c e via l) (link_over g c d l e)),
  )

  link_top : Formed g → (d l e : ℕ) → l < g.K → link_over g c d l e ≤ g.E
  unfolding link_over
  link_top formed zero l e k = omega arith
  link_top formed (suc d) l e k = over_top d (far g l e) l (far_lt g formed l e k)

  lead_first : (e via l : ℕ) → l < g.K → lead_end g c e via (2 * l) ≡ ((eqb (g.end_a l) e && c l) && not (eqb l via))
  unfolding lead_end own
  lead_first e via l k =
      let half : 2 * l / 2 ≡ l = omega arith in
      rw (lt-ltb (2 * l) (2 * g.K) (omega arith), half, end_first g.end_a g.end_b l)

  lead_second : (e via l : ℕ) → l < g.K → lead_end g c e via (2 * l + 1) ≡ ((eqb (g.end_b l) e && c l) && not (eqb l via))
  unfolding lead_end own
  lead_second e via l k =
      let half : (2 * l + 1) / 2 ≡ l = omega arith in
      rw (lt-ltb (2 * l + 1) (2 * g.K) (omega arith), half, end_second g.end_a g.end_b l)

  lead_off : (e via i : ℕ) → own g.end_a g.end_b c g.K e i ≡ false → lead_end g c e via i ≡ false
  unfolding lead_end
  lead_off e via i h = rw h

  not_both : Formed g → (e l : ℕ) → l < g.K → eqb (g.end_a l) e ≡ true → eqb (g.end_b l) e ≡ true → ⊥
  not_both formed e l k p q = formed.differ l k (eqb-true _ e p ∙ sym (eqb-true _ e q))

module _ (g : Grid) (formed : Formed g) (c : Config) (d e via : ℕ) where
  first_half : (l : ℕ) → 2 * l / 2 ≡ l
  first_half l = omega arith

  second_half : (l : ℕ) → (2 * l + 1) / 2 ≡ l
  second_half l = omega arith

  pair_load : (l : ℕ) → l < g.K → end_load g c d e via (2 * l) + end_load g c d e via (2 * l + 1) ≡ gate (leads g c e via l) (link_load g c d l e)
  unfolding end_load leads touches
  pair_load l k = rw (lead_first g c e via l k, lead_second g c e via l k, first_half l, second_half l)
      (pair_gate (eqb (g.end_a l) e) (eqb (g.end_b l) e) (c l) (not (eqb l via)) (link_load g c d l e) (not_both g c formed e l k))

  pair_over : (l : ℕ) → l < g.K
      → min (end_over g c d e via (2 * l)) (end_over g c d e via (2 * l + 1)) ≡ or_else g.E (leads g c e via l) (link_over g c d l e)
  unfolding end_over leads touches
  pair_over l k = rw (lead_first g c e via l k, lead_second g c e via l k, first_half l, second_half l)
      (pair_low g.E (eqb (g.end_a l) e) (eqb (g.end_b l) e) (c l) (not (eqb l via)) (link_over g c d l e) (link_top g c formed d l e k)
      (not_both g c formed e l k))

  load_off : (i : ℕ) → lead_end g c e via i ≡ false → end_load g c d e via i ≡ 0
  unfolding end_load
  load_off i h = rw h

  over_off : (i : ℕ) → lead_end g c e via i ≡ false → end_over g c d e via i ≡ g.E
  unfolding end_over
  over_off i h = rw h

  lead_past : (i : ℕ) → 2 * g.K ≤ i → lead_end g c e via i ≡ false
  lead_past i h = lead_off g c e via i (own_no g.end_a g.end_b c g.K e i (λ k _ _. omega arith))

  -- over all ends it is what the links add
  all_loads : g.K ≤ 96 → g.load e + sum_to 192 (end_load g c d e via) ≡ element_load g c (suc d) e via
  all_loads fit = omega (
    arith,
    sum_to_gap (end_load g c d e via) (2 * g.K) 192 (omega arith) (λ i a b. load_off i (lead_past i a)),
    sum_to_pairs (end_load g c d e via) (λ l. gate (leads g c e via l) (link_load g c d l e)) g.K pair_load,
    load_more g c d e via,
  )

  all_lows : g.K ≤ 96
      → least_to 192 g.E (end_over g c d e via) ≡ least_to g.K g.E (λ l. or_else g.E (leads g c e via l) (link_over g c d l e))
  all_lows fit =
      least_to_gap g.E (end_over g c d e via) (2 * g.K) 192 (omega arith)
      (λ i a b. omega (arith, over_off i (lead_past i a)))
      ∙ least_to_pairs g.E (end_over g c d e via) (λ l. or_else g.E (leads g c e via l) (link_over g c d l e)) g.K pair_over

-- ---- the walk

-- what is added up, and the lowest found, once the ends below j are gone by; j is an end at e, or 192
pub record Walked (g : Grid) (c : Config) (d e via sum over j : ℕ) : Type 0 where
  pub at_most : j ≤ 192
  pub below : j < 192 → j < 2 * g.K
  pub near : j < 192 → end_at g.end_a g.end_b j ≡ e
  pub sums : sum ≡ g.load e + sum_to j (end_load g c d e via)
  pub lows : over ≡ least_to j g.E (end_over g c d e via)

module _ (g : Grid) (formed : Formed g) (c : Config) (d e via : ℕ) where
  -- from i on to the next end of the chain
  walked_gap : (i j sum over : ℕ) → Skips g.end_a g.end_b c g.K e i j → sum ≡ g.load e + sum_to i (end_load g c d e via)
      → over ≡ least_to i g.E (end_over g c d e via) → Walked g c d e via sum over j
  walked_gap i j sum over q s o = record {
    at_most = q.at_most;
    below = q.below;
    near = q.near;
    sums = omega (arith, sum_to_gap (end_load g c d e via) i j q.at_least (λ m a b. load_off g formed c d e via m (off m a b)));
    lows = o ∙ sym (least_to_gap g.E (end_over g c d e via) i j q.at_least (λ m a b. omega (arith, over_off g formed c d e via m (off m a b))));
  }
    where
      off : (m : ℕ) → i ≤ m → m < j → lead_end g c e via m ≡ false
      off m a b = lead_off g c e via m (q.none m a b)

  pub walked_start : (j : ℕ) → Skips g.end_a g.end_b c g.K e 0 j → Walked g c d e via (g.load e) g.E j
  walked_start j q = walked_gap 0 j (g.load e) g.E q (omega (arith, sum_to_no (end_load g c d e via)))
      (sym (least_to_no g.E (end_over g c d e via)))

  module _ (sum over j : ℕ) (w : Walked g c d e via sum over j) (k : j < 192) where
    lead_on : c (j / 2) ≡ true → (j / 2 ≡ via → ⊥) → lead_end g c e via j ≡ true
    unfolding lead_end
    lead_on h n = and_both (own g.end_a g.end_b c g.K e j) _ (own_yes g.end_a g.end_b c g.K e j (w.below k) (w.near k) h)
        (ap not (ne_eqb (j / 2) via n))

    load_on : c (j / 2) ≡ true → (j / 2 ≡ via → ⊥) → end_load g c d e via j ≡ link_load g c d (j / 2) e
    unfolding end_load
    load_on h n = rw (lead_on h n)

    over_on : c (j / 2) ≡ true → (j / 2 ≡ via → ⊥) → end_over g c d e via j ≡ link_over g c d (j / 2) e
    unfolding end_over
    over_on h n = rw (lead_on h n)

    -- the link of j leads on: what it carries is added
    pub walked_on : (j' : ℕ) → c (j / 2) ≡ true → (j / 2 ≡ via → ⊥) → Skips g.end_a g.end_b c g.K e (suc j) j'
        → Walked g c d e via (sum + link_load g c d (j / 2) e) (min over (link_over g c d (j / 2) e)) j'
    walked_on j' h n q = walked_gap (suc j) j' _ _ q
        (omega (arith, w.sums, sum_to_more (end_load g c d e via) j, load_on h n))
        (omega (arith, w.lows, least_to_more g.E (end_over g c d e via) j, over_on h n))

    walked_past : (j' : ℕ) → lead_end g c e via j ≡ false → Skips g.end_a g.end_b c g.K e (suc j) j' → Walked g c d e via sum over j'
    walked_past j' h q = walked_gap (suc j) j' _ _ q
        (omega (arith, w.sums, sum_to_more (end_load g c d e via) j, load_off g formed c d e via j h))
        (omega (
          arith,
          w.lows,
          least_to_more g.E (end_over g c d e via) j,
          over_off g formed c d e via j h,
          least_to_top j g.E (end_over g c d e via),
        ))

    -- it is open, or the one come by: nothing is added
    pub walked_open : (j' : ℕ) → c (j / 2) ≡ false → Skips g.end_a g.end_b c g.K e (suc j) j' → Walked g c d e via sum over j'
    walked_open j' h q = walked_past j' (lead_off g c e via j (own_no g.end_a g.end_b c g.K e j (λ _ _ m. false≢true (sym h ∙ m)))) q

    lead_via : j / 2 ≡ via → lead_end g c e via j ≡ false
    unfolding lead_end
    lead_via h = rw (eq-eqb (j / 2) via h) (and-false (own g.end_a g.end_b c g.K e j))

    pub walked_via : (j' : ℕ) → j / 2 ≡ via → Skips g.end_a g.end_b c g.K e (suc j) j' → Walked g c d e via sum over j'
    walked_via j' h q = walked_past j' (lead_via h) q

    -- no partial sum is above the whole
    pub walked_room : g.K ≤ 96 → c (j / 2) ≡ true → (j / 2 ≡ via → ⊥) → sum + link_load g c d (j / 2) e ≤ element_load g c (suc d) e via
    walked_room fit h n = omega (
      arith,
      w.sums,
      load_on h n,
      sum_to_more (end_load g c d e via) j,
      sum_to_grows (end_load g c d e via) (suc j) 192 (omega arith),
      all_loads g formed c d e via fit,
    )

  module _ (sum over j : ℕ) (w : Walked g c d e via sum over j) (k : 192 ≤ j) (fit : g.K ≤ 96) where
    ended : j ≡ 192
    ended = omega (arith, w.at_most)

    pub walked_load : sum ≡ element_load g c (suc d) e via
    walked_load = w.sums ∙ ap (λ z. g.load e + sum_to z (end_load g c d e via)) ended ∙ all_loads g formed c d e via fit

    walked_low : over ≡ least_to g.K g.E (λ l. or_else g.E (leads g c e via l) (link_over g c d l e))
    walked_low = w.lows ∙ ap (λ z. least_to z g.E (end_over g c d e via)) ended ∙ all_lows g formed c d e via fit

    lower_is : (x o : ℕ) → o ≤ g.E → lower_over e x (g.capacity e) o ≡ min (above g e x) o
    unfolding lower_over above
    lower_is x o h = go (borne? (g.capacity e) x)
      where
        go : (t : Bool) → or_else (min e o) t o ≡ min (or_else e t g.E) o
        go true = omega arith
        go false = refl

    walked_over : lower_over e sum (g.capacity e) over ≡ element_over g c (suc d) e via
    walked_over =
        lower_is sum over (omega (arith, w.lows, least_to_top j g.E (end_over g c d e via)))
        ∙ rw (walked_load, walked_low) (sym (over_more g c d e via))

    pub walked_done : record { load = sum; over = lower_over e sum (g.capacity e) over } ≡ element_carried g c (suc d) e via
    unfolding element_carried
    walked_done = cc (walked_load, walked_over)

-- ---- no depth left, and the link's turn

none_same : (g : Grid) (e x : ℕ) → e < g.E → lower_over e x (g.capacity e) g.E ≡ above g e x
unfolding lower_over above
none_same g e x k = go (borne? (g.capacity e) x)
  where
    go : (t : Bool) → or_else (min e g.E) t g.E ≡ or_else e t g.E
    go true = refl
    go false = omega arith

pub element_none : (g : Grid) (c : Config) (e via : ℕ) → e < g.E
    → record { load = g.load e; over = lower_over e (g.load e) (g.capacity e) g.E } ≡ element_carried g c zero e via
unfolding element_carried
element_none g c e via k = cc (load_none g c e via, over_none g c e via, none_same g e (g.load e) k)

pub link_none : (g : Grid) (c : Config) (l e : ℕ) → record { load = 0; over = g.E } ≡ link_carried g c zero l e
unfolding link_carried link_load link_over
link_none g c l e = refl

pub link_more : (g : Grid) (c : Config) (d l e : ℕ) → element_carried g c d (far g l e) l ≡ link_carried g c (suc d) l e
unfolding link_carried link_load link_over element_carried
link_more g c d l e = refl

pub link_load_lem : (g : Grid) (c : Config) (d l e : ℕ) → link_load g c (suc d) l e ≡ element_load g c d (far g l e) l
unfolding link_load
link_load_lem g c d l e = refl
