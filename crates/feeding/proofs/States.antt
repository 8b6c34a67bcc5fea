-- Only what lies below the bounds matters: a walk can't tell grids apart that agree below E and K, nor a test configurations that agree below K.
-- Assumes nothing.
use mathlib.Core.Path.{◌≡◌, refl, ap, ap₂, ◌∙◌}
use mathlib.Core.Bool.{Bool, not, ◌&&◌}
use mathlib.Core.List.{List}
use Prim.Native.Nat.{ℕ, zero, suc, ◌+◌, ◌*◌, ◌<◌, ◌≤◌, min}
use native.Mathlib.Omega.{arith}
use lib.Dec.{eqb}
use Rattle.std.specs.Prelude.{Ok}
use Rattle.network.specs.declared.refusal.Rule.TheVariants.{NotATree, TwoSources, FaultWithSource, Overloaded}
use Rattle.feeding.specs.Acceptance.{broken_at, safety}
use Rattle.feeding.specs.Below.{gate, sum_to, least_to}
use Rattle.feeding.specs.Loads.{borne?, leads, element_load, link_load, above, element_over, link_over, lowest_over}
use Rattle.feeding.specs.Networks.{Grid, Formed, at}
use Rattle.feeding.specs.Parts.{Config, touches, far, labels_after, label, joined?, sound?, live?}
use Rattle.feeding.specs.Safety.{loop_at, looped?, paired?, fault_live?, tree_place, pair_place, fault_place}
use Rattle.feeding.proofs.Below.{or_else, any_to_ext}
use Rattle.feeding.proofs.Labels.{labels_ext, far_lt}
use Rattle.feeding.proofs.Lows.{lowest_ext, least_to_ext}
use Rattle.feeding.proofs.Sums.{sum_to_ext}

-- ---- two grids that a walk can't tell apart

pub record Alike (g g' : Grid) : Type 0 where
  pub elements : g.E ≡ g'.E
  pub links : g.K ≡ g'.K
  pub loads : (e : ℕ) → e < g.E → g.load e ≡ g'.load e
  pub capacities : (e : ℕ) → e < g.E → g.capacity e ≡ g'.capacity e
  pub ends_a_lem : (l : ℕ) → l < g.K → g.end_a l ≡ g'.end_a l
  pub ends_b_lem : (l : ℕ) → l < g.K → g.end_b l ≡ g'.end_b l

pub alike_self : (g : Grid) → Alike g g
alike_self g =
    record { elements = refl; links = refl; loads = λ _ _. refl; capacities = λ _ _. refl; ends_a_lem = λ _ _. refl; ends_b_lem = λ _ _. refl }

module _ (g g' : Grid) (formed : Formed g) (same : Alike g g') (c c' : Config) (agree : (l : ℕ) → l < g.K → c l ≡ c' l) where
  leads_alike : (e via l : ℕ) → l < g.K → leads g c e via l ≡ leads g' c' e via l
  unfolding leads touches
  leads_alike e via l k = rw (agree l k, same.ends_a_lem l k, same.ends_b_lem l k)

  far_alike : (l e : ℕ) → l < g.K → far g l e ≡ far g' l e
  unfolding far
  far_alike l e k = rw (same.ends_a_lem l k, same.ends_b_lem l k)

  above_alike : (e x x' : ℕ) → e < g.E → x ≡ x' → above g e x ≡ above g' e x'
  unfolding above
  above_alike e x x' k q = ap₂ (λ (t : Bool) (z : ℕ). or_else e t z) (ap₂ borne? (same.capacities e k) q) same.elements

  mutual
    unfolding element_load link_load

    pub element_load_alike : (d e via : ℕ) → e < g.E → element_load g c d e via ≡ element_load g' c' d e via
    element_load_alike zero e via k = same.loads e k
    element_load_alike (suc d) e via k = ap₂ ◌+◌ (same.loads e k)
        (sum_to_ext g.K (λ l. gate (leads g c e via l) (link_load g c d l e)) (λ l. gate (leads g' c' e via l) (link_load g' c' d l e))
        (λ l kl. ap₂ gate (leads_alike e via l kl) (link_load_alike d l e kl))
        ∙ ap (λ n. sum_to n (λ l. gate (leads g' c' e via l) (link_load g' c' d l e))) same.links)

    pub link_load_alike : (d l e : ℕ) → l < g.K → link_load g c d l e ≡ link_load g' c' d l e
    link_load_alike zero l e k = refl
    link_load_alike (suc d) l e k =
        element_load_alike d (far g l e) l (far_lt g formed l e k) ∙ ap (λ z. element_load g' c' d z l) (far_alike l e k)

  mutual
    unfolding element_over link_over

    pub element_over_alike : (d e via : ℕ) → e < g.E → element_over g c d e via ≡ element_over g' c' d e via
    element_over_alike zero e via k = above_alike e _ _ k (element_load_alike zero e via k)
    element_over_alike (suc d) e via k = ap₂ min (above_alike e _ _ k (element_load_alike (suc d) e via k))
        (least_to_ext g.K g.E (λ l. or_else g.E (leads g c e via l) (link_over g c d l e))
        (λ l. or_else g'.E (leads g' c' e via l) (link_over g' c' d l e))
        (λ l kl. rw (leads_alike e via l kl, link_over_alike d l e kl, same.elements))
        ∙ ap₂ (λ n z. least_to n z (λ l. or_else g'.E (leads g' c' e via l) (link_over g' c' d l e))) same.links same.elements)

    pub link_over_alike : (d l e : ℕ) → l < g.K → link_over g c d l e ≡ link_over g' c' d l e
    link_over_alike zero l e k = same.elements
    link_over_alike (suc d) l e k =
        element_over_alike d (far g l e) l (far_lt g formed l e k) ∙ ap (λ z. element_over g' c' d z l) (far_alike l e k)

-- ---- one grid, two configurations

module _ (g : Grid) (c c' : Config) (same : (l : ℕ) → l < g.K → c l ≡ c' l) where
  labels_same : (n : ℕ) → n ≤ g.K → labels_after g c n ≡ labels_after g c' n
  labels_same n h = labels_ext g.E g.end_a g.end_a g.end_b g.end_b c c' n (λ _ _. refl) (λ _ _. refl) (λ l k. same l (omega arith))

  joined_same : (d a : ℕ) → joined? g c d a ≡ joined? g c' d a
  unfolding joined? label
  joined_same d a = ap (λ (ls : List ℕ). eqb (at ls a) (at ls d)) (labels_same g.K (omega arith))

  pub live_same : (e : ℕ) → live? g c e ≡ live? g c' e
  unfolding live?
  live_same e = any_to_ext g.E _ _ (λ s _. ap (λ (b : Bool). sound? g s && b) (joined_same s e))

  looped_same : (e : ℕ) → looped? g c e ≡ looped? g c' e
  unfolding looped? loop_at
  looped_same e = any_to_ext g.K _ _ (λ l k. ap₂ ◌&&◌
      (ap₂ (λ (b : Bool) (ls : List ℕ). b && eqb (at ls (g.end_a l)) (at ls (g.end_b l))) (same l k) (labels_same l (omega arith)))
      (joined_same e (g.end_a l)))

  paired_same : (s : ℕ) → paired? g c s ≡ paired? g c' s
  unfolding paired?
  paired_same s = ap (λ (b : Bool). sound? g s && b) (any_to_ext g.E _ _ (λ t _.
      ap (λ (b : Bool). sound? g t && (not (eqb s t) && b)) (joined_same t s)))

module _ (g : Grid) (formed : Formed g) (c c' : Config) (same : (l : ℕ) → l < g.K → c l ≡ c' l) where
  pub over_same : lowest_over g c ≡ lowest_over g c'
  unfolding lowest_over
  over_same = least_to_ext g.E g.E _ _ (λ s k. ap (λ (x : ℕ). or_else g.E (sound? g s) x)
      (element_over_alike g g formed (alike_self g) c c' same (2 * g.E) s g.K k))

  pub safety_same : safety g c ≡ safety g c'
  unfolding safety tree_place pair_place fault_place fault_live?
  safety_same =
      ap₂ (broken_at g NotATree) (lowest_ext g.E _ _ (λ e _. looped_same g c c' same e))
      (ap₂ (broken_at g TwoSources) (lowest_ext g.E _ _ (λ e _. paired_same g c c' same e))
      (ap₂ (broken_at g FaultWithSource) (lowest_ext g.E _ _ (λ e _. ap (λ (b : Bool). g.faulty e && b) (live_same g c c' same e)))
      (ap (λ (p : ℕ). broken_at g Overloaded p (Ok tt)) over_same)))
