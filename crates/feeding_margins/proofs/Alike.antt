-- A walk sees of a grid only its ends and own loads below its bounds, and of a configuration only the states of its links: where these agree, the same loads
-- are stored.
-- Assumes nothing.
use Prim.Native.Nat.{ℕ, zero, suc, ◌+◌, ◌*◌, ◌<◌}
use mathlib.Core.Path.{◌≡◌, refl, sym, ap, ap₂, ◌∙◌}
use mathlib.Core.Bool.{Bool, true, false}
use mathlib.Core.List.{List}
use native.Mathlib.Omega.{arith}
use lib.ListN.{set, replicate}
use Rattle.feeding.specs.Below.{sum_to, gate}
use Rattle.feeding.specs.Networks.{Grid, Formed, at}
use Rattle.feeding.specs.Parts.{Config, touches, far, sound?}
use Rattle.feeding.specs.Loads.{leads, element_load, link_load}
use Rattle.feeding.proofs.Labels.{far_lt}
use Rattle.feeding.proofs.Sums.{sum_to_ext}
use Rattle.feeding_margins.specs.Margins.{unfed, fold_to, element_stored, link_stored, loads_stored, loads_of, tightest_in, tightest}
use Rattle.feeding_margins.proofs.Stored.{beyond, stored_none, stored_more, link_none, link_more}

pub record Shaped (g g' : Grid) : Type 0 where
  pub elements : g.E ≡ g'.E
  pub links : g.K ≡ g'.K
  pub loads : (e : ℕ) → e < g.E → g.load e ≡ g'.load e
  pub ends_a_lem : (l : ℕ) → l < g.K → g.end_a l ≡ g'.end_a l
  pub ends_b_lem : (l : ℕ) → l < g.K → g.end_b l ≡ g'.end_b l

shaped_self : (g : Grid) → Shaped g g
shaped_self g = record { elements = refl; links = refl; loads = λ e k. refl; ends_a_lem = λ l k. refl; ends_b_lem = λ l k. refl }

fold_ext : (n : ℕ) (f f' : ℕ → List ℕ → List ℕ) (xs : List ℕ) → ((l : ℕ) (ys : List ℕ) → l < n → f l ys ≡ f' l ys) → fold_to n f xs ≡ fold_to n f' xs
unfolding fold_to
fold_ext zero f f' xs h = refl
fold_ext (suc n) f f' xs h = h n (fold_to n f xs) (omega arith) ∙ ap (f' n) (fold_ext n f f' xs (λ l ys k. h l ys (omega arith)))

module _ (g g' : Grid) (formed : Formed g) (same : Shaped g g') (c c' : Config) (states : (l : ℕ) → l < g.K → c l ≡ c' l) where
  leads_same : (e via l : ℕ) → l < g.K → leads g c e via l ≡ leads g' c' e via l
  unfolding leads touches
  leads_same e via l k = rw (states l k, same.ends_a_lem l k, same.ends_b_lem l k)

  far_same : (l e : ℕ) → l < g.K → far g l e ≡ far g' l e
  unfolding far
  far_same l e k = rw (same.ends_a_lem l k, same.ends_b_lem l k)

  mutual
    unfolding element_load link_load

    pub load_same : (d e via : ℕ) → e < g.E → element_load g c d e via ≡ element_load g' c' d e via
    load_same zero e via k = same.loads e k
    load_same (suc d) e via k = ap₂ ◌+◌ (same.loads e k)
        (sum_to_ext g.K (λ l. gate (leads g c e via l) (link_load g c d l e)) (λ l. gate (leads g' c' e via l) (link_load g' c' d l e))
        (λ l kl. ap₂ gate (leads_same e via l kl) (link_load_same d l e kl))
        ∙ ap (λ n. sum_to n (λ l. gate (leads g' c' e via l) (link_load g' c' d l e))) same.links)

    link_load_same : (d l e : ℕ) → l < g.K → link_load g c d l e ≡ link_load g' c' d l e
    link_load_same zero l e k = refl
    link_load_same (suc d) l e k = load_same d (far g l e) l (far_lt g formed l e k) ∙ ap (λ z. element_load g' c' d z l) (far_same l e k)

  beyond_same : (d e via l : ℕ) (ys : List ℕ) → l < g.K → link_stored g c d l e ys ≡ link_stored g' c' d l e ys → beyond g c d e via l ys ≡ beyond g' c' d e via l ys
  unfolding beyond
  beyond_same d e via l ys k h = ap₂ (λ (t : Bool) (zs : List ℕ). elim t [ true ↦ zs | false ↦ ys ]) (leads_same e via l k) h

  mutual
    pub stored_same : (d e via : ℕ) (xs : List ℕ) → e < g.E → element_stored g c d e via xs ≡ element_stored g' c' d e via xs
    stored_same zero e via xs k = stored_none g c e via xs ∙ ap (set xs e) (load_same zero e via k) ∙ sym (stored_none g' c' e via xs)
    stored_same (suc d) e via xs k =
        stored_more g c d e via xs
        ∙ ap₂ (λ (zs : List ℕ) (x : ℕ). set zs e x)
        (fold_ext g.K (beyond g c d e via) (beyond g' c' d e via) xs (λ l ys kl. beyond_same d e via l ys kl (link_stored_same d l e ys kl))
        ∙ ap (λ n. fold_to n (beyond g' c' d e via) xs) same.links)
        (load_same (suc d) e via k)
        ∙ sym (stored_more g' c' d e via xs)

    link_stored_same : (d l e : ℕ) (ys : List ℕ) → l < g.K → link_stored g c d l e ys ≡ link_stored g' c' d l e ys
    link_stored_same zero l e ys k = link_none g c l e ys ∙ sym (link_none g' c' l e ys)
    link_stored_same (suc d) l e ys k =
        link_more g c d l e ys ∙ stored_same d (far g l e) l ys (far_lt g formed l e k)
        ∙ ap (λ z. element_stored g' c' d z l ys) (far_same l e k) ∙ sym (link_more g' c' d l e ys)

  pub loads_same : (m m' : ℕ → Bool) (xs : List ℕ) → ((s : ℕ) → s < g.E → m s ≡ m' s) → loads_stored g c m xs ≡ loads_stored g' c' m' xs
  unfolding loads_stored
  loads_same m m' xs h =
      fold_ext g.E (λ s ys. pick g c m s ys) (λ s ys. pick g' c' m' s ys) xs
      (λ s ys k. ap₂ (λ (t : Bool) (zs : List ℕ). elim t [ true ↦ zs | false ↦ ys ]) (h s k)
      (stored_same (2 * g.E) s g.K ys k ∙ ap₂ (λ (n v : ℕ). element_stored g' c' (2 * n) s v ys) same.elements same.links))
      ∙ ap (λ n. fold_to n (λ s ys. pick g' c' m' s ys) xs) same.elements
    where
      pick : Grid → Config → (ℕ → Bool) → ℕ → List ℕ → List ℕ
      pick h d t s ys = elim (t s) [ true ↦ element_stored h d (2 * h.E) s h.K ys | false ↦ ys ]

-- the tightest spot sees the states of the grid's links only
pub tightest_same : (g : Grid) → Formed g → (c c' : Config) → ((l : ℕ) → l < g.K → c l ≡ c' l) → tightest g c ≡ tightest g c'
unfolding tightest loads_of
tightest_same g formed c c' states =
    ap (λ (xs : List ℕ). tightest_in g.E g.capacity (at xs)) (loads_same g g formed (shaped_self g) c c' states (sound? g) (sound? g) (replicate 64 unfed) (λ s k. refl))
