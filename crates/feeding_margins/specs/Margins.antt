-- Document 02, item 5: the tightest spot of a configuration.
-- Internal: no promise to a user is said by it.
-- Assumes nothing.
use Rattle.std.specs.Prelude.{◌≡◌, Bool, true, false, not, cond, List, ℕ, zero, suc, ◌<◌, ◌≤◌, ◌*◌, ◌^◌, ℤ, eqb, length, set, replicate, Option, Some, None}
use Rattle.std.specs.Int.Signed.{lt_z}
use Rattle.feeding.specs.Networks.{Grid, at}
use Rattle.feeding.specs.Parts.{Config, Live, far, sound?}
use Rattle.feeding.specs.Loads.{leads, element_load, margin, Tightest}
use Rattle.feeding_margins.specs.declared.Spot.{Spot}

-- the element e with the margin m
abbrev pub spot_at : ℕ → ℤ → Option Spot
spot_at e m = Some (record { element = e; margin = m })

-- "MARGIN element number .., or MARGIN - if none is live"
pub data Spotted (g : Grid) (c : Config) : Option Spot → Type 0 where
  tightest_at : {e : ℕ} {m : ℤ} → Tightest g c e m → Spotted g c (spot_at e m)
  none_live : ((e : ℕ) → ¬ Live g c e) → Spotted g c None

-- ---- what computes: the loads by element, stored on one walk from each sound source; then the least margin over the elements

-- the mark of an element that no walk has come to, above every load
abbrev pub unfed : ℕ
unfed = 18446744073709551615

-- xs changed by f 0, then by f 1, .. f (n - 1)
unfoldable pub fold_to : ℕ → (ℕ → List ℕ → List ℕ) → List ℕ → List ℕ
fold_to zero f xs = xs
fold_to (suc n) f xs = f n (fold_to n f xs)

-- the list of loads after the walk from e onward, and over the link l away from e
unfoldable mutual
  pub element_stored : Grid → Config → (d e via : ℕ) → List ℕ → List ℕ
  element_stored g c zero e via xs = set xs e (element_load g c zero e via)
  element_stored g c (suc d) e via xs =
      set (fold_to g.K (λ l ys. elim (leads g c e via l) [ true ↦ link_stored g c d l e ys | false ↦ ys ]) xs) e (element_load g c (suc d) e via)

  pub link_stored : Grid → Config → (d l e : ℕ) → List ℕ → List ℕ
  link_stored g c zero l e xs = xs
  link_stored g c (suc d) l e xs = element_stored g c d (far g l e) l xs

-- after the walks from all marked elements
unfoldable pub loads_stored : Grid → Config → (marked : ℕ → Bool) → List ℕ → List ℕ
loads_stored g c marked xs = fold_to g.E (λ s ys. elim (marked s) [ true ↦ element_stored g c (2 * g.E) s g.K ys | false ↦ ys ]) xs

-- the load at each live element, `unfed` at the others
unfoldable pub loads_of : Grid → Config → List ℕ
loads_of g c = loads_stored g c (sound? g) (replicate 64 unfed)

-- the lists reach over the first n elements, and each entry is the mark or below 2 ^ 63
pub record Fits (loads capacity : List ℕ) (n : ℕ) : Type 0 where
  pub loads_long : n ≤ length loads
  pub capacity_long : n ≤ length capacity
  pub loads_in : (e : ℕ) → e < n → (at loads e ≡ unfed → ⊥) → at loads e < 2 ^ 63

-- the tighter of a spot and an element with this margin; the spot on a tie
unfoldable pub tighter : Option Spot → ℕ → ℤ → Option Spot
tighter None e m = spot_at e m
tighter (Some spot) e m = cond (lt_z m spot.margin) (spot_at e m) (Some spot)

-- over the first n elements, of those that pass the test
unfoldable pub tightest_to : ℕ → (ℕ → Bool) → (ℕ → ℤ) → Option Spot
tightest_to zero test m = None
tightest_to (suc n) test m = elim (test n) [ true ↦ tighter (tightest_to n test m) n (m n) | false ↦ tightest_to n test m ]

-- by the loads of a list
unfoldable pub tightest_in : (n : ℕ) (capacity loads : ℕ → ℕ) → Option Spot
tightest_in n capacity loads = tightest_to n (λ e. not (eqb (loads e) unfed)) (λ e. margin (capacity e) (loads e))

unfoldable pub tightest : Grid → Config → Option Spot
tightest g c = tightest_in g.E g.capacity (at (loads_of g c))
