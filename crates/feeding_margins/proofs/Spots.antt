-- The tightest spot: the scan of the stored loads finds the one live element with the least margin, the lowest on a tie, since each live element's
-- entry is its load and each dark one's the mark.
-- Assumes nothing.
use mathlib.Core.Path.{◌≡◌, refl, sym, ap, ap₂, ◌∙◌, subst}
use mathlib.Core.Bool.{Bool, true, false, not}
use Prim.Native.Nat.{ℕ, ◌<◌, ◌≤◌}
use native.Mathlib.Omega.{arith}
use lib.Dec.{eqb}
use lib.IntN.{ℤ}
use lib.Signed.{◌≤ℤ◌}
use borrow.Author.Tests.{eqb-false, ne_eqb, not-true}
use Rattle.feeding.specs.Loads.{Fed, margin, margin_at, MarginOf, Tightest}
use Rattle.feeding.specs.Networks.{Grid, Formed, at}
use Rattle.feeding.specs.Parts.{Config, Live, live?}
use Rattle.feeding.specs.Restoration.{total_load}
use Rattle.feeding.specs.Safety.{Safe}
use Rattle.feeding.proofs.Load.{live_fed, fed_in}
use Rattle.feeding.proofs.Tests.{live?_out, dark_out}
use Rattle.feeding.proofs.Tightest.{margin_live, live_margin, tightest_unique}
use Rattle.feeding_margins.specs.declared.Spot.{Spot}
use Rattle.std.specs.Prelude.{Option}
use Rattle.feeding_margins.specs.Margins.{Spotted, spot_at, tightest_at, none_live, unfed, loads_of, tightest_in, tightest}
use Rattle.feeding_margins.proofs.Scans.{Scanned, none, least, scanned}
use Rattle.feeding_margins.proofs.Stored.{loads_fed, loads_dark, loads_unmarked}

module _ (g : Grid) (formed : Formed g) (few : g.E ≤ 64) (c : Config) (safe : Safe g c) (small : total_load g < unfed) where
  marked : (e : ℕ) → e < g.E → not (eqb (at (loads_of g c) e) unfed) ≡ true → (via : ℕ) × Fed g c e via
  marked e k h = go (live? g c e) refl
    where
      go : (t : Bool) → live? g c e ≡ t → (via : ℕ) × Fed g c e via
      go true t = let r = live?_out g formed c e k t in let f = live_fed g c r.source e r.sound r.joined in (f.via, f.fed)
      go false t = absurd (eqb-false _ unfed (not-true _ h) (loads_dark g formed few c safe small e k (dark_out g formed c e k t)))

  unmarked : {e via : ℕ} → Fed g c e via → not (eqb (at (loads_of g c) e) unfed) ≡ true
  unmarked {e} f = ap not (ne_eqb (at (loads_of g c) e) unfed (loads_unmarked g formed few c safe small f))

  margin_is : {e via : ℕ} → Fed g c e via → margin (g.capacity e) (at (loads_of g c) e) ≡ margin_at g c e via
  margin_is {e} f = ap (margin (g.capacity e)) (loads_fed g formed few c safe small f)

  scan_spotted : (s : Option Spot) → Scanned g.E (λ e. not (eqb (at (loads_of g c) e) unfed)) (λ e. margin (g.capacity e) (at (loads_of g c) e)) s → Spotted g c s
  scan_spotted _ (none h) = none_live (λ e r. dark_at e (live_margin g c e r))
    where
      dark_at : (e : ℕ) → (m : ℤ) × MarginOf g c e m → ⊥
      dark_at e p = let z : true ≡ false = sym (unmarked p.1.fed) ∙ h e (fed_in g c formed p.1.fed) in
          let y : ◌≡◌ {A = ℕ} 0 1 = cc in omega arith
  scan_spotted _ (least {e = e} {k = m} k t q l o) = tightest_at (record {
    own = record { via = at_e.0; fed = at_e.1; is = q ∙ margin_is at_e.1 };
    least = λ x j h. subst (λ (y : ℤ). m ≤ℤ y) (margin_is h.fed ∙ sym h.is) (l x (fed_in g c formed h.fed) (unmarked h.fed));
    lowest = λ x h. o x (fed_in g c formed h.fed) (unmarked h.fed) (margin_is h.fed ∙ sym h.is);
  })
    where
      at_e : (via : ℕ) × Fed g c e via
      at_e = marked e k t

  -- the theorem: what computes is what the paper says
  pub tightest_spotted : Spotted g c (tightest g c)
  unfolding tightest tightest_in
  tightest_spotted = scan_spotted (tightest g c) (scanned _ _ g.E)

-- and it is the only one
pub spotted_unique : (g : Grid) (c : Config) (s s' : Option Spot) → Spotted g c s → Spotted g c s' → s ≡ s'
spotted_unique g c _ _ (tightest_at {e = e} {m = m} t) (tightest_at {e = e'} {m = m'} u) =
    let p = tightest_unique g c e e' m m' t u in ap₂ spot_at p.0 p.1
spotted_unique g c _ _ (tightest_at {e = e} {m = m} t) (none_live h) = absurd (h e (margin_live g c e m t.own))
spotted_unique g c _ _ (none_live h) (tightest_at {e = e} {m = m} t) = absurd (h e (margin_live g c e m t.own))
spotted_unique g c _ _ (none_live h) (none_live k) = refl

-- it exists exactly where some element is live
module _ (g : Grid) (formed : Formed g) (few : g.E ≤ 64) (c : Config) (safe : Safe g c) (small : total_load g < unfed) where
  pub spotted_tightest : (s : Option Spot) → Spotted g c s → s ≡ tightest g c
  spotted_tightest s h = spotted_unique g c s (tightest g c) h (tightest_spotted g formed few c safe small)

  pub live_tightest : (e : ℕ) → Live g c e → (x : ℕ) × (m : ℤ) × Tightest g c x m
  live_tightest e r = go (tightest g c) (tightest_spotted g formed few c safe small)
    where
      go : (s : Option Spot) → Spotted g c s → (x : ℕ) × (m : ℤ) × Tightest g c x m
      go _ (tightest_at {e = x} {m = m} t) = (x, m, t)
      go _ (none_live h) = absurd (h e r)
