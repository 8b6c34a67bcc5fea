-- Margins of live elements: a live element has one and no other has; the tightest is the only one, and in a safe configuration not negative, since
-- safe asks that of every margin.
-- Assumes nothing.
use Prim.Native.Nat.{ℕ}
use mathlib.Core.Path.{◌≡◌, refl, sym, ap, ◌∙◌, subst}
use lib.IntN.{ℤ, pos}
use lib.Signed.{◌≤ℤ◌}
use native.Mathlib.Omega.{arith}
use Rattle.feeding.specs.Loads.{Fed, Overloaded, margin_at, MarginOf, Tightest}
use Rattle.feeding.specs.Networks.{Grid, Formed}
use Rattle.feeding.specs.Parts.{Config, Live}
use Rattle.feeding.specs.Safety.{Safe}
use Rattle.feeding.proofs.Load.{FedAt, live_fed, fed_live, fed_once}
use Rattle.feeding.proofs.Margins.{le_antisym}

-- what is fed over `via` has the margin that it has by this link
pub own_margin_lem : (g : Grid) (c : Config) {e via : ℕ} → Fed g c e via → MarginOf g c e (margin_at g c e via)
own_margin_lem g c {via = via} f = record { via = via; fed = f; is = refl }

-- a live element has a margin, and what has one is live
pub margin_live : (g : Grid) (c : Config) (e : ℕ) (m : ℤ) → MarginOf g c e m → Live g c e
margin_live g c e m h = fed_live g c h.fed

pub live_margin : (g : Grid) (c : Config) (e : ℕ) → Live g c e → (m : ℤ) × MarginOf g c e m
live_margin g c e r = go (live_fed g c r.source e r.sound r.joined)
  where
    go : FedAt g c e → (m : ℤ) × MarginOf g c e m
    go f = (margin_at g c e f.via, own_margin_lem g c f.fed)

-- in a safe configuration it has one, which is not negative
pub margin_once : (g : Grid) → Formed g → (c : Config) → Safe g c → (e : ℕ) (m k : ℤ) → MarginOf g c e m → MarginOf g c e k → m ≡ k
margin_once g formed c safe e m k x y =
    x.is ∙ ap (margin_at g c e) (fed_once g formed c safe e x.via y.via x.fed y.fed) ∙ sym y.is

pub margin_kept : (g : Grid) (c : Config) → Safe g c → (e : ℕ) (m : ℤ) → MarginOf g c e m → pos 0 ≤ℤ m
margin_kept g c safe e m h = subst (λ (k : ℤ). pos 0 ≤ℤ k) (sym h.is) (safe.within e h.via h.fed)

-- rule 17 by margins: an element is overloaded exactly where it has a margin that is negative
pub over_margin : (g : Grid) (c : Config) (e : ℕ) → Overloaded g c e → (m : ℤ) × MarginOf g c e m × (¬ pos 0 ≤ℤ m)
over_margin g c e o = (margin_at g c e o.via, own_margin_lem g c o.fed, o.above)

pub margin_over : (g : Grid) (c : Config) (e : ℕ) (m : ℤ) → MarginOf g c e m → ¬ pos 0 ≤ℤ m → Overloaded g c e
margin_over g c e m h less = record { via = h.via; fed = h.fed; above = λ k. less (subst (λ (z : ℤ). pos 0 ≤ℤ z) (sym h.is) k) }

-- ---- the tightest

pub tightest_live : (g : Grid) (c : Config) (e : ℕ) (m : ℤ) → Tightest g c e m → Live g c e
tightest_live g c e m t = margin_live g c e m t.own

-- in a safe configuration the least margin is not negative
pub tightest_kept : (g : Grid) (c : Config) → Safe g c → (e : ℕ) (m : ℤ) → Tightest g c e m → pos 0 ≤ℤ m
tightest_kept g c safe e m t = margin_kept g c safe e m t.own

-- there is at most one
pub tightest_unique : (g : Grid) (c : Config) (e e' : ℕ) (m m' : ℤ) → Tightest g c e m → Tightest g c e' m' → (e ≡ e') × (m ≡ m')
tightest_unique g c e e' m m' t u = (
  omega (arith, t.lowest e' (subst (MarginOf g c e') (sym same) u.own), u.lowest e (subst (MarginOf g c e) same t.own)),
  same,
)
  where
    same : m ≡ m'
    same = le_antisym m m' (t.least e' m' u.own) (u.least e m t.own)
