-- A radial configuration, in the paper's terms: every closed link is a bridge, a part has one sound source at most, and none beside a fault.
-- Assumes nothing.
use Prim.Native.Nat.{ℕ, ◌<◌}
use mathlib.Core.Path.{◌≡◌, refl, sym, ap, ◌∙◌}
use mathlib.Core.Bool.{Bool, true, false, not, ◌&&◌}
use lib.Dec.{eqb, ltb}
use borrow.Author.Tests.{eqb-true, eqb-false, not-true}
use Rattle.feeding.specs.Networks.{Grid, Net, Formed}
use Rattle.feeding.specs.Parts.{Config, Opened, Joined, here, over, Sound, Live}
use Rattle.feeding.specs.Restoration.{restored?}
use Rattle.feeding.specs.Safety.{without, tree_place, pair_place, fault_place}
use Rattle.feeding.proofs.Below.{same_test, and_left, and_right, and_both}
use Rattle.feeding.proofs.Decided.{tree_place_lem, pair_place_lem, fault_place_lem, trees_kept}
use Rattle.feeding.proofs.Forest.{Bridges, without_on, without_ne, without_in, safe_bridges}
use Rattle.feeding.proofs.Lows.{none_below, none_place}
use Rattle.feeding.proofs.Tests.{restored?_in, restored?_out}
use Rattle.plan_stops.specs.Candidates.{radial?}

pub record Radial (g : Grid) (c : Config) : Type 0 where
  pub bridges : Bridges g c
  pub one : (s t : ℕ) → Sound g s → Sound g t → Joined g c t s → s ≡ t
  pub clear : (e : ℕ) → e < g.E → g.faulty e ≡ true → ¬ Live g c e

module _ (g : Grid) (formed : Formed g) (c : Config) where
  pub radial_out : radial? g c ≡ true → Radial g c
  unfolding radial?
  radial_out h = record {
    bridges = safe_bridges g formed c (trees_kept g formed c (not-true _ (and_left (not (ltb (tree_place g c) g.E)) _ h)));
    one = one;
    clear = λ e k f l. none_below g.E _ _ (fault_place_lem g formed c) fault e k (record { faulty = f; live = l });
  }
    where
      rest : (not (ltb (pair_place g c) g.E) && not (ltb (fault_place g c) g.E)) ≡ true
      rest = and_right (not (ltb (tree_place g c) g.E)) _ h

      fault : ltb (fault_place g c) g.E ≡ false
      fault = not-true _ (and_right (not (ltb (pair_place g c) g.E)) _ rest)

      one : (s t : ℕ) → Sound g s → Sound g t → Joined g c t s → s ≡ t
      one s t p q j = go (eqb s t) refl
        where
          go : (u : Bool) → eqb s t ≡ u → s ≡ t
          go true u = eqb-true s t u
          go false u = absurd (none_below g.E _ _ (pair_place_lem g formed c) (not-true _ (and_left (not (ltb (pair_place g c) g.E)) _ rest))
              s p.below (record { other = t; sound = p; other_sound = q; joined = j; apart = eqb-false s t u }))

  pub radial_in : Radial g c → radial? g c ≡ true
  unfolding radial?
  radial_in r =
      and_both (not (ltb (tree_place g c) g.E)) _
      (ap not (none_place g.E _ _ (tree_place_lem g formed c) (λ e k no. no (λ l kl h i. r.bridges l kl h))))
      (and_both (not (ltb (pair_place g c) g.E)) _
      (ap not (none_place g.E _ _ (pair_place_lem g formed c) (λ e k p. p.apart (r.one e p.other p.sound p.other_sound p.joined))))
      (ap not (none_place g.E _ _ (fault_place_lem g formed c) (λ e k f. r.clear e k f.faulty f.live))))

-- ---- fewer links closed, and the same ones

-- of the links below K, c' closes none that c leaves open
abbrev Within : Grid → Config → Config → Type 0
Within g c' c = (l : ℕ) → l < g.K → c' l ≡ true → c l ≡ true

joined_within : (g : Grid) (c' c : Config) → Within g c' c → {d a : ℕ} → Joined g c' d a → Joined g c d a
joined_within g c' c sub here = here
joined_within g c' c sub (over l k h t j) = over l k (sub l k h) t (joined_within g c' c sub j)

live_within : (g : Grid) (c' c : Config) → Within g c' c → (e : ℕ) → Live g c' e → Live g c e
live_within g c' c sub e r = record { source = r.source; sound = r.sound; joined = joined_within g c' c sub r.joined }

without_within : (g : Grid) (c' c : Config) → Within g c' c → (l : ℕ) → Within g (without c' l) (without c l)
without_within g c' c sub l m k h = without_in c l m (sub m k (without_on c' l m h)) (without_ne c' l m h)

radial_within : (g : Grid) → Formed g → (c' c : Config) → Within g c' c → radial? g c ≡ true → radial? g c' ≡ true
radial_within g formed c' c sub h = radial_in g formed c' (record {
  bridges = λ l k on j. r.bridges l k (sub l k on) (joined_within g (without c' l) (without c l) (without_within g c' c sub l) j);
  one = λ s t p q j. r.one s t p q (joined_within g c' c sub j);
  clear = λ e k f l. r.clear e k f (live_within g c' c sub e l);
})
  where
    r : Radial g c
    r = radial_out g formed c h

restored_within : (net : Net) → Formed net.grid → (c' c : Config) → Within net.grid c' c → restored? net c' ≡ true → restored? net c ≡ true
restored_within net formed c' c sub h =
    restored?_in net formed c (λ e k r. live_within net.grid c' c sub e (restored?_out net formed c' h e k r))

-- opening links keeps a configuration radial
pub radial_opened : (g : Grid) → Formed g → (c c' : Config) → Opened c' c → radial? g c ≡ true → radial? g c' ≡ true
radial_opened g formed c c' sub h = radial_within g formed c' c (λ l _. sub l) h

pub restored_ext : (net : Net) → Formed net.grid → (c c' : Config) → ((l : ℕ) → l < net.grid.K → c l ≡ c' l)
    → restored? net c ≡ restored? net c'
restored_ext net formed c c' same =
    same_test _ _ (restored_within net formed c c' (λ l k h. sym (same l k) ∙ h)) (restored_within net formed c' c (λ l k h. same l k ∙ h))
