-- A grid with other capacities has the same parts, live elements and loads; only the load test reads a capacity, and more capacity keeps within. Each law
-- goes one way; the first grid is the second with the first one's capacities, so the same law goes back.
-- Assumes nothing.
use Prim.Native.Nat.{ℕ, zero, suc, ◌+◌, ◌*◌, ◌≤◌, ◌<◌}
use mathlib.Core.Path.{◌≡◌, refl, ap}
use native.Mathlib.Omega.{arith}
use Rattle.feeding.specs.Below.{gate}
use Rattle.feeding.specs.Loads.{Fed, at_source, onward, leads, element_load, link_load, Within}
use Rattle.feeding.specs.Networks.{Grid, Formed, with_capacity}
use Rattle.feeding.specs.Parts.{Config, Joined, here, over, Sound, Live, touches, far}
use Rattle.feeding.specs.Safety.{Safe}
use Rattle.feeding.proofs.Load.{fed_in}
use Rattle.feeding.proofs.Margins.{bears_le, le_bears}
use Rattle.feeding.proofs.Sums.{sum_to_ext}

module _ (g : Grid) (cap : ℕ → ℕ) where
  joined_to : {c : Config} {d a : ℕ} → Joined g c d a → Joined (with_capacity g cap) c d a
  unfolding touches far
  joined_to here = here
  joined_to (over l k h t j) = over l k h t (joined_to j)

  sound_to : {s : ℕ} → Sound g s → Sound (with_capacity g cap) s
  sound_to s = record { below = s.below; source = s.source; sound = s.sound }

  live_to : {c : Config} {e : ℕ} → Live g c e → Live (with_capacity g cap) c e
  live_to r = record { source = r.source; sound = sound_to r.sound; joined = joined_to r.joined }

  fed_to : {c : Config} {e via : ℕ} → Fed g c e via → Fed (with_capacity g cap) c e via
  unfolding leads touches far
  fed_to (at_source s) = at_source (sound_to s)
  fed_to (onward l k h f) = onward l k h (fed_to f)

  mutual
    unfolding element_load link_load leads touches far

    element_load_same : (c : Config) (d e via : ℕ) → element_load (with_capacity g cap) c d e via ≡ element_load g c d e via
    element_load_same c zero e via = refl
    element_load_same c (suc d) e via =
        ap (λ x. g.load e + x)
        (sum_to_ext g.K _ _ (λ l _. ap (λ x. gate (leads g c e via l) x) (link_load_same c d l e)))

    link_load_same : (c : Config) (d l e : ℕ) → link_load (with_capacity g cap) c d l e ≡ link_load g c d l e
    link_load_same c zero l e = refl
    link_load_same c (suc d) l e = element_load_same c d (far g l e) l

module _ (g : Grid) (cap : ℕ → ℕ) where
  abbrev other : Grid
  other = with_capacity g cap

  joined_from : {c : Config} {a d : ℕ} → Joined other c d a → Joined g c d a
  joined_from j = joined_to other g.capacity j

  sound_from : {s : ℕ} → Sound other s → Sound g s
  sound_from s = sound_to other g.capacity s

  live_from : {c : Config} {e : ℕ} → Live other c e → Live g c e
  live_from r = live_to other g.capacity r

  fed_from : {c : Config} {e via : ℕ} → Fed other c e via → Fed g c e via
  fed_from f = fed_to other g.capacity f

  -- safe in the one is safe in the other, where the load test passes on: capacities are read nowhere else
  pub capacity_safe : (c : Config) → (Within g c → Within other c) → Safe g c → Safe other c
  capacity_safe c within s = record {
    tree = λ e k l kl h i j. s.tree e k l kl h (joined_from i) (joined_from j);
    one = λ a b p q j. s.one a b (sound_from p) (sound_from q) (joined_from j);
    clear = λ e k q r. s.clear e k q (live_from r);
    within = within s.within;
  }

  -- and the load test passes on where no capacity is lowered
  pub raised_within : Formed g → ((e : ℕ) → e < g.E → g.capacity e ≤ cap e) → (c : Config) → Within g c → Within other c
  raised_within formed raised c within e via f =
      le_bears other e _ (omega (
        arith,
        element_load_same g cap c (2 * g.E) e via,
        bears_le g e _ (within e via (fed_from f)),
        raised e (fed_in g c formed (fed_from f)),
      ))
