-- Opening switches keeps a configuration safe: what is joined, fed and carried only shrinks.
-- Assumes nothing.
use Prim.Native.Nat.{ℕ, zero, suc, ◌*◌, ◌≤◌}
use mathlib.Core.Path.{◌≡◌}
use mathlib.Core.Bool.{true}
use native.Mathlib.Omega.{arith}
use Rattle.feeding.specs.Loads.{Fed, at_source, onward, leads, element_load, link_load, Within}
use Rattle.feeding.specs.Networks.{Grid}
use Rattle.feeding.specs.Parts.{Opened, Live, Config, Joined, here, over, far}
use Rattle.feeding.specs.Safety.{Safe, without}
use Rattle.feeding.proofs.Below.{gate_mono, and_left, and_right, and_both}
use Rattle.feeding.proofs.Margins.{bears_le, le_bears}
use Rattle.feeding.proofs.Sums.{sum_to_mono}

module _ (g : Grid) (c' c : Config) (sub : Opened c' c) where
  leads_mono : (e via l : ℕ) → leads g c' e via l ≡ true → leads g c e via l ≡ true
  unfolding leads
  leads_mono e via l h = and_both (c l) _ (sub l (and_left (c' l) _ h)) (and_right (c' l) _ h)

  pub joined_mono : {d a : ℕ} → Joined g c' d a → Joined g c d a
  joined_mono here = here
  joined_mono (over l k h t j) = over l k (sub l h) t (joined_mono j)

  pub fed_mono : {e via : ℕ} → Fed g c' e via → Fed g c e via
  fed_mono (at_source s) = at_source s
  fed_mono (onward l k h f) = onward l k (leads_mono _ _ l h) (fed_mono f)

  mutual
    unfolding element_load link_load

    pub element_load_mono : (d e via : ℕ) → element_load g c' d e via ≤ element_load g c d e via
    element_load_mono zero e via = omega arith
    element_load_mono (suc d) e via =
        omega (
          arith,
          sum_to_mono g.K _ _ (λ l k.
              gate_mono (leads g c' e via l) (leads g c e via l) (link_load g c' d l e) (link_load g c d l e) (leads_mono e via l) (link_load_mono d l e)),
        )

    pub link_load_mono : (d l e : ℕ) → link_load g c' d l e ≤ link_load g c d l e
    link_load_mono zero l e = omega arith
    link_load_mono (suc d) l e = element_load_mono d (far g l e) l

pub without_mono : (c' c : Config) (l : ℕ) → Opened c' c → Opened (without c' l) (without c l)
unfolding without
without_mono c' c l sub m h = and_both (c m) _ (sub m (and_left (c' m) _ h)) (and_right (c' m) _ h)

pub live_mono : (g : Grid) (c' c : Config) → Opened c' c → (e : ℕ) → Live g c' e → Live g c e
live_mono g c' c sub e r = record { source = r.source; sound = r.sound; joined = joined_mono g c' c sub r.joined }

-- the theorem: a configuration that closes no link which a safe one leaves open is safe
-- opening keeps loads within capacity
pub opened_within : (g : Grid) (c' c : Config) → Opened c' c → Within g c → Within g c'
opened_within g c' c sub within e via f =
    le_bears g e _ (omega (arith, element_load_mono g c' c sub (2 * g.E) e via, bears_le g e _ (within e via (fed_mono g c' c sub f))))

pub opening_safe : (g : Grid) (c' c : Config) → Opened c' c → Safe g c → Safe g c'
opening_safe g c' c sub s = record {
  tree = λ e k l kl h i j. s.tree e k l kl (sub l h) (joined_mono g c' c sub i) (joined_mono g (without c' l) (without c l) (without_mono c' c l sub) j);
  one = λ a b p q j. s.one a b p q (joined_mono g c' c sub j);
  clear = λ e k q r. s.clear e k q (live_mono g c' c sub e r);
  within = opened_within g c' c sub s.within;
}
