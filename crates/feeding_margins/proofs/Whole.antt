-- The lists of a well-formed network and of its ends are those that the walks ask for, and in a safe configuration what they store are its loads.
-- Assumes nothing.
use Prim.Native.Nat.{ℕ, ◌*◌, ◌<◌, ◌≤◌, ◌^◌}
use mathlib.Core.Path.{◌≡◌, refl, sym, ap, ◌∙◌, subst}
use mathlib.Core.Bool.{Bool, true, false}
use mathlib.Core.List.{List}
use native.Mathlib.Omega.{arith}
use lib.Dec.{eqb}
use lib.ListN.{length, replicate, length-replicate, get_or-replicate}
use Rattle.network.specs.declared.Network.{Network}
use Rattle.network.specs.Accepted.{WellFormed}
use Rattle.feeding.specs.Below.{bits}
use Rattle.feeding.specs.Networks.{Formed, at, is_in, grid_of, net_of}
use Rattle.feeding.specs.Parts.{closed_in, Live, sound?, live?}
use Rattle.feeding.specs.Restoration.{total_load}
use Rattle.feeding.specs.Safety.{Safe}
use Rattle.feeding.proofs.Bits.{is_in_bits, length_bits}
use Rattle.feeding.proofs.Forest.{safe_bridges}
use Rattle.feeding.proofs.Hanging.{load_at_most, safe_at_most}
use Rattle.feeding.proofs.Load.{live_fed}
use Rattle.feeding.proofs.Sums.{sum_to_below}
use Rattle.feeding.proofs.Tests.{live?_out, dark_out}
use Rattle.feeding.proofs.Views.{formed_net}
use Rattle.feeding.proofs.Walk.{start}
use Rattle.feeding_ends.specs.declared.OwnEnds.{OwnEnds}
use Rattle.feeding_ends.specs.Ends.{own_ends}
use Rattle.feeding_loads.specs.Walks.{ends_a, ends_b, walk_grid, Lent, Carries}
use Rattle.feeding_loads.proofs.Same as Same
use Rattle.std.specs.Prelude.{Option}
use Rattle.feeding_margins.specs.declared.Spot.{Spot}
use Rattle.feeding_margins.specs.Margins.{Spotted, unfed, Fits, loads_stored, loads_of, tightest_in, tightest}
use Rattle.feeding_margins.proofs.Alike.{Shaped, load_same, loads_same}
use Rattle.feeding_margins.proofs.Spots.{tightest_spotted}
use Rattle.feeding_margins.proofs.Stored.{loads_length, loads_fed, loads_dark}

module _ (n : Network) (w : WellFormed n) where
  pub total_small : total_load (net_of n).grid < 2 ^ 63
  unfolding total_load net_of grid_of
  total_small = omega (arith, w.elements_fit, sum_to_below (2 ^ 32) (at n.load) n.elements (λ e k. omega (arith, w.load_in_lem e k)))

  few : (net_of n).grid.E ≤ 64
  unfolding net_of grid_of
  few = w.elements_fit

  inside : (s : ℕ) → s < (net_of n).grid.E → s < n.elements
  unfolding net_of grid_of
  inside s k = k

  plain_formed : Formed (grid_of n.elements n.links n.load n.load n.flags n.from n.to)
  unfolding grid_of
  plain_formed = record { end_a_lt = w.from_in; end_b_lt = w.to_in; differ = w.differ }

  sound_at : (sound : List ℕ) → sound ≡ bits 96 n.elements (sound? (net_of n).grid) → (s : ℕ) → s < n.elements
      → is_in sound s ≡ sound? (net_of n).grid s
  sound_at sound e s k =
      ap (λ (xs : List ℕ). is_in xs s) e ∙ is_in_bits 96 n.elements (sound? (net_of n).grid) s (omega (arith, w.elements_fit)) k

  pub sound_long : (sound : List ℕ) → sound ≡ bits 96 n.elements (sound? (net_of n).grid) → n.elements ≤ length sound
  sound_long sound e = omega (arith, w.elements_fit, ap length e ∙ length_bits 96 n.elements (sound? (net_of n).grid))

  module _ (own : OwnEnds) (made : own ≡ own_ends (at n.from) (at n.to) (is_in (replicate 96 1)) n.links) (closed : List ℕ) (long : length closed ≡ 96) where
    pub lent_all : Lent own.head own.next own.far closed n.load n.load n.elements n.links
    lent_all = Same.lent n.elements n.links n.load n.load n.flags n.from n.to plain_formed w.elements_fit w.links_fit
        (is_in (replicate 96 1)) own made closed
        (λ l k _. ap (λ x. eqb x 1) (get_or-replicate {A = ℕ} 96 l 1 0 (omega (arith, w.links_fit))))
        (omega (arith, w.links_fit)) (omega (arith, w.load_long, w.elements_fit)) (omega (arith, w.load_long, w.elements_fit))

    shaped : Shaped (net_of n).grid (walk_grid n.elements n.links own.far n.load n.load)
    unfolding net_of grid_of walk_grid
    shaped = record {
      elements = refl;
      links = refl;
      loads = λ _ _. refl;
      ends_a_lem = λ l k. sym (ap (λ (o : OwnEnds). ends_a o.far l) made ∙ Same.far_a (at n.from) (at n.to) (is_in (replicate 96 1)) n.links w.links_fit l k);
      ends_b_lem = λ l k. sym (ap (λ (o : OwnEnds). ends_b o.far l) made ∙ Same.far_b (at n.from) (at n.to) (is_in (replicate 96 1)) n.links w.links_fit l k);
    }

    module _ (safe : Safe (net_of n).grid (closed_in closed)) (sound : List ℕ) (sound_is : sound ≡ bits 96 n.elements (sound? (net_of n).grid)) where
      -- no load that a walk adds up is too large
      pub carries_all : Carries (walk_grid n.elements n.links own.far n.load n.load) (closed_in closed) sound
      unfolding walk_grid net_of grid_of
      carries_all s k q = omega (
        arith,
        load_same (net_of n).grid (walk_grid n.elements n.links own.far n.load n.load) (formed_net n w) shaped (closed_in closed) (closed_in closed) (λ _ _. refl) (2 * n.elements) s n.links k,
        load_at_most (net_of n).grid (formed_net n w) (closed_in closed) (safe_bridges (net_of n).grid (formed_net n w) (closed_in closed) safe.tree) s n.links k (start refl),
        total_small,
      )

      -- what the walks store are the loads of the network's grid
      pub loads_are : loads_stored (walk_grid n.elements n.links own.far n.load n.load) (closed_in closed) (is_in sound) (replicate 64 unfed)
          ≡ loads_of (net_of n).grid (closed_in closed)
      unfolding loads_of
      loads_are = sym (loads_same (net_of n).grid (walk_grid n.elements n.links own.far n.load n.load) (formed_net n w) shaped (closed_in closed) (closed_in closed) (λ _ _. refl)
          (sound? (net_of n).grid) (is_in sound) (replicate 64 unfed) (λ s k. sym (sound_at sound sound_is s (inside s k))))

      full : length (loads_of (net_of n).grid (closed_in closed)) ≡ 64
      unfolding loads_of
      full = loads_length (net_of n).grid (closed_in closed) (sound? (net_of n).grid) (replicate 64 unfed) ∙ length-replicate {A = ℕ} 64 unfed

      pub loads_fit : (loads : List ℕ) → loads ≡ loads_of (net_of n).grid (closed_in closed) → Fits loads n.capacity n.elements
      unfolding net_of grid_of
      loads_fit loads e = record {
        loads_long = omega (arith, w.elements_fit, ap length e ∙ full);
        capacity_long = omega (arith, w.elements_fit, w.capacity_long);
        loads_in = λ x k h. subst (λ (xs : List ℕ). at xs x < 2 ^ 63) (sym e) (small x k (λ q. h (ap (λ (xs : List ℕ). at xs x) e ∙ q)) (live? (net_of n).grid (closed_in closed) x) refl);
      }
        where
          small : (x : ℕ) → x < n.elements → (at (loads_of (net_of n).grid (closed_in closed)) x ≡ unfed → ⊥) → (t : Bool) → live? (net_of n).grid (closed_in closed) x ≡ t
              → at (loads_of (net_of n).grid (closed_in closed)) x < 2 ^ 63
          small x k h true t = go (live?_out (net_of n).grid (formed_net n w) (closed_in closed) x k t)
            where
              go : Live (net_of n).grid (closed_in closed) x → at (loads_of (net_of n).grid (closed_in closed)) x < 2 ^ 63
              go r = let f = live_fed (net_of n).grid (closed_in closed) r.source x r.sound r.joined in
                  omega (
                    arith,
                    loads_fed (net_of n).grid (formed_net n w) few (closed_in closed) safe (omega (arith, total_small)) f.fed,
                    safe_at_most (net_of n).grid (formed_net n w) (closed_in closed) safe f.fed,
                    total_small,
                  )
          small x k h false t = absurd (h (loads_dark (net_of n).grid (formed_net n w) few (closed_in closed) safe (omega (arith, total_small)) x k
              (dark_out (net_of n).grid (formed_net n w) (closed_in closed) x k t)))

      -- the list that the walks from the network's own lists store
      pub stored_fit : (loads : List ℕ) → loads ≡ loads_stored (walk_grid n.elements n.links own.far n.load n.load) (closed_in closed) (is_in sound) (replicate 64 unfed)
          → Fits loads n.capacity n.elements
      stored_fit loads e = loads_fit loads (e ∙ loads_are)

      pub spot_is : (loads : List ℕ) (r : Option Spot)
          → loads ≡ loads_stored (walk_grid n.elements n.links own.far n.load n.load) (closed_in closed) (is_in sound) (replicate 64 unfed) → r ≡ tightest_in n.elements (at n.capacity) (at loads)
          → r ≡ tightest (net_of n).grid (closed_in closed)
      unfolding tightest net_of grid_of
      spot_is loads r e q = q ∙ ap (λ (xs : List ℕ). tightest_in n.elements (at n.capacity) (at xs)) (e ∙ loads_are)

      -- and that is the paper's answer
      pub spot_told : (loads : List ℕ) (r : Option Spot)
          → loads ≡ loads_stored (walk_grid n.elements n.links own.far n.load n.load) (closed_in closed) (is_in sound) (replicate 64 unfed) → r ≡ tightest_in n.elements (at n.capacity) (at loads)
          → Spotted (net_of n).grid (closed_in closed) r
      spot_told loads r e q = subst (Spotted (net_of n).grid (closed_in closed)) (sym (spot_is loads r e q))
          (tightest_spotted (net_of n).grid (formed_net n w) few (closed_in closed) safe (omega (arith, total_small)))
