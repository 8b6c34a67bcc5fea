-- A well-formed network meets what a check asks, whatever the states.
-- Assumes nothing.
use mathlib.Core.Path.{◌≡◌, ap}
use mathlib.Core.Bool.{Bool, true}
use mathlib.Core.List.{List}
use Prim.Native.Nat.{ℕ, ◌<◌}
use native.Mathlib.Omega.{arith}
use lib.Dec.{eqb}
use lib.ListN.{length, replicate, get_or-replicate}
use Rattle.network.specs.declared.Network.{Network}
use Rattle.network.specs.Accepted.{WellFormed}
use Rattle.feeding.specs.Networks.{net_of, at, is_in}
use Rattle.feeding.specs.Parts.{closed_in}
use Rattle.feeding.proofs.Views.{formed_net}
use Rattle.feeding_ends.specs.declared.OwnEnds.{OwnEnds}
use Rattle.feeding_ends.specs.Ends.{TwoEnds, own_ends}
use Rattle.feeding_loads.proofs.Same as Same
use Rattle.feeding_safety.specs.Checks.{Checked}

module _ (n : Network) (w : WellFormed n) where
  -- what `own_ends` asks
  pub two_ends : (has : List ℕ) → length has ≡ 96 → TwoEnds n.from n.to has n.links
  unfolding net_of
  two_ends has long =
      Same.two_ends n.elements n.links n.load n.capacity n.flags n.from n.to (formed_net n w) w.elements_fit w.links_fit has
      (omega (arith, w.from_long, w.links_fit)) (omega (arith, w.to_long, w.links_fit)) (omega (arith, w.links_fit))

  -- with the ends chained of a set that has all closed links
  pub checked : (has : ℕ → Bool) (own : OwnEnds) (states : List ℕ) → own ≡ own_ends (at n.from) (at n.to) has n.links
      → ((l : ℕ) → l < n.links → closed_in states l ≡ true → has l ≡ true) → length states ≡ 96
      → Checked n.load n.capacity n.flags n.from n.to own.head own.next own.far states n.elements n.links
  unfolding net_of
  checked has own states o chained long =
      record {
        elements_fit = w.elements_fit;
        flags_long = omega (arith, w.flags_long, w.elements_fit);
        from_long = omega (arith, w.from_long, w.links_fit);
        to_long = omega (arith, w.to_long, w.links_fit);
        load_in_lem = w.load_in_lem;
        formed = formed_net n w;
        lent = Same.lent n.elements n.links n.load n.capacity n.flags n.from n.to (formed_net n w) w.elements_fit w.links_fit
            has own o states chained (omega (arith, w.links_fit)) (omega (arith, w.load_long, w.elements_fit))
            (omega (arith, w.capacity_long, w.elements_fit));
        ends_a_lem = rw o (Same.far_a (at n.from) (at n.to) has n.links w.links_fit);
        ends_b_lem = rw o (Same.far_b (at n.from) (at n.to) has n.links w.links_fit);
      }

  -- the set of all links has them
  pub checked_all : (own : OwnEnds) (states : List ℕ) → own ≡ own_ends (at n.from) (at n.to) (is_in (replicate 96 1)) n.links → length states ≡ 96
      → Checked n.load n.capacity n.flags n.from n.to own.head own.next own.far states n.elements n.links
  checked_all own states o long =
      checked (is_in (replicate 96 1)) own states o (λ l k _. ap (λ x. eqb x 1) (get_or-replicate {A = ℕ} 96 l 1 0 (omega (arith, w.links_fit)))) long
