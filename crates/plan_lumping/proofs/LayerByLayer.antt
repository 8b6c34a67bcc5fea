-- The turns of `layers_for` and `lump_layers`, and what these calls ask: the lists keep their lengths, and far elements are elements.
-- Assumes nothing.
use Prim.Native.Nat.{ℕ, zero, suc, ◌+◌, ◌*◌, ◌/◌, ◌%◌, ◌<◌, ◌≤◌}
use mathlib.Core.Path.{◌≡◌, refl, ap, ◌∙◌}
use mathlib.Core.Bool.{Bool, true, false}
use mathlib.Core.List.{List}
use native.Mathlib.Omega.{arith}
use lib.Dec.{eqb, ltb}
use lib.ListN.{length}
use borrow.Author.Tests.{lt-ltb, le-ltb, ltb-true, eqb-true, eqb-false}
use Rattle.network.specs.declared.Network.{Network}
use Rattle.network.specs.Accepted.{WellFormed}
use Rattle.feeding.specs.Below.{gate}
use Rattle.feeding.specs.Networks.{at}
use Rattle.feeding.proofs.Lows.{at_tabulate}
use Rattle.feeding_ends.specs.Ends.{TwoEnds, end_at, far_at, own_ends}
use Rattle.feeding_ends.proofs.Chains.{end_even, end_odd}
use Rattle.feeding_loads.proofs.Same.{far_at_lem}
use Rattle.plan_spurs.specs.declared.Lumped.{Lumped}
use Rattle.plan_spurs.specs.Spurs.{FarIn, lumped_to}
use Rattle.plan_spurs.proofs.OneMore.{AsLong, as_long, to_long}
use Rattle.plan_lumping.specs.Layers.{closable_ends, layers_for, lumped_layers}

pub few_layers : (n : ℕ) → n < 10 → 0 ≡ layers_for n
unfolding layers_for
few_layers n h = rw (lt-ltb n 10 h, layers_for)

pub some_layers : (n : ℕ) → 10 ≤ n → 4 ≡ layers_for n
unfolding layers_for
some_layers n h = rw (le-ltb n 10 h, layers_for)

module _ (n : Network) (link : List ℕ) (count : ℕ) (sound : List ℕ) (s : Lumped) where
  pub no_layer : s ≡ lumped_layers n link count sound s 0
  unfolding lumped_layers
  no_layer = refl

  pub one_layer : (i : ℕ) (t : Lumped) → t ≡ lumped_layers n link count sound s i
      → lumped_to (closable_ends n.from n.to n.links link count t.base) sound n.capacity t n.elements ≡ lumped_layers n link count sound s (i + 1)
  unfolding lumped_layers
  one_layer i t q =
      let more : suc i ≡ i + 1 = omega arith in
      ap (λ (u : Lumped). lumped_to (closable_ends n.from n.to n.links link count u.base) sound n.capacity u n.elements) q
      ∙ ap (lumped_layers n link count sound s) more

  pub layers_long : (i : ℕ) → AsLong s (lumped_layers n link count sound s i)
  unfolding lumped_layers
  layers_long zero = (refl, refl)
  layers_long (suc i) =
      let t = lumped_layers n link count sound s i in
      as_long s t (lumped_layers n link count sound s (suc i)) (to_long (closable_ends n.from n.to n.links link count t.base) sound n.capacity t n.elements) (layers_long i)

-- the far elements are elements
module _ (n : Network) (w : WellFormed n) (has : ℕ → Bool) where
  end_in : (j : ℕ) → j < 2 * n.links → (t : Bool) → eqb (j % 2) 0 ≡ t → end_at (at n.to) (at n.from) j < 64
  end_in j k true t = rw (end_even (at n.to) (at n.from) j (eqb-true _ 0 t)) (omega (arith, w.to_in (j / 2) (omega arith), w.elements_fit))
  end_in j k false t = rw (end_odd (at n.to) (at n.from) j (eqb-false _ 0 t)) (omega (arith, w.from_in (j / 2) (omega arith), w.elements_fit))

  pub far_in : FarIn (own_ends (at n.from) (at n.to) has n.links).far
  unfolding own_ends
  far_in j k = go (ltb j (2 * n.links)) refl
    where
      go : (t : Bool) → ltb j (2 * n.links) ≡ t → at (own_ends (at n.from) (at n.to) has n.links).far j < 64
      go true t = rw (far_at_lem (at n.from) (at n.to) has n.links w.links_fit j (ltb-true _ _ t)) (end_in j (ltb-true _ _ t) (eqb (j % 2) 0) refl)
      go false t = omega (
        arith,
        at_tabulate 192 (λ j. gate (ltb j (2 * n.links)) (far_at (at n.from) (at n.to) j)) j k,
        ap (λ b. gate b (far_at (at n.from) (at n.to) j)) t,
      )

-- what `own_ends` asks, of another set as long
pub ends_of : {from to base has : List ℕ} {links : ℕ} → TwoEnds from to base links → length has ≡ 96 → TwoEnds from to has links
ends_of t long = record {
  fit = t.fit;
  from_long = t.from_long;
  to_long = t.to_long;
  has_long = omega (arith, t.fit);
  from_in = t.from_in;
  to_in = t.to_in;
  differ = t.differ;
}
