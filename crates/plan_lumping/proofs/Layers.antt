-- Layers of spurs lumped leave the lowest overloaded element as it is in the states of every set without a loop: layer by layer, since what is
-- closed after a layer was closed before it.
-- Assumes nothing.
use Prim.Native.Nat.{ℕ, zero, suc, ◌≤◌, ◌<◌, ◌^◌}
use mathlib.Core.Path.{◌≡◌, refl, sym, ap, ◌∙◌}
use mathlib.Core.Bool.{Bool, true, false≢true}
use mathlib.Core.Logic.{inl, ⊎_elim}
use mathlib.Core.List.{List}
use lib.Dec.{eqb}
use lib.ListN.{length, replicate, get_or-replicate}
use borrow.Author.Tests.{eq-eqb, eqb-true}
use native.Mathlib.Omega.{arith}
use Rattle.network.specs.declared.Network.{Network}
use Rattle.network.specs.Accepted.{WellFormed}
use Rattle.feeding.specs.Loads.{lowest_over}
use Rattle.feeding.specs.Networks.{Grid, net_of, grid_of, at, is_in}
use Rattle.feeding.specs.Parts.{Config, closed_in, sound?}
use Rattle.feeding.proofs.Forest.{Bridges}
use Rattle.feeding.proofs.Views.{formed_net}
use Rattle.plan_switches.specs.Switches.{SwitchReach, with_set}
use Rattle.plan_switches.proofs.States.{states_same, states_other, states_within}
use Rattle.plan_spurs.specs.declared.Lumped.{Lumped}
use Rattle.plan_spurs.specs.Spurs.{lumped_to}
use Rattle.plan_lumping.specs.Layers.{closable_in, closable_ends, lumped_layers}
use Rattle.plan_spurs.proofs.Layer.{Laid, Kept, Same, under, layer_same}
use Rattle.plan_spurs.proofs.Spur.{loaded}

-- what a set leaves closed can be closed
pub set_closable : (base link closed : List ℕ) (count s l : ℕ) → SwitchReach link count → length base ≡ 96
    → closed_in (with_set (at link) (at closed) count s base) l ≡ true → is_in (closable_in base link count) l ≡ true
unfolding closable_in
set_closable base link closed count s l reach long h = eq-eqb _ 1
    (states_within (at link) (at closed) (at (replicate 16 1)) count (λ j k. get_or-replicate {A = ℕ} 16 j 1 0 (omega (arith, reach.fit)))
    s l base base (λ j k. omega (arith, long, reach.link_in j k)) (λ q. q) (eqb-true _ 1 h))

module _ (n : Network) (w : WellFormed n) (link closed : List ℕ) (count : ℕ) (reach : SwitchReach link count) (sound base : List ℕ)
    (sound_is : (e : ℕ) → e < n.elements → is_in sound e ≡ sound? (net_of n).grid e) (long : length base ≡ 96)
    (apart : (l : ℕ) → l < n.links → is_in base l ≡ true → (i : ℕ) → i < count → l ≡ at link i → ⊥) where
  abbrev grid : Grid
  grid = (net_of n).grid

  -- what the network's lists say, of the grid
  fit : grid.K ≤ 96
  unfolding net_of grid_of
  fit = w.links_fit

  few : grid.E ≤ 64
  unfolding net_of grid_of
  few = w.elements_fit

  capacity_is : (e : ℕ) → e < grid.E → at n.capacity e ≡ grid.capacity e
  unfolding net_of grid_of
  capacity_is e k = refl

  capacity_in : (e : ℕ) → e < grid.E → at n.capacity e < 2 ^ 32
  unfolding net_of grid_of
  capacity_in = w.capacity_in

  sources : (e : ℕ) → e < grid.E → is_in sound e ≡ sound? grid e
  unfolding net_of grid_of
  sources = sound_is

  -- the configuration that the set s leaves over a list of links
  abbrev over : (s : ℕ) → List ℕ → Config
  over s xs = closed_in (with_set (at link) (at closed) count s xs)

  pub record Layered (t : Lumped) : Type 0 where
    pub base_long : length t.base ≡ 96
    pub load_long : length t.load ≡ 64
    pub load_in_lem : (e : ℕ) → e < n.elements → at t.load e < 2 ^ 32
    pub sub : (l : ℕ) → l < n.links → is_in t.base l ≡ true → is_in base l ≡ true
    pub off : (l : ℕ) → l < n.links → at base l ≡ 0 → at t.base l ≡ 0
    pub less : (s l : ℕ) → l < n.links → over s t.base l ≡ true → over s base l ≡ true
    pub same : (s : ℕ) (whole : Config) → Bridges grid whole → ((l : ℕ) → l < n.links → over s base l ≡ true → whole l ≡ true)
        → lowest_over (loaded grid (at t.load)) (over s t.base) ≡ lowest_over grid (over s base)

  none : Layered (record { base = base; load = n.load })
  unfolding net_of grid_of loaded
  none = record {
    base_long = long;
    load_long = w.load_long;
    load_in_lem = w.load_in_lem;
    sub = λ l k h. h;
    off = λ l k h. h;
    less = λ s l k h. h;
    same = λ s whole b h. refl;
  }

  module _ (t : Lumped) (before : Layered t) where
    abbrev has : ℕ → Bool
    has = is_in (closable_in t.base link count)

    laid : (s : ℕ) → Laid (over s) t.base has grid.K
    unfolding net_of grid_of
    laid s = record {
      other = λ xs ys p q l k e. ap (λ x. eqb x 1) (states_same (at link) (at closed) count s l xs ys
          (λ j h. omega (arith, p, reach.link_in j h)) (λ j h. omega (arith, q, reach.link_in j h)) e);
      plain = λ xs l k h. ap (λ x. eqb x 1) (states_other (at link) (at closed) count s xs l (apart l k (before.sub l k h)));
      closable = λ l k h. set_closable t.base link closed count s l reach before.base_long h;
    }

    kept : Kept t.base grid.E grid.K t
    unfolding net_of grid_of
    kept = record { base_long = before.base_long; load_long = before.load_long; load_in_lem = before.load_in_lem; left = λ l k. inl refl }

    next : (s : ℕ) → Same grid (formed_net n w) fit few has sound n.capacity capacity_is capacity_in sources
        (over s) t.base before.base_long (laid s) t (lumped_to (closable_ends n.from n.to n.links link count t.base) sound n.capacity t n.elements)
    unfolding net_of grid_of closable_ends
    next s = layer_same grid (formed_net n w) fit few has sound n.capacity capacity_is capacity_in sources
        (over s) t.base before.base_long (laid s) t kept n.elements (omega arith)

    one_more : Layered (lumped_to (closable_ends n.from n.to n.links link count t.base) sound n.capacity t n.elements)
    unfolding net_of grid_of
    one_more = record {
      base_long = (next 0).kept.base_long;
      load_long = (next 0).kept.load_long;
      load_in_lem = (next 0).kept.load_in_lem;
      sub = λ l k h. ⊎_elim (λ q. before.sub l k (ap (λ x. eqb x 1) (sym q) ∙ h)) (λ q. absurd (false≢true (sym (ap (λ x. eqb x 1) q.1) ∙ h)))
          ((next 0).kept.left l k);
      off = λ l k h. ⊎_elim (λ q. q ∙ before.off l k h) (λ q. q.1) ((next 0).kept.left l k);
      less = λ s l k h. before.less s l k (under grid (formed_net n w) fit few has sound n.capacity capacity_is capacity_in
          sources (over s) t.base before.base_long (laid s) _ (next s).kept l k h);
      same = λ s whole b h. (next s).same whole b (λ l k q. h l k (before.less s l k q)) ∙ before.same s whole b h;
    }

  -- the theorem, with all that callers need of the lists
  pub layers : (i : ℕ) → Layered (lumped_layers n link count sound (record { base = base; load = n.load }) i)
  unfolding lumped_layers
  layers zero = none
  layers (suc i) = one_more _ (layers i)
