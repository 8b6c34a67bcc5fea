-- The sets that the code makes one from another are the theory's, element by element.
-- Assumes nothing.
use mathlib.Core.Path.{◌≡◌, refl, ap, ap₂, ◌∙◌}
use mathlib.Core.Bool.{Bool, true, not, ◌&&◌, or_self, and_comm}
use mathlib.Core.List.{List}
use Prim.Native.Nat.{ℕ, ◌<◌, ◌≤◌}
use native.Mathlib.Omega.{arith}
use lib.Dec.{eqb}
use lib.ListN.{replicate, get_or-replicate}
use Rattle.network.specs.declared.Network.{Network}
use Rattle.network.specs.Accepted.{WellFormed}
use Rattle.feeding.specs.Below.{bits, any_to}
use Rattle.feeding.specs.Networks.{net_of, grid_of, at, is_in}
use Rattle.feeding.specs.Parts.{Config, closed_in, joined?, sound?, live?}
use Rattle.feeding.specs.Restoration.{spoiled?, clean, restorable?}
use Rattle.feeding.proofs.Below.{not_or}
use Rattle.feeding.proofs.Bits.{bits_ext, is_in_bits}
use Rattle.feeding.proofs.Tests.{sound_flag}
use Rattle.feeding_sets.specs.Sets.{one_of, but_not, at_either_end}
use Rattle.feeding_restoration.specs.Joining.{joined_to}
use Rattle.feeding_restoration.proofs.Spreads.{spread_is}

pub ones : (x : ℕ) → x < 96 → is_in (replicate 96 1) x ≡ true
ones x k = rw (get_or-replicate {A = ℕ} 96 x 1 0 k)

module _ (n : Network) (w : WellFormed n) where
  ends : (l : ℕ) → l < n.links → (at n.from l < n.elements) × (at n.to l < n.elements)
  ends l k = (w.from_in l k, w.to_in l k)

  pub set_at : (m : ℕ) (f : ℕ → Bool) (xs : List ℕ) → m ≤ 96 → xs ≡ bits 96 m f → (x : ℕ) → x < m → is_in xs x ≡ f x
  set_at m f xs fit e x k = ap (λ (ys : List ℕ). is_in ys x) e ∙ is_in_bits 96 m f x fit k

  pub fits : n.elements ≤ 96
  fits = omega (arith, w.elements_fit)

  -- the sets by form and by flags are those of the view
  pub closed_is : bits 96 n.links (one_of n.form 0 2) ≡ bits 96 n.links (net_of n).start_closed
  unfolding net_of one_of
  closed_is = refl

  pub fixed_is : bits 96 n.links (one_of n.form 0 0) ≡ bits 96 n.links (net_of n).fixed
  unfolding net_of one_of
  fixed_is = bits_ext 96 n.links _ _ (λ l _. or_self (eqb (at n.form l) 0))

  pub faulty_is : bits 96 n.elements (one_of n.flags 2 3) ≡ bits 96 n.elements (net_of n).grid.faulty
  unfolding net_of grid_of one_of
  faulty_is = refl

  pub sound_is : bits 96 n.elements (one_of n.flags 1 1) ≡ bits 96 n.elements (sound? (net_of n).grid)
  unfolding net_of grid_of one_of sound?
  sound_is = bits_ext 96 n.elements _ _ (λ e _. or_self (eqb (at n.flags e) 1) ∙ sound_flag (at n.flags e))

  -- a set spread over the parts of a configuration, whose states a list holds
  module _ (closed : List ℕ) (c : Config) (same : (l : ℕ) → l < n.links → closed_in closed l ≡ c l) (has : List ℕ) (h : ℕ → Bool)
      (is : has ≡ bits 96 n.elements h) where
    joined_is : (e : ℕ) → e < n.elements
        → joined_to n.from n.to closed has n.elements n.links e ≡ any_to n.elements (λ y. h y && joined? (net_of n).grid c y e)
    unfolding joined_to net_of
    joined_is = spread_is n.elements n.links n.load n.capacity n.flags n.from n.to closed c w.elements_fit ends same
        has h (set_at n.elements h has fits is)

  -- from the sound sources: the live elements
  pub live_is : (closed : List ℕ) (c : Config) → ((l : ℕ) → l < n.links → closed_in closed l ≡ c l)
      → (sound : List ℕ) → sound ≡ bits 96 n.elements (sound? (net_of n).grid)
      → bits 96 n.elements (joined_to n.from n.to closed sound n.elements n.links) ≡ bits 96 n.elements (live? (net_of n).grid c)
  unfolding live? net_of grid_of
  live_is closed c same sound e = bits_ext 96 n.elements _ _ (joined_is closed c same sound (sound? (net_of n).grid) e)

  -- from the faulty ones, over fixed links: the spoiled ones
  pub spoiled_is : (fixed faulty : List ℕ) → fixed ≡ bits 96 n.links (net_of n).fixed → faulty ≡ bits 96 n.elements (net_of n).grid.faulty
      → bits 96 n.elements (joined_to n.from n.to fixed faulty n.elements n.links) ≡ bits 96 n.elements (spoiled? (net_of n))
  unfolding spoiled? net_of grid_of
  spoiled_is fixed faulty f h = bits_ext 96 n.elements _ _
      (joined_is fixed (net_of n).fixed (set_at n.links _ fixed w.links_fit f) faulty (net_of n).grid.faulty h)

  -- the restorable elements, from the spoiled ones
  module _ (spoiled : List ℕ) (is : spoiled ≡ bits 96 n.elements (spoiled? (net_of n))) where
    spoiled_at : (e : ℕ) → e < n.elements → is_in spoiled e ≡ spoiled? (net_of n) e
    spoiled_at e k = set_at n.elements _ spoiled fits is e k

    pub clean_is : (touched all clear : List ℕ) → touched ≡ bits 96 n.links (at_either_end n.from n.to spoiled) → all ≡ replicate 96 1
        → clear ≡ bits 96 n.links (but_not all touched) → (l : ℕ) → l < n.links → closed_in clear l ≡ clean (net_of n) l
    unfolding clean net_of grid_of but_not at_either_end
    clean_is touched all clear t a d l k =
        set_at n.links _ clear w.links_fit d l k
        ∙ ap₂ (λ (x y : Bool). x && not y) (ap (λ (xs : List ℕ). is_in xs l) a ∙ ones l (omega (arith, w.links_fit))) (set_at n.links _ touched w.links_fit t l k)
        ∙ not_or (is_in spoiled (at n.from l)) (is_in spoiled (at n.to l))
        ∙ ap₂ (λ (x y : Bool). not x && not y) (spoiled_at (at n.from l) (w.from_in l k)) (spoiled_at (at n.to l) (w.to_in l k))

    pub unspoiled_is : (source unspoiled : List ℕ) → source ≡ bits 96 n.elements (one_of n.flags 1 3)
        → unspoiled ≡ bits 96 n.elements (but_not source spoiled)
        → unspoiled ≡ bits 96 n.elements (λ e. (net_of n).grid.source e && not (spoiled? (net_of n) e))
    unfolding net_of grid_of but_not one_of
    unspoiled_is source unspoiled s u = u ∙ bits_ext 96 n.elements _ _ (λ e k.
        ap₂ (λ (x y : Bool). x && not y) (set_at n.elements _ source fits s e k) (spoiled_at e k))

    pub restorable_is : (clear unspoiled reached : List ℕ) → ((l : ℕ) → l < n.links → closed_in clear l ≡ clean (net_of n) l)
        → unspoiled ≡ bits 96 n.elements (λ e. (net_of n).grid.source e && not (spoiled? (net_of n) e))
        → reached ≡ bits 96 n.elements (joined_to n.from n.to clear unspoiled n.elements n.links)
        → bits 96 n.elements (but_not reached spoiled) ≡ bits 96 n.elements (restorable? (net_of n))
    unfolding restorable? net_of grid_of but_not
    restorable_is clear unspoiled reached cl un r = bits_ext 96 n.elements _ _ (λ e k.
        ap₂ (λ (x y : Bool). x && not y)
        (set_at n.elements _ reached fits r e k
        ∙ joined_is clear (clean (net_of n)) cl unspoiled (λ s. (net_of n).grid.source s && not (spoiled? (net_of n) s)) un e k)
        (spoiled_at e k)
        ∙ and_comm _ (not (spoiled? (net_of n) e)))
