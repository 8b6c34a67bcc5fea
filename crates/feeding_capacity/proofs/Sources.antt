-- The walk from one source answers whether all that it feeds is within capacity: by what a walk says that stops, and one that does not.
-- Assumes nothing.
use Prim.Native.Nat.{ℕ, ◌*◌, ◌<◌}
use mathlib.Core.Path.{◌≡◌, refl, sym, ap}
use mathlib.Core.Bool.{Bool, true, false, not}
use mathlib.Core.List.{List}
use lib.Dec.{eqb}
use borrow.Author.Tests.{eqb-true, eqb-false, lt-ltb, le-ltb}
use Rattle.feeding.specs.Networks.{at}
use Rattle.feeding.specs.Parts.{Config}
use Rattle.feeding.specs.Loads.{element_over, within_from?}
use Rattle.feeding_loads.specs.Walks.{walk_grid}
use Rattle.feeding_capacity.specs.Within.{overloaded, within_at}
use Rattle.feeding_capacity.proofs.Room.{stopped_over, fitting_over}

module _ (E K : ℕ) (far load capacity : List ℕ) (c : Config) where
  pub from_fits : (s room r : ℕ) → r ≡ within_at (walk_grid E K far load capacity) c (2 * E) s K room → (r ≡ overloaded → ⊥)
      → true ≡ within_from? (walk_grid E K far load capacity) c s
  unfolding walk_grid within_from?
  from_fits s room r q f = sym (ap not (le-ltb (element_over (walk_grid E K far load capacity) c (2 * E) s K) E
      (fitting_over (walk_grid E K far load capacity) c (2 * E) s K room r q f)))

  pub from_stops : (s r : ℕ) → s < E → at capacity s < overloaded
      → r ≡ within_at (walk_grid E K far load capacity) c (2 * E) s K (at capacity s) → r ≡ overloaded
      → false ≡ within_from? (walk_grid E K far load capacity) c s
  unfolding walk_grid within_from?
  from_stops s r k small q f = sym (ap not (lt-ltb (element_over (walk_grid E K far load capacity) c (2 * E) s K) E
      (stopped_over (walk_grid E K far load capacity) c (2 * E) s K r k small q f)))

  pub from_is : (s r : ℕ) → s < E → at capacity s < overloaded
      → r ≡ within_at (walk_grid E K far load capacity) c (2 * E) s K (at capacity s)
      → not (eqb r overloaded) ≡ within_from? (walk_grid E K far load capacity) c s
  from_is s r k small q = go (eqb r overloaded) refl
    where
      go : (t : Bool) → eqb r overloaded ≡ t → not t ≡ within_from? (walk_grid E K far load capacity) c s
      go true t = from_stops s r k small q (eqb-true r overloaded t)
      go false t = from_fits s (at capacity s) r q (eqb-false r overloaded t)
