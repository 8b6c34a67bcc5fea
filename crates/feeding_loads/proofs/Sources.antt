-- The turns of `over_place`: each marked element's walk goes into the lowest number found.
-- Assumes nothing.
use Prim.Native.Nat.{ℕ, ◌+◌, ◌*◌, ◌≤◌, ◌<◌, ◌^◌, min}
use mathlib.Core.Path.{◌≡◌, sym, ap}
use mathlib.Core.Bool.{true, false}
use mathlib.Core.List.{List}
use lib.Dec.{eqb}
use borrow.Author.Tests.{eq-eqb, ne_eqb}
use native.Mathlib.Omega.{arith}
use Rattle.feeding.specs.Below.{least_to}
use Rattle.feeding.specs.Networks.{Grid, at}
use Rattle.feeding.specs.Parts.{Config}
use Rattle.feeding.specs.Loads.{element_load, element_over}
use Rattle.feeding.proofs.Lows.{least_to_no, least_to_step, least_to_top}
use Rattle.feeding_loads.specs.Walks.{walk_grid, element_carried, Carries, over_place}
use Rattle.feeding_loads.specs.declared.Carried.{Carried}
use Rattle.feeding_loads.proofs.Lending.{element_over_in}

-- what the walk from s finds, where s is marked
unfoldable pub found_from : Grid → Config → List ℕ → ℕ → ℕ
found_from g c sound s = elim (eqb (at sound s) 1) [ true ↦ element_over g c (2 * g.E) s g.K | false ↦ g.E ]

-- the lowest found over the walks from the first n elements
unfoldable pub place_to : (E K : ℕ) (far load capacity : List ℕ) → Config → List ℕ → ℕ → ℕ
place_to E K far load capacity c sound n = least_to n E (found_from (walk_grid E K far load capacity) c sound)

module _ (E K : ℕ) (far load capacity : List ℕ) (c : Config) (sound : List ℕ) where
  pub place_none : E ≡ place_to E K far load capacity c sound 0
  unfolding place_to
  place_none = sym (least_to_no E (found_from (walk_grid E K far load capacity) c sound))

  found_on : (s : ℕ) → at sound s ≡ 1
      → found_from (walk_grid E K far load capacity) c sound s ≡ element_over (walk_grid E K far load capacity) c (2 * E) s K
  unfolding found_from walk_grid
  found_on s h = rw (eq-eqb (at sound s) 1 h, found_from)

  found_off : (s : ℕ) → (at sound s ≡ 1 → ⊥) → found_from (walk_grid E K far load capacity) c sound s ≡ E
  unfolding found_from walk_grid
  found_off s h = rw (ne_eqb (at sound s) 1 h, found_from)

  place_more : (s : ℕ) → place_to E K far load capacity c sound (s + 1)
      ≡ min (place_to E K far load capacity c sound s) (found_from (walk_grid E K far load capacity) c sound s)
  unfolding place_to
  place_more s = least_to_step s E (found_from (walk_grid E K far load capacity) c sound)

  place_top : (s : ℕ) → place_to E K far load capacity c sound s ≤ E
  unfolding place_to
  place_top s = least_to_top s E (found_from (walk_grid E K far load capacity) c sound)

  pub place_on : (s place place' : ℕ) (r : Carried) → at sound s ≡ 1 → r ≡ element_carried (walk_grid E K far load capacity) c (2 * E) s K
      → place ≡ place_to E K far load capacity c sound s → place' ≡ min place r.over → place' ≡ place_to E K far load capacity c sound (s + 1)
  place_on s place place' r h q p p' = omega (
    arith,
    place_more s,
    found_on s h,
    ap (λ (x : Carried). x.over) q,
    element_over_in (walk_grid E K far load capacity) c (2 * E) s K,
  )

  pub place_off : (s place : ℕ) → (at sound s ≡ 1 → ⊥)
      → place ≡ place_to E K far load capacity c sound s → place ≡ place_to E K far load capacity c sound (s + 1)
  place_off s place h p = omega (arith, place_more s, found_off s h, place_top s)

  pub place_all : (s : ℕ) → s ≡ E → place_to E K far load capacity c sound s ≡ over_place (walk_grid E K far load capacity) c sound
  unfolding place_to over_place found_from walk_grid
  place_all s q = rw q

  -- what each marked element's walk asks
  pub carries_at : Carries (walk_grid E K far load capacity) c sound → (s : ℕ) → s < E → at sound s ≡ 1
      → element_load (walk_grid E K far load capacity) c (2 * E) s K < 2 ^ 63
  unfolding walk_grid
  carries_at h s k q = h s k q
