-- The turns of `loads_from`: each marked element's walk goes into the list.
-- Assumes nothing.
use Prim.Native.Nat.{ℕ, ◌+◌, ◌*◌}
use mathlib.Core.Path.{◌≡◌, refl, sym, ap, ◌∙◌}
use mathlib.Core.Bool.{Bool, true, false}
use mathlib.Core.List.{List}
use native.Mathlib.Numerals.{add-one}
use borrow.Author.Tests.{eq-eqb, ne_eqb}
use Rattle.feeding.specs.Networks.{at, is_in}
use Rattle.feeding.specs.Parts.{Config}
use Rattle.feeding_loads.specs.Walks.{walk_grid}
use Rattle.feeding_margins.specs.Margins.{fold_to, element_stored, loads_stored}

-- the list after the walks from the marked ones of the first n elements
unfoldable pub from_marked : (E K : ℕ) (far load : List ℕ) → Config → (marked : List ℕ) → ℕ → List ℕ → List ℕ
from_marked E K far load c marked s ys = elim (is_in marked s) [ true ↦ element_stored (walk_grid E K far load load) c (2 * E) s K ys | false ↦ ys ]

unfoldable pub stored_to : (E K : ℕ) (far load : List ℕ) → Config → (marked : List ℕ) → ℕ → List ℕ → List ℕ
stored_to E K far load c marked n xs = fold_to n (from_marked E K far load c marked) xs

module _ (E K : ℕ) (far load : List ℕ) (c : Config) (marked xs : List ℕ) where
  pub stored_start : xs ≡ stored_to E K far load c marked 0 xs
  unfolding stored_to fold_to
  stored_start = refl

  stored_next : (s : ℕ) → stored_to E K far load c marked (s + 1) xs ≡ from_marked E K far load c marked s (stored_to E K far load c marked s xs)
  unfolding stored_to fold_to
  stored_next s = ap (λ (n : ℕ). fold_to n (from_marked E K far load c marked) xs) (add-one s)

  pub stored_on : (s : ℕ) (ys ys' : List ℕ) → at marked s ≡ 1 → ys ≡ stored_to E K far load c marked s xs
      → ys' ≡ element_stored (walk_grid E K far load load) c (2 * E) s K ys → ys' ≡ stored_to E K far load c marked (s + 1) xs
  unfolding from_marked
  stored_on s ys ys' h p q =
      q ∙ ap (element_stored (walk_grid E K far load load) c (2 * E) s K) p
      ∙ ap (λ (t : Bool). elim t [ true ↦ element_stored (walk_grid E K far load load) c (2 * E) s K (stored_to E K far load c marked s xs) | false ↦ stored_to E K far load c marked s xs ])
      (sym (eq-eqb (at marked s) 1 h)) ∙ sym (stored_next s)

  pub stored_off : (s : ℕ) (ys ys' : List ℕ) → (at marked s ≡ 1 → ⊥) → ys ≡ stored_to E K far load c marked s xs → ys' ≡ ys
      → ys' ≡ stored_to E K far load c marked (s + 1) xs
  unfolding from_marked
  stored_off s ys ys' h p q =
      q ∙ p ∙ ap (λ (t : Bool). elim t [ true ↦ element_stored (walk_grid E K far load load) c (2 * E) s K (stored_to E K far load c marked s xs) | false ↦ stored_to E K far load c marked s xs ])
      (sym (ne_eqb (at marked s) 1 h)) ∙ sym (stored_next s)

  pub stored_all : (s : ℕ) (ys : List ℕ) → s ≡ E → ys ≡ stored_to E K far load c marked s xs
      → ys ≡ loads_stored (walk_grid E K far load load) c (is_in marked) xs
  unfolding stored_to loads_stored from_marked walk_grid
  stored_all s ys q p = p ∙ ap (λ (n : ℕ). fold_to n (from_marked E K far load c marked) xs) q
