-- The tests of the three searches, by the numbers that the code compares.
-- Assumes nothing.
use mathlib.Core.Path.{◌≡◌, refl, sym, ◌∙◌}
use mathlib.Core.Bool.{Bool, true, false, and-false}
use mathlib.Core.List.{List}
use Prim.Native.Nat.{ℕ, ◌+◌, ◌-◌, ◌<◌, ◌≤◌, min}
use native.Mathlib.Nat.{min-eq_left}
use native.Mathlib.Omega.{arith}
use borrow.Author.Tests.{eq-eqb, ne_eqb, lt-ltb, le-ltb}
use Rattle.std.specs.Prelude.{Some, None}
use Rattle.feeding.specs.Below.{least_to, lowest_from, lowest, some_below}
use Rattle.feeding.specs.Networks.{at, is_in}
use Rattle.feeding.proofs.Lows.{least_to_step, least_to_top, lowest_stop, lowest_step, lowest_end, some_found, none_found}
use Rattle.feeding_places.specs.Places.{least_looped, not_last, with_last}

module _ (label sound last : List ℕ) (x : ℕ) where
  pub not_last_on : at sound x ≡ 1 → (at last (at label x) ≡ x → ⊥) → not_last label sound last x ≡ true
  unfolding not_last
  not_last_on p q = rw (eq-eqb (at sound x) 1 p, ne_eqb (at last (at label x)) x q)

  pub not_last_off : (at sound x ≡ 1 → ⊥) → not_last label sound last x ≡ false
  unfolding not_last
  not_last_off p = rw (ne_eqb (at sound x) 1 p)

  pub not_last_same : at last (at label x) ≡ x → not_last label sound last x ≡ false
  unfolding not_last
  not_last_same q = rw (eq-eqb (at last (at label x)) x q) (and-false (is_in sound x))

module _ (label faulty last : List ℕ) (x : ℕ) where
  pub with_last_on : at faulty x ≡ 1 → at last (at label x) < 64 → with_last label faulty last x ≡ true
  unfolding with_last
  with_last_on p q = rw (eq-eqb (at faulty x) 1 p, lt-ltb (at last (at label x)) 64 q)

  pub with_last_off : (at faulty x ≡ 1 → ⊥) → with_last label faulty last x ≡ false
  unfolding with_last
  with_last_off p = rw (ne_eqb (at faulty x) 1 p)

  pub with_last_none : 64 ≤ at last (at label x) → with_last label faulty last x ≡ false
  unfolding with_last
  with_last_none q = rw (le-ltb (at last (at label x)) 64 q) (and-false (is_in faulty x))

-- a search over the numbers below n that stands at i
module _ (n i : ℕ) (f : ℕ → Bool) (left : lowest_from (n - i) i f ≡ lowest n f) where
  pub stops : i < n → f i ≡ true → Some i ≡ some_below n (lowest n f)
  stops k h =
      let at-i : lowest n f ≡ i = sym left ∙ lowest_stop n i f k h in
      rw at-i (sym (some_found n i k))

  pub goes_on : i < n → f i ≡ false → lowest_from (n - (i + 1)) (i + 1) f ≡ lowest n f
  goes_on k h = sym (lowest_step n i f k h) ∙ left

  pub ends : i ≤ n → n ≤ i → None ≡ some_below n (lowest n f)
  ends k h = sym (none_found n (lowest n f) (omega (arith, left, lowest_end n i f h k)))

module _ (label looped : List ℕ) (n : ℕ) where
  -- the least label of the first x elements that are marked
  pub least_below : ℕ → ℕ
  least_below x = least_to x n (λ y. elim (is_in looped y) [ true ↦ at label y | false ↦ n ])

  pub least_none : least_below 0 ≡ n
  unfolding least_below least_to
  least_none = refl

  pub least_all : least_below n ≡ least_looped label looped n
  unfolding least_below least_looped
  least_all = refl

  pub least_on : (x : ℕ) → at looped x ≡ 1 → least_below (x + 1) ≡ min (least_below x) (at label x)
  unfolding least_below
  least_on x p = least_to_step x n _ ∙ rw (eq-eqb (at looped x) 1 p) refl

  pub least_off : (x : ℕ) → (at looped x ≡ 1 → ⊥) → least_below (x + 1) ≡ least_below x
  unfolding least_below
  least_off x p = least_to_step x n _ ∙ rw (ne_eqb (at looped x) 1 p) (min-eq_left (least_to_top x n _))
