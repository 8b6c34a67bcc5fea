-- The chain of an element's own ends: an end of the chain is one of them, and between one and the next there is none; by how `lowest_from` steps.
-- Assumes nothing.
use Prim.Native.Nat.{ℕ, suc, ◌+◌, ◌-◌, ◌*◌, ◌/◌, ◌%◌, ◌≤◌, ◌<◌}
use mathlib.Core.Path.{◌≡◌, refl, sym, ap, ◌∙◌}
use mathlib.Core.Bool.{Bool, true, false}
use lib.Dec.{eqb, ltb}
use borrow.Author.Tests.{eqb-true, eq-eqb, ne_eqb, ltb-true, ltb-false, lt-ltb}
use native.Mathlib.Omega.{arith}
use Rattle.feeding.specs.Below.{lowest_from}
use Rattle.feeding.proofs.Below.{and_left, and_right, and_both}
use Rattle.feeding.proofs.Lows.{lowest_here, lowest_next, lowest_from_is}
use Rattle.feeding_ends.specs.Ends.{end_at, own, own_end}

-- ---- the ends of a link

module _ (a b : ℕ → ℕ) where
  pub end_even : (j : ℕ) → j % 2 ≡ 0 → end_at a b j ≡ a (j / 2)
  unfolding end_at
  end_even j h = rw (eq-eqb (j % 2) 0 h, end_at)

  pub end_odd : (j : ℕ) → (j % 2 ≡ 0 → ⊥) → end_at a b j ≡ b (j / 2)
  unfolding end_at
  end_odd j h = rw (ne_eqb (j % 2) 0 h, end_at)

  pub end_first : (l : ℕ) → end_at a b (2 * l) ≡ a l
  end_first l = let q : 2 * l / 2 ≡ l = omega arith in end_even (2 * l) (omega arith) ∙ ap a q

  pub end_second : (l : ℕ) → end_at a b (2 * l + 1) ≡ b l
  end_second l = let q : (2 * l + 1) / 2 ≡ l = omega arith in end_odd (2 * l + 1) (omega arith) ∙ ap b q

-- ---- the chain of e

module _ (a b : ℕ → ℕ) (has : ℕ → Bool) (n e : ℕ) where
  pub own_yes : (j : ℕ) → j < 2 * n → end_at a b j ≡ e → has (j / 2) ≡ true → own a b has n e j ≡ true
  unfolding own
  own_yes j h q k = and_both (ltb j (2 * n)) _ (lt-ltb j (2 * n) h) (and_both (eqb (end_at a b j) e) _ (eq-eqb _ e q) k)

  pub own_below : (j : ℕ) → own a b has n e j ≡ true → j < 2 * n
  unfolding own
  own_below j h = ltb-true j (2 * n) (and_left (ltb j (2 * n)) _ h)

  pub own_at : (j : ℕ) → own a b has n e j ≡ true → end_at a b j ≡ e
  unfolding own
  own_at j h = eqb-true _ e (and_left (eqb (end_at a b j) e) _ (and_right (ltb j (2 * n)) _ h))

  pub own_has : (j : ℕ) → own a b has n e j ≡ true → has (j / 2) ≡ true
  unfolding own
  own_has j h = and_right (eqb (end_at a b j) e) _ (and_right (ltb j (2 * n)) _ h)

  -- an end that is past the links', at another element or of a link that is not in the set
  pub own_no : (j : ℕ) → (j < 2 * n → end_at a b j ≡ e → has (j / 2) ≡ true → ⊥) → own a b has n e j ≡ false
  own_no j h = go (own a b has n e j) refl
    where
      go : (t : Bool) → own a b has n e j ≡ t → own a b has n e j ≡ false
      go true t = absurd (h (own_below j t) (own_at j t) (own_has j t))
      go false t = t

  own_end_is : (i : ℕ) → own_end a b has n e i ≡ lowest_from (192 - i) i (own a b has n e)
  unfolding own_end
  own_end_is i = refl

  more : (i : ℕ) → i < 192 → 192 - i ≡ suc (192 - suc i)
  more i h = omega arith

  pub own_end_in : (i : ℕ) → i < 192 → own a b has n e i ≡ true → own_end a b has n e i ≡ i
  own_end_in i h q = own_end_is i ∙ rw (more i h) (lowest_here (192 - suc i) i (own a b has n e) q)

  pub own_end_out : (i : ℕ) → i < 192 → own a b has n e i ≡ false → own_end a b has n e i ≡ own_end a b has n e (suc i)
  own_end_out i h q = own_end_is i ∙ rw (more i h) (lowest_next (192 - suc i) i (own a b has n e) q) ∙ sym (own_end_is (suc i))

  pub own_end_le : (i : ℕ) → i ≤ 192 → own_end a b has n e i ≤ 192
  own_end_le i h = omega (arith, own_end_is i, (lowest_from_is (192 - i) i (own a b has n e)).at_most)

  pub own_end_ge : (i : ℕ) → i ≤ own_end a b has n e i
  own_end_ge i = omega (arith, own_end_is i, (lowest_from_is (192 - i) i (own a b has n e)).at_least)

  pub own_end_has : (i : ℕ) → i ≤ 192 → own_end a b has n e i < 192 → own a b has n e (own_end a b has n e i) ≡ true
  own_end_has i h k = ap (own a b has n e) (own_end_is i) ∙ (lowest_from_is (192 - i) i (own a b has n e)).has (omega (arith, own_end_is i))

  pub own_end_none : (i k : ℕ) → i ≤ k → k < own_end a b has n e i → own a b has n e k ≡ false
  own_end_none i k h q = (lowest_from_is (192 - i) i (own a b has n e)).none k h (omega (arith, own_end_is i))

  -- past the ends there is none more
  pub own_end_past : (i : ℕ) → 2 * n ≤ i → i ≤ 192 → own_end a b has n e i ≡ 192
  own_end_past i h k = go (ltb (own_end a b has n e i) 192) refl
    where
      go : (t : Bool) → ltb (own_end a b has n e i) 192 ≡ t → own_end a b has n e i ≡ 192
      go true t = absurd (omega (arith, own_below (own_end a b has n e i) (own_end_has i k (ltb-true (own_end a b has n e i) 192 t)), own_end_ge i))
      go false t = omega (arith, own_end_le i k, ltb-false (own_end a b has n e i) 192 t)
