-- Two parts joined, by the cases of the code: whether the source bears the other part, the number of the two, and that numbers stay small.
-- Assumes nothing.
use mathlib.Core.Path.{◌≡◌, refl, ◌∙◌}
use mathlib.Core.Bool.{Bool, true, false, not}
use mathlib.Core.List.{List}
use mathlib.Core.Logic.{◌⊎◌, inl, inr}
use Prim.Native.Nat.{ℕ, ◌+◌, ◌*◌, ◌-◌, ◌^◌, ◌<◌, ◌≤◌}
use native.Mathlib.Nat.{pow-le-pow_right}
use native.Mathlib.Numerals.{add-one}
use native.Mathlib.Omega.{arith}
use lib.Dec.{leb}
use lib.ListN.{set, length-set}
use lib.Seq.{get_or-set_same, get_or-set_other}
use borrow.Author.Tests.{le-leb, lt-leb, leb-true}
use Rattle.feeding.specs.Networks.{at}
use Rattle.plan_stops.specs.Holding.{has_source}
use Rattle.plan_stops.proofs.OneMore.{same?}
use Rattle.plan_stops.specs.Searching.{bears, carried_on}
use Rattle.plan_supply.specs.Supply.{Light}

-- a test that says whether a is below b
below_not : (a b : ℕ) (r : Bool) → (r ≡ true → a < b) → (r ≡ false → b ≤ a) → r ≡ not (leb b a)
below_not a b true p q = rw (lt-leb b a (p refl))
below_not a b false p q = rw (le-leb b a (q refl))

-- ---- two parts by what they hold

module _ (x y a b : ℕ) where
  pub heavy_first : (r : Bool) → has_source x ≡ true → (r ≡ true → a < b) → (r ≡ false → b ≤ a) → r ≡ not (bears x y a b)
  unfolding bears
  heavy_first r h p q = rw (h, bears) (below_not a b r p q)

  pub heavy_second : (r : Bool) → has_source x ≡ false → has_source y ≡ true → (r ≡ true → b < a) → (r ≡ false → a ≤ b) → r ≡ not (bears x y a b)
  unfolding bears
  heavy_second r h k p q = rw (h, k, bears) (below_not b a r p q)

  pub heavy_neither : has_source x ≡ false → has_source y ≡ false → false ≡ not (bears x y a b)
  unfolding bears
  heavy_neither h k = rw (h, k, bears)

  pub borne_first : bears x y a b ≡ true → has_source x ≡ true → b ≤ a
  unfolding bears
  borne_first e h = leb-true b a (rw (h, bears) at e)

  pub borne_second : bears x y a b ≡ true → has_source x ≡ false → has_source y ≡ true → a ≤ b
  unfolding bears
  borne_second e h k = leb-true a b (rw (h, k, bears) at e)

  pub on_first : has_source x ≡ true → a - b ≡ carried_on x y a b
  unfolding carried_on
  on_first h = rw (h, carried_on)

  pub on_second : has_source x ≡ false → has_source y ≡ true → b - a ≡ carried_on x y a b
  unfolding carried_on
  on_second h k = rw (h, k, carried_on)

  pub on_neither : has_source x ≡ false → has_source y ≡ false → a + b ≡ carried_on x y a b
  unfolding carried_on
  on_neither h k = rw (h, k, carried_on)

  -- no more than both
  on_small : carried_on x y a b ≤ a + b
  on_small = go (has_source x) refl (has_source y) refl
    where
      go : (t : Bool) → has_source x ≡ t → (u : Bool) → has_source y ≡ u → carried_on x y a b ≤ a + b
      go true t u v = omega (arith, on_first t)
      go false t true v = omega (arith, on_second t v)
      go false t false v = omega (arith, on_neither t v)

-- ---- the numbers fit

module _ (spare : List ℕ) (i : ℕ) (z : Light spare i) where
  pub light_next : (spare' : List ℕ) → spare' ≡ spare → Light spare' (i + 1)
  light_next spare' e = rw e (record { long = z.long; small = λ x. rw (add-one i) (omega (arith, z.small x)) })

  pub light_same : (spare' : List ℕ) → spare' ≡ spare → Light spare' i
  light_same spare' e = rw e z

  pub light_sum : (x y a b : ℕ) → i ≤ 16 → a ≡ at spare x → b ≡ at spare y → a + b < 18446744073709551616
  light_sum x y a b few e f =
      let top : 2 ^ i ≤ 2 ^ 16 = pow-le-pow_right {n = 2} (omega arith) few in
      omega (arith, z.small x, z.small y)

  pub light_join : (x y p q lo v : ℕ) → v ≡ carried_on p q (at spare x) (at spare y) → lo < 64 → Light (set spare lo v) (i + 1)
  light_join x y p q lo v e k = record { long = length-set spare lo v ∙ z.long; small = λ w. small w (same? w lo) }
    where
      small : (w : ℕ) → (w ≡ lo) ⊎ (w ≡ lo → ⊥) → at (set spare lo v) w < 1099511627776 * 2 ^ (i + 1)
      small w (inl s) = rw (s, get_or-set_same spare lo v 0 (omega (arith, z.long)), add-one i)
          (omega (arith, e, on_small p q (at spare x) (at spare y), z.small x, z.small y))
      small w (inr n) = rw (get_or-set_other spare lo w v 0 n, add-one i) (omega (arith, z.small w))
