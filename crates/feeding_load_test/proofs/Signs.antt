-- A margin as the machine subtracts signed numbers of 64 bits: it fits them, and the test of its sign on its bits is the load test.
-- Assumes nothing.
use Prim.Native.Nat.{ℕ, ◌^◌, ◌<◌, ◌≤◌}
use mathlib.Core.Path.{◌≡◌, refl, sym, ap, ◌∙◌, subst}
use mathlib.Core.Bool.{Bool, true, false, not}
use lib.Dec.{ltb}
use lib.IntN.{ℤ, pos, negsuc, ◌-ℤ◌}
use lib.Signed.{le_z, lt_z, mag}
use mir.Syntax.{w64}
use mir.Val.{SFits, to_z, of_z}
use mir.Facts.{to_z-of_z}
use borrow.Author.Tests.{ltb-true, ltb-false, lt-ltb, le-ltb, le-leb}
use native.Mathlib.Omega.{arith}
use Rattle.feeding.specs.Loads.{margin, borne?}
use Rattle.feeding.proofs.Margins.{margin_pos, margin_neg, borne_true, borne_false}

low_bits : (x : ℕ) → x < 2 ^ 63 → to_z w64 x ≡ pos x
low_bits x h = rw (lt-ltb x (2 ^ 63) h)

minus_is : (cap x : ℕ) → cap < 2 ^ 63 → x < 2 ^ 63 → to_z w64 cap -ℤ to_z w64 x ≡ margin cap x
unfolding margin
minus_is cap x h k = rw (low_bits cap h, low_bits x k)

margin_mag : (cap x : ℕ) → cap < 2 ^ 63 → x < 2 ^ 63 → mag (margin cap x) < 2 ^ 63
margin_mag cap x h k = go (ltb cap x) refl
  where
    go : (t : Bool) → ltb cap x ≡ t → mag (margin cap x) < 2 ^ 63
    go true t = rw (margin_neg cap x (ltb-true cap x t)) (omega arith)
    go false t = rw (margin_pos cap x (ltb-false cap x t)) (omega arith)

pub margin_small : (cap x : ℕ) → cap < 2 ^ 63 → x < 2 ^ 63 → SFits w64 (margin cap x)
margin_small cap x h k = record { sfits = margin_mag cap x h k }

pub margin_fits : (cap x : ℕ) → cap < 2 ^ 63 → x < 2 ^ 63 → SFits w64 (to_z w64 cap -ℤ to_z w64 x)
margin_fits cap x h k = subst (SFits w64) (sym (minus_is cap x h k)) (margin_small cap x h k)

pub margin_back : (cap x : ℕ) → cap < 2 ^ 63 → x < 2 ^ 63 → to_z w64 (of_z w64 (to_z w64 cap -ℤ to_z w64 x)) ≡ margin cap x
margin_back cap x h k = to_z-of_z (margin_fits cap x h k) ∙ minus_is cap x h k

-- ---- what a test of the sign tells

module _ (cap x : ℕ) (m : ℤ) (h : cap < 2 ^ 63) (k : x < 2 ^ 63) (q : m ≡ margin cap x) where
  read_back : to_z w64 (of_z w64 m) ≡ margin cap x
  read_back = ap (λ (y : ℤ). to_z w64 (of_z w64 y)) q ∙ to_z-of_z (margin_small cap x h k)

  -- of `>= 0`
  pub sign_test : (t : Bool) → le_z (pos 0) (to_z w64 (of_z w64 m)) ≡ t → borne? cap x ≡ t
  sign_test t e = ap (le_z (pos 0)) (sym read_back) ∙ e

  pub passed : le_z (pos 0) (to_z w64 (of_z w64 m)) ≡ true → x ≤ cap
  passed e = borne_true cap x (sign_test true e)

  pub failed : le_z (pos 0) (to_z w64 (of_z w64 m)) ≡ false → cap < x
  failed e = borne_false cap x (sign_test false e)

  -- of `< 0`
  turned : (y : ℤ) → le_z (pos 0) y ≡ not (lt_z y (pos 0))
  turned (pos n) = le-leb 0 n (omega arith) ∙ ap not (sym (le-ltb n 0 (omega arith)))
  turned (negsuc n) = refl

  below_test : (t : Bool) → lt_z (to_z w64 (of_z w64 m)) (pos 0) ≡ t → borne? cap x ≡ not t
  below_test t e = turned (margin cap x) ∙ ap not (ap (λ (y : ℤ). lt_z y (pos 0)) (sym read_back) ∙ e)

  pub below : lt_z (to_z w64 (of_z w64 m)) (pos 0) ≡ true → cap < x
  below e = borne_false cap x (below_test true e)

  pub not_below : lt_z (to_z w64 (of_z w64 m)) (pos 0) ≡ false → x ≤ cap
  not_below e = borne_true cap x (below_test false e)
