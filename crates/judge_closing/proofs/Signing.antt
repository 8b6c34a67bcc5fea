-- What an element adds to the signs of its part, by its flags.
-- Assumes nothing.
use mathlib.Core.Path.{◌≡◌, refl}
use mathlib.Core.Bool.{Bool, true, false}
use Prim.Native.Nat.{ℕ, ◌+◌, ◌≤◌}
use lib.Dec.{eqb}
use borrow.Author.Tests.{eqb-true, eqb-false, ne_eqb}
use native.Mathlib.Omega.{arith}
use Rattle.judge_closing.specs.Checks.{sign_of}

module _ (f x : ℕ) where
  pub sign_source : (r : ℕ) → f ≡ 1 → r ≡ x + 1 → r ≡ sign_of f x
  unfolding sign_of
  sign_source r h q = rw h (omega arith)

  pub sign_faulty : 2 ≤ f → f ≤ 3 → 128 ≡ sign_of f x
  unfolding sign_of
  sign_faulty h k = go (eqb f 2) refl
    where
      go : (t : Bool) → eqb f 2 ≡ t → 128 ≡ sign_of f x
      go true t = let two : f ≡ 2 = eqb-true f 2 t in rw two
      go false t = let three : f ≡ 3 = omega (arith, eqb-false f 2 t) in rw three

  pub sign_none : (f ≡ 1 → ⊥) → (f ≡ 2 → ⊥) → (f ≡ 3 → ⊥) → 0 ≡ sign_of f x
  unfolding sign_of
  sign_none n m o = rw (ne_eqb f 1 n, ne_eqb f 2 m, ne_eqb f 3 o)
