-- The entries of a list by their place: they are its members, and those of a rising list rise.
-- Assumes nothing.
use Prim.Native.Nat.{ℕ, zero, suc, ◌<◌}
use mathlib.Core.Path.{◌≡◌, refl}
use mathlib.Core.List.{List, [], ◌∷◌}
use mathlib.Core.Logic.{inl, inr}
use lib.ListN.{length}
use native.Mathlib.Omega.{arith}
use Rattle.feeding.specs.Below.{Member, Rising}
use Rattle.feeding.specs.Networks.{at}

pub at_member : (xs : List ℕ) (i : ℕ) → i < length xs → Member (at xs i) xs
unfolding Member
at_member [] i k = absurd (omega arith)
at_member (x ∷ xs) zero k = inl refl
at_member (x ∷ xs) (suc i) k = inr (at_member xs i (omega arith))

pub member_at : (xs : List ℕ) (l : ℕ) → Member l xs → (i : ℕ) × (i < length xs) × (l ≡ at xs i)
unfolding Member
member_at [] l m = absurd m
member_at (x ∷ xs) l (inl e) = (0, omega arith, e)
member_at (x ∷ xs) l (inr m) = let r = member_at xs l m in (suc r.0, omega (arith, r.1), r.2)

pub at_rising : (xs : List ℕ) → Rising xs → (i j : ℕ) → i < j → j < length xs → at xs i < at xs j
unfolding Rising
at_rising [] r i j h k = absurd (omega arith)
at_rising (x ∷ xs) r i zero h k = absurd (omega arith)
at_rising (x ∷ xs) r zero (suc j) h k = r.0 (at xs j) (at_member xs j (omega arith))
at_rising (x ∷ xs) r (suc i) (suc j) h k = at_rising xs r.1 i j (omega arith) (omega arith)
