-- The stop by cost loses no cheaper set: what the switches operated so far cost only rises along the choices.
-- Assumes nothing.
use Prim.Native.Nat.{ℕ, suc, ◌+◌, ◌*◌, ◌/◌, ◌≤◌, ◌<◌}
use mathlib.Core.Path.{◌≡◌}
use mathlib.Core.Bool.{Bool, true, false}
use borrow.Author.Tests.{leb-true, le-leb}
use native.Mathlib.Omega.{arith}
use Rattle.plan_problem.specs.declared.Best.{Best}
use Rattle.plan_problem.specs.Sets.{price_of}
use Rattle.plan_problem.proofs.Scans.{next}
use Rattle.plan_stops.specs.Searching.{dearer}

pub dear_out : (floor : ℕ → ℕ → ℕ) (i s : ℕ) (b : Best) → dearer floor i s b ≡ true → b.cost ≤ floor i s
unfolding dearer
dear_out floor i s b q = leb-true b.cost (floor i s) q

-- where `floor` rises with each further choice
pub dear_goes_on : (floor : ℕ → ℕ → ℕ) (m : ℕ) → ((i s : ℕ) (d : Bool) → i < m → floor i s ≤ floor (suc i) (next d s))
    → (i s : ℕ) (b : Best) (d : Bool) → i < m → dearer floor i s b ≡ true → dearer floor (suc i) (next d s) b ≡ true
unfolding dearer
dear_goes_on floor m rises i s b d k q = le-leb b.cost _ (omega (arith, leb-true b.cost (floor i s) q, rises i s d k))

-- as it does where a set's price is the sum of what its switches add
pub price_rises : (adds : ℕ → ℕ → ℕ) (i s : ℕ) (d : Bool) → price_of adds i s ≤ price_of adds (suc i) (next d s)
unfolding price_of
price_rises adds i s true = let e : (2 * s + 1) / 2 ≡ s = omega arith in rw e (omega arith)
price_rises adds i s false = let e : 2 * s / 2 ≡ s = omega arith in rw e (omega arith)
