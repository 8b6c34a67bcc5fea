-- Sets of switches as numbers, and the cheapest of a list of them: what a search computes.
-- Internal: no promise to a user is said by it.
-- Assumes nothing.
use Rattle.std.specs.Prelude.{Bool, true, false, List, [], ◌∷◌, ◌++◌, ℕ, zero, suc, ◌+◌, ◌*◌, ◌/◌, ◌%◌, eqb, ltb, length}
use Rattle.std.specs.Int.Bits.{bit_and}
use Rattle.feeding.specs.Below.{gate}
use Rattle.feeding.specs.Networks.{at}
use Rattle.feeding.specs.Plans.{put}
use Rattle.plan_problem.specs.declared.Best.{Best}
use Rattle.plan_problem.specs.Choosing.{Choice, nothing, chosen}

-- the set of the first n switches op 0, op 1, .. that a number writes: the first has the highest bit, so a higher number comes first in the
-- set order
unfoldable pub set_of : (op : ℕ → ℕ) → ℕ → ℕ → (ℕ → Bool)
set_of op zero s = λ _. false
set_of op (suc n) s = put (set_of op n (s / 2)) (op n) (eqb (s % 2) 1)

-- what the switches of a set cost: `adds i t` is what switch i adds to the choices t of the switches before it
unfoldable pub price_of : (adds : ℕ → ℕ → ℕ) → ℕ → ℕ → ℕ
price_of adds zero s = zero
price_of adds (suc n) s = price_of adds n (s / 2) + gate (eqb (s % 2) 1) (adds n (s / 2))

-- those of the first n switches that pass the test, as a number: the first has the highest bit, as in `set_of`
unfoldable pub mask_of : (ℕ → Bool) → ℕ → ℕ
mask_of f zero = zero
mask_of f (suc n) = 2 * mask_of f n + gate (f n) 1

-- the charge of a switch's guard, where none of its fellows, the switches before it that have the same guard, is chosen
unfoldable pub charge_by : (charge fellows t : ℕ) → ℕ
charge_by charge fellows t = gate (eqb (bit_and t fellows) 0) charge

-- twice the cost of link l's guard, where it has one, a number below K
unfoldable pub charge_of : (guard cost : ℕ → ℕ) → ℕ → ℕ → ℕ
charge_of guard cost K l = gate (ltb (guard l) K) (2 * cost (guard l))

-- the fellows of switch i, where it has a guard, a number below K; `guard j` is that of switch j
unfoldable pub fellows_of : (guard : ℕ → ℕ) → ℕ → ℕ → ℕ
fellows_of guard K i = gate (ltb (guard i) K) (mask_of (λ j. eqb (guard j) (guard i)) i)

-- a switch adds its price, and its guard's charge
unfoldable pub adds_by : (price charge fellows : ℕ → ℕ) → ℕ → ℕ → ℕ
adds_by price charge fellows i t = price i + charge_by (charge i) (fellows i) t

-- all sets of n further switches behind the choices s, in the set order
unfoldable pub sets_from : ℕ → ℕ → List ℕ
sets_from zero s = s ∷ []
sets_from (suc n) s = sets_from n (2 * s + 1) ++ sets_from n (2 * s)

-- the members of the list that pass the test
unfoldable pub passing : (ℕ → Bool) → List ℕ → List ℕ
passing ok [] = []
passing ok (s ∷ ss) = elim (ok s) [ true ↦ s ∷ passing ok ss | false ↦ passing ok ss ]

-- each set of the list in turn, for any way to keep what was found
unfoldable pub scan : {S : Type 0} → (visit : S → ℕ → S) → List ℕ → S → S
scan visit [] b = b
scan visit (s ∷ ss) b = scan visit ss (visit b s)

-- no set yet: dearer than any
unfoldable pub none : Best
none = record { cost = 18446744073709551615; set = 0 }

-- s in the place of b, where it is cheaper and passes the test
unfoldable pub keep : (cost : ℕ → ℕ) (ok : ℕ → Bool) → Best → ℕ → Best
keep cost ok b s = elim (ltb (cost s) b.cost) [ true ↦ elim (ok s) [ true ↦ record { cost = cost s; set = s } | false ↦ b ] | false ↦ b ]

-- ---- over the switches of a list, for any cost of a set and any test of it

-- the set that a number writes
unfoldable pub set_in : List ℕ → ℕ → (ℕ → Bool)
set_in ls s = set_of (at ls) (length ls) s

-- the first cheapest of all sets that work
unfoldable pub cheapest_by : List ℕ → (cost : (ℕ → Bool) → ℕ) (works : (ℕ → Bool) → Bool) → Best
cheapest_by ls cost works = scan (keep (λ s. cost (set_in ls s)) (λ s. works (set_in ls s))) (sets_from (length ls) 0) none

-- the choice that it stands for
unfoldable pub choice_by : List ℕ → Best → Choice
choice_by ls b = elim (ltb b.cost 18446744073709551615) [ true ↦ chosen (set_in ls b.set) | false ↦ nothing ]
