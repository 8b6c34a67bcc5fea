-- Sums, tests and lowest numbers over the numbers below a bound: the words that the definitions of this crate are written in.
-- Assumes nothing.
use Rattle.std.specs.Prelude.{◌≡◌, Bool, true, false, ◌&&◌, ◌||◌, List, [], ◌∷◌, ◌++◌, ◌⊎◌, ltb, ℕ, zero, suc, ◌+◌, ◌<◌, ◌≤◌, min, Option, Some, None}

-- x where the test passed, else 0
abbrev pub gate : Bool → ℕ → ℕ
gate b x = elim b [ true ↦ x | false ↦ zero ]

-- where the first test passes, so does the second
abbrev pub imp : Bool → Bool → Bool
imp a b = elim a [ true ↦ b | false ↦ true ]

-- the sum of f over the numbers below n
unfoldable pub sum_to : ℕ → (ℕ → ℕ) → ℕ
sum_to zero f = zero
sum_to (suc n) f = sum_to n f + f n

-- every number below n passes the test
unfoldable pub all_to : ℕ → (ℕ → Bool) → Bool
all_to zero f = true
all_to (suc n) f = all_to n f && f n

-- some number below n passes the test
unfoldable pub any_to : ℕ → (ℕ → Bool) → Bool
any_to zero f = false
any_to (suc n) f = any_to n f || f n

-- the least of z and of f over the numbers below n
unfoldable pub least_to : ℕ → ℕ → (ℕ → ℕ) → ℕ
least_to zero z f = z
least_to (suc n) z f = min (least_to n z f) (f n)

-- the lowest of i, i + 1, .. that passes the test; i + n where none of these n does
unfoldable pub lowest_from : ℕ → ℕ → (ℕ → Bool) → ℕ
lowest_from zero i f = i
lowest_from (suc n) i f = elim (f i) [ true ↦ i | false ↦ lowest_from n (suc i) f ]

-- the lowest number below n that passes the test; n where none does
unfoldable pub lowest : ℕ → (ℕ → Bool) → ℕ
lowest n f = lowest_from n zero f

-- the number that a search gave, where it is below n; none where the search gave n
unfoldable pub some_below : ℕ → ℕ → Option ℕ
some_below n x = elim (ltb x n) [ true ↦ Some x | false ↦ None ]

-- the highest number below n that passes the test; z where none does
unfoldable pub highest : ℕ → ℕ → (ℕ → Bool) → ℕ
highest zero z f = z
highest (suc n) z f = elim (f n) [ true ↦ n | false ↦ highest n z f ]

-- the numbers below n that pass the test, by rising number
unfoldable pub those : ℕ → (ℕ → Bool) → List ℕ
those zero f = []
those (suc n) f = elim (f n) [ true ↦ those n f ++ (n ∷ []) | false ↦ those n f ]

-- f 0, .., f (n - 1)
unfoldable pub tabulate : ℕ → (ℕ → ℕ) → List ℕ
tabulate zero f = []
tabulate (suc n) f = tabulate n f ++ (f n ∷ [])

-- w numbers, 1 at those below n that pass the test and 0 at the others
unfoldable pub bits : ℕ → ℕ → (ℕ → Bool) → List ℕ
bits w n f = tabulate w (λ x. gate (ltb x n && f x) 1)

-- l is an entry of the list
unfoldable pub Member : ℕ → List ℕ → Type 0
Member l [] = ⊥
Member l (x ∷ xs) = (l ≡ x) ⊎ Member l xs

-- each entry is above those before it
unfoldable pub Rising : List ℕ → Type 0
Rising [] = Unit {0}
Rising (x ∷ xs) = ((l : ℕ) → Member l xs → x < l) × Rising xs

-- x is the lowest number below n that has it, or x is n and none has it
pub record Lowest (n : ℕ) (P : ℕ → Type 0) (x : ℕ) : Type 0 where
  pub at_most : x ≤ n
  pub has : x < n → P x
  pub none_lower : (y : ℕ) → y < x → ¬ P y
