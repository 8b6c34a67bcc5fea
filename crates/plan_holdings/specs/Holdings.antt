-- What the parts hold by arrays of labels and sets, in the words of `plan_problem`.
-- Internal: no promise to a user is said by it.
-- Assumes nothing.
use Rattle.std.specs.Prelude.{◌&&◌, List, ℕ, eqb}
use Rattle.feeding.specs.Below.{gate, tabulate}
use Rattle.feeding.specs.Networks.{at, is_in}
use Rattle.plan_stops.specs.Holding.{holding, waits_for}

-- what the part of each element holds, by three sets
unfoldable pub holdings_of : (live faulty needed : List ℕ) → List ℕ
holdings_of live faulty needed = tabulate 64 (λ x. holding (is_in live x) (is_in faulty x) (is_in needed x))

-- 1 where x is the label of its part, and the part waits
unfoldable pub waiting_at : (label holds : List ℕ) → ℕ → ℕ
waiting_at label holds x = gate (eqb (at label x) x && waits_for (at holds x)) 1
