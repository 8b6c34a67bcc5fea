-- Document 01, "Feeding": what a plan costs, with document 02's item 2, "Switches that can't break load": a plan pays for the guards of the switches that it
-- operates.
-- Assumes nothing.
use Rattle.std.specs.Prelude.{◌≡◌, Bool, true, ◌&&◌, List, [], ◌∷◌, ℕ, zero, ◌+◌, ◌*◌, ◌≤◌, ◌<◌, eqb, ltb}
use Rattle.feeding.specs.Below.{Member, Rising, gate, any_to, sum_to}
use Rattle.feeding.specs.Networks.{Net}
use Rattle.feeding.specs.Plans.{Step, operations, printed_form, changed}

-- "A step costs what its switch's record states, again at each operation. The cost of a plan is the sum of its steps' costs."
unfoldable pub steps_cost : Net → List Step → ℕ
steps_cost net [] = zero
steps_cost net (s ∷ q) = net.cost s.link + steps_cost net q

-- ---- document 02: what the paper says

-- the link l has a guard
abbrev pub HasGuard : Net → ℕ → Type 0
HasGuard net l = net.guard l < net.grid.K

-- g is the guard of a switch that q operates
pub record PaidFor (net : Net) (q : List Step) (g : ℕ) : Type 0 where
  pub switch : ℕ
  pub below : switch < net.grid.K
  pub operated : 0 < operations switch q
  pub guards : net.guard switch ≡ g
  pub link : g < net.grid.K

-- "once for each guard however many of its switches are operated": the guards that q pays for, all of them and no other, by rising number, so that none is
-- there twice
pub record Charged (net : Net) (q : List Step) (gs : List ℕ) : Type 0 where
  pub rising : Rising gs
  pub only : (g : ℕ) → Member g gs → PaidFor net q g
  pub all : (g : ℕ) → PaidFor net q g → Member g gs

-- "twice the guard's own cost", for each of a list
unfoldable pub doubled : Net → List ℕ → ℕ
doubled net [] = zero
doubled net (g ∷ gs) = 2 * net.cost g + doubled net gs

-- "A plan's cost gains twice the guard's own cost, once for each guard": what q costs. "These openings aren't steps": a guard that is operated costs its own
-- cost as any step does, and a guard's own guard is paid for only where the guard is operated
pub record Costs (net : Net) (q : List Step) (cost : ℕ) : Type 0 where
  pub guards : List ℕ
  pub charged : Charged net q guards
  pub total : cost ≡ steps_cost net q + doubled net guards

-- ---- what computes

-- the switches that a list of steps operates
unfoldable pub operated : List Step → ℕ → Bool
operated q l = ltb 0 (operations l q)

-- g is the guard of a switch of the set D
unfoldable pub guards? : Net → (ℕ → Bool) → ℕ → Bool
guards? net D g = any_to net.grid.K (λ l. D l && eqb (net.guard l) g)

-- what the guards of a set cost
unfoldable pub guard_cost : Net → (ℕ → Bool) → ℕ
guard_cost net D = sum_to net.grid.K (λ g. gate (guards? net D g) (2 * net.cost g))

-- what a list of steps costs
unfoldable pub cost_of : Net → List Step → ℕ
cost_of net q = steps_cost net q + guard_cost net (operated q)

-- what the switches of a set cost, each operated once: their own costs, and with their guards'
unfoldable pub switches_cost : Net → (ℕ → Bool) → ℕ
switches_cost net D = sum_to net.grid.K (λ l. gate (D l) (net.cost l))

unfoldable pub set_cost : Net → (ℕ → Bool) → ℕ
set_cost net D = switches_cost net D + guard_cost net D

-- a cost of lists and one of sets that agree, by the two laws that the theory needs of them
pub record Pricing (net : Net) (list : List Step → ℕ) (set : (ℕ → Bool) → ℕ) : Type 0 where
  -- a set costs at most any list that leaves it changed
  pub at_most : (q : List Step) → set (changed net q) ≤ list q
  -- the printed form costs what its set costs
  pub printed : (D : ℕ → Bool) → ((l : ℕ) → D l ≡ true → l < net.grid.K) → list (printed_form net D) ≡ set D
