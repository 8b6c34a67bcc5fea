-- A plan that was found, as arrays: its cost, its steps, and the states that it leaves.
-- Internal: what computes; `PlannerReply` and `LibraryReply` of `planner` say which answers the paper asks for.
-- Assumes nothing.
use Rattle.std.specs.Prelude.{◌≡◌, List, ℕ, ◌<◌, Option, Some, None}
use Rattle.network.specs.declared.Network.{Network}
use Rattle.feeding.specs.Networks.{net_of, is_in}
use Rattle.feeding.specs.Plans.{Step, run}
use Rattle.file_plan.specs.PlanFiles.{empty_plan}
use Rattle.plan_problem.specs.Choosing.{Planning, unplanned, by}
use Rattle.plan_form.specs.Printing.{plan_with}
use Rattle.plan_found.specs.declared.Found.{Found}

-- the arrays are those of the plan q: its cost, which is below that of no plan, its steps, the last configuration; for any cost of lists of steps
pub record FoundPlan (n : Network) (price : List Step → ℕ) (q : List Step) (f : Found) : Type 0 where
  pub cost : f.cost ≡ price q
  pub told : f.cost < 18446744073709551615
  pub plan : f.plan ≡ plan_with empty_plan q
  pub closed : (l : ℕ) → l < n.links → is_in f.closed l ≡ run (net_of n).start_closed q l

-- what is found by a planning: nothing, or its plan
abbrev pub FoundBy : Network → (List Step → ℕ) → Planning → Option Found → Type 0
FoundBy n price unplanned r = r ≡ None
FoundBy n price (by q) r = (f : Found) × ((r ≡ Some f) × FoundPlan n price q f)
