-- A list of steps as a plan, and the printed form of a set that is held as a list.
-- Assumes nothing.
use Rattle.std.specs.Prelude.{◌≡◌, Bool, true, false, ◌&&◌, List, [], ◌∷◌, ◌++◌, ℕ, zero, suc, ◌+◌, ◌≤◌, eqb, length, get_or, set}
use Rattle.feeding.specs.Networks.{at, is_in}
use Rattle.feeding.specs.Plans.{Step, sweep}
use Rattle.file_plan.specs.declared.plan.Plan.{Plan}

-- the plan with one step more, and with a list of steps more
unfoldable pub with_one : Plan → Step → Plan
with_one p s = record { link = set p.link p.steps s.link; close = set p.close p.steps s.want; steps = p.steps + 1 }

unfoldable pub plan_with : Plan → List Step → Plan
plan_with p [] = p
plan_with p (s ∷ q) = plan_with (with_one p s) q

-- the first n steps of a plan, and all of them
unfoldable pub steps_to : Plan → ℕ → List Step
steps_to p zero = []
steps_to p (suc n) = steps_to p n ++ (record { link = at p.link n; want = get_or p.close n false } ∷ [])

unfoldable pub steps_of : Plan → List Step
steps_of p = steps_to p p.steps

-- the link l is in the set, and in the state given at the start
unfoldable pub in_state : (operated closed : List ℕ) (state l : ℕ) → Bool
in_state operated closed state l = is_in operated l && eqb (at closed l) state

-- "first the openings, then the closings, each group by rising link number"
unfoldable pub form_of : (operated closed : List ℕ) → ℕ → List Step
form_of operated closed n = sweep false (in_state operated closed 1) n ++ sweep true (in_state operated closed 0) n

-- the lists reach over the first n links, and the plan has room for a step for each
pub record PlanReach (p : Plan) (operated closed : List ℕ) (n : ℕ) : Type 0 where
  pub fit : n ≤ 96
  pub operated_long : n ≤ length operated
  pub closed_long : n ≤ length closed
  pub link_long : length p.link ≡ 255
  pub close_long : length p.close ≡ 255
  pub room : p.steps + n ≤ 255
