-- Document 01, refusals 10 and 11: what they promise of a plan that is not refused.
-- Internal: no promise to a user is said by it.
-- Assumes nothing.
use Rattle.std.specs.Prelude.{◌≡◌, ℕ, ◌<◌, ◌≤◌, length, get_or}
use Rattle.file_plan.specs.declared.plan.Plan.{Plan}

-- Rules 10 and 11, in a network of so many links: "more than 255 steps", "a step's link number is K or more"
pub record WellFormedPlan (links : ℕ) (p : Plan) : Type 0 where
  pub steps_fit : p.steps ≤ 255
  pub link_long : length p.link ≡ 255
  pub close_long : length p.close ≡ 255
  pub link_in : (i : ℕ) → i < p.steps → get_or p.link i 0 < links
