-- `file_plan::plan::Plan::empty` is the empty plan, by computing.
use mathlib.Core.Path.{refl}
use Rattle.file_plan.specs.PlanFiles.{empty_plan}
use Rattle.file_plan.proofs.plan.Plan.empty.Goals as goal

pub returns : goal.returns
unfolding empty_plan
returns c = refl
