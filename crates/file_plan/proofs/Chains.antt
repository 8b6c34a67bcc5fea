-- The steps and the end of a plan, one behind the other: what each function hands on is what the definition puts behind the run before it, by how far that run came.
-- Assumes nothing.
use mathlib.Core.List.{List}
use mathlib.Core.Path.{◌≡◌, ap}
use Prim.Native.Nat.{ℕ, ◌+◌}
use Rattle.std.specs.Prelude.{Ok, Err}
use Rattle.network.specs.declared.refusal.Refusal.{Refusal}
use Rattle.file_stages.specs.declared.Stage.{Stage}
use Rattle.file_plan.specs.declared.plan.Plan.{Plan}
use Rattle.file_network.specs.declared.reader.Part.{Part}
use Rattle.file_stages.specs.Stages.{after_last}
use Rattle.file_fields.specs.Views.{Seen}
use Rattle.file_fields.specs.Fields.{word}
use Rattle.file_network.specs.Runs.{Reading, records, always}
use Rattle.file_network.specs.Inputs.{part_of}
use Rattle.file_plan.specs.PlanFiles.{empty_plan, with_step, steps_on, steps_on_by, plan_end_on}
use Rattle.file_network.proofs.Outcomes.{part_refused, part_reached}

-- the steps, then the end of the plan
module _ (s : List ℕ) (seen : Seen) (head at : ℕ) (stage : Stage) where
  abbrev steps_here : Reading Plan
  steps_here = records s (always seen) (with_step s) (word s (head + 4)) at stage empty_plan

  abbrev then_plan_end : ℕ → Stage → Plan → Reading Plan
  then_plan_end after next plan = plan_end_on s seen after (after_last next) plan

  pub steps_refused : (r : Refusal) → Err r ≡ part_of steps_here → Err r ≡ part_of (steps_on s seen head at stage empty_plan)
  unfolding steps_on_by
  steps_refused r h = ap part_of (part_refused steps_here then_plan_end r h)

  pub steps_reached : (part : Part Plan) → Ok part ≡ part_of steps_here →
      plan_end_on s seen part.at (after_last part.stage) part.value ≡ steps_on s seen head at stage empty_plan
  unfolding steps_on_by
  steps_reached part h = (part_reached steps_here then_plan_end part h).1
