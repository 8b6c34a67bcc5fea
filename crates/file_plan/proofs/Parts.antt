-- The plan file as a chain of runs, by cases on the outcome of each.
-- Assumes nothing.
use mathlib.Core.Path.{◌≡◌, refl}
use mathlib.Core.List.{List}
use Prim.Native.Nat.{ℕ, ◌+◌}
use Rattle.file_stages.specs.declared.Stage.{Stage}
use Rattle.file_stages.specs.declared.Stage.TheVariants.{PlanHead}
use Rattle.file_plan.specs.declared.plan.Plan.{Plan}
use Rattle.file_stages.specs.Stages.{after_last}
use Rattle.file_fields.specs.Fields.{word}
use Rattle.file_fields.specs.Views.{links_seen}
use Rattle.file_network.specs.Runs.{Reading, refused, reached, read_on, records, always, as_is}
use Rattle.file_plan.specs.PlanFiles.{empty_plan, with_step, plan_file, plan_file_by, steps_on, steps_on_by, plan_end_on, plan_end_on_by}

-- The plan file at an offset, in a network of so many links.

module _ (s : List ℕ) (links head : ℕ) where
  abbrev pub plan_head_run : Reading Plan
  plan_head_run = records s (always (links_seen links)) as_is 1 head PlanHead empty_plan

  abbrev pub steps_run : ℕ → Stage → Plan → Reading Plan
  steps_run at stage p = records s (always (links_seen links)) (with_step s) (word s (head + 4)) at stage p

  abbrev pub plan_end_run : ℕ → Stage → Plan → Reading Plan
  plan_end_run at stage p = records s (always (links_seen links)) as_is 1 at (after_last stage) p

  abbrev pub with_steps : Reading Plan
  with_steps = read_on plan_head_run steps_run

  pub plan_chain : plan_file s links head ≡ read_on with_steps plan_end_run
  unfolding plan_file_by steps_on_by plan_end_on_by
  plan_chain = go plan_head_run
    where
      last : (o : Reading Plan) → read_on o (λ after next p. plan_end_on s (links_seen links) after (after_last next) p) ≡ read_on o plan_end_run
      last (refused r) = refl
      last (reached at stage p) = refl

      go : (o : Reading Plan) → read_on o (steps_on s (links_seen links) head) ≡ read_on (read_on o steps_run) plan_end_run
      go (refused r) = refl
      go (reached at stage p) = last (steps_run at stage p)
