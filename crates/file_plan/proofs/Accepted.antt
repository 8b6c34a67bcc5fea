-- A plan file that is read whole is well formed: what it states is what is kept, and by the rules that each of its records keeps.
-- Assumes nothing.
use mathlib.Core.Path.{◌≡◌}
use mathlib.Core.List.{List}
use Prim.Native.Nat.{ℕ}
use native.Mathlib.Omega.{arith}
use Rattle.file_stages.specs.declared.Stage.{Stage}
use Rattle.file_plan.specs.declared.plan.Plan.{Plan}
use Rattle.file_fields.specs.Views.{links_seen}
use Rattle.file_network.specs.Runs.{reached}
use Rattle.file_plan.specs.PlanFiles.{plan_file}
use Rattle.file_plan.specs.Accepted.{WellFormedPlan}
use Rattle.file_records.proofs.Due.{step_kept}
use Rattle.file_plan.proofs.Sizes.{plan_size}
use Rattle.file_plan.proofs.Contents.{plan_holds}

pub plan_well_formed :
    (s : List ℕ) (links head at : ℕ) (stage : Stage) (p : Plan) → plan_file s links head ≡ reached at stage p → WellFormedPlan links p
unfolding links_seen
plan_well_formed s links head at stage p h =
    let size = plan_size s links head at stage p h in
    let holds = plan_holds s links head at stage p h in
    record {
      steps_fit = omega (arith, size.steps.steps_fit, size.steps.steps_are);
      link_long = holds.link_long;
      close_long = holds.close_long;
      link_in = λ i lt. rw (holds.step i lt).link_is (step_kept (holds.step i lt).found.whole).link_in;
    }
