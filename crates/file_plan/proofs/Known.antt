-- Where not every kind is known, a plan file is read as ever but for a refusal by rule 2 at a record of an unknown kind: step by step, by the law of a run.
-- Assumes nothing.
use mathlib.Core.Path.{◌≡◌, refl}
use mathlib.Core.Bool.{Bool}
use mathlib.Core.List.{List}
use Prim.Native.Nat.{ℕ, ◌+◌}
use Rattle.file_stages.specs.declared.Stage.{Stage}
use Rattle.file_stages.specs.declared.Stage.TheVariants.{PlanHead}
use Rattle.file_stages.specs.Stages.{after_last}
use Rattle.file_fields.specs.Views.{Seen, links_seen}
use Rattle.file_fields.specs.Fields.{word}
use Rattle.file_network.specs.Runs.{records_by, records, always, as_is}
use Rattle.file_network.specs.Inputs.{closed}
use Rattle.file_records.specs.Records.{length_field}
use Rattle.file_network.proofs.Known.{KnownThere, then_known, records_known, Placed, then_placed, closed_placed, records_placed}
use Rattle.file_plan.specs.declared.plan.Plan.{Plan}
use Rattle.file_plan.specs.PlanFiles.{empty_plan, with_step, plan_end_on_by, plan_end_on, steps_on_by, steps_on, plan_file_by, plan_file}
use Rattle.file_plan.specs.Inputs.{plan_input_by, plan_input}

module _ (known : ℕ → Bool) (s : List ℕ) where
  pub plan_end_known : (seen : Seen) (at : ℕ) (stage : Stage) (p : Plan) → KnownThere known s (plan_end_on_by known s seen at stage p)
      → plan_end_on_by known s seen at stage p ≡ plan_end_on s seen at stage p
  unfolding plan_end_on_by
  plan_end_known seen = records_known known s (always seen) as_is 1

  pub steps_known : (seen : Seen) (head at : ℕ) (stage : Stage) (p : Plan) → KnownThere known s (steps_on_by known s seen head at stage p)
      → steps_on_by known s seen head at stage p ≡ steps_on s seen head at stage p
  unfolding steps_on_by
  steps_known seen head at stage p =
      then_known known s (records_by known s (always seen) (with_step s) (word s (head + 4)) at stage p)
      (records s (always seen) (with_step s) (word s (head + 4)) at stage p)
      (λ o st q. plan_end_on_by known s seen o (after_last st) q) (λ o st q. plan_end_on s seen o (after_last st) q)
      (records_known known s (always seen) (with_step s) (word s (head + 4)) at stage p) (λ o st q. plan_end_known seen o (after_last st) q)

  pub plan_known : (links at : ℕ) → KnownThere known s (plan_file_by known s links at) → plan_file_by known s links at ≡ plan_file s links at
  unfolding plan_file_by
  plan_known links at =
      then_known known s (records_by known s (always (links_seen links)) as_is 1 at PlanHead empty_plan)
      (records s (always (links_seen links)) as_is 1 at PlanHead empty_plan)
      (steps_on_by known s (links_seen links) at) (steps_on s (links_seen links) at)
      (records_known known s (always (links_seen links)) as_is 1 at PlanHead empty_plan) (steps_known (links_seen links) at)

  pub plan_input_known : (links at : ℕ) → KnownThere known s (plan_input_by known s links at) → plan_input_by known s links at ≡ plan_input s links at
  unfolding plan_input_by
  plan_input_known links at =
      then_known known s (plan_file_by known s links at) (plan_file s links at) (closed s) (closed s) (plan_known links at) (λ o stage p there. refl)

-- where every record that stands there is of a known kind
module _ (P : ℕ → Type 0) (known : ℕ → Bool) (s : List ℕ) (on : (at : ℕ) → P at → P (at + length_field s at)) where
  pub plan_input_placed : (links at : ℕ) → P at → Placed P (plan_input_by known s links at)
  unfolding plan_input_by plan_file_by steps_on_by plan_end_on_by
  plan_input_placed links at front =
      let seen = links_seen links in
      then_placed P (plan_file_by known s links at) (closed s)
      (then_placed P (records_by known s (always seen) as_is 1 at PlanHead empty_plan) (steps_on_by known s seen at)
      (records_placed P known s on (always seen) as_is 1 at PlanHead empty_plan front)
      (λ o stage p h. then_placed P (records_by known s (always seen) (with_step s) (word s (at + 4)) o stage p)
      (λ after next q. plan_end_on_by known s seen after (after_last next) q)
      (records_placed P known s on (always seen) (with_step s) (word s (at + 4)) o stage p h)
      (λ o' stage' p' h'. records_placed P known s on (always seen) as_is 1 o' (after_last stage') p' h')))
      (closed_placed P s)
