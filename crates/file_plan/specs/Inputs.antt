-- Document 01: a plan file as input, and what a refusal hands out.
-- Internal: what `read_plan` computes; of a plan file behind its network file `Demand1` of `theorems` says what the paper says.
-- Assumes nothing.
use Rattle.std.specs.Prelude.{Bool, List, ℕ, Result}
use Rattle.network.specs.declared.refusal.Refusal.{Refusal}
use Rattle.file_stages.specs.Stages.{every_kind}
use Rattle.file_network.specs.Runs.{Reading, read_on}
use Rattle.file_network.specs.Inputs.{closed, read_of}
use Rattle.file_plan.specs.declared.plan.Plan.{Plan}
use Rattle.file_plan.specs.PlanFiles.{plan_file_by}

-- one plan file from an offset on, for a network of so many links
unfoldable pub plan_input_by : (ℕ → Bool) → List ℕ → ℕ → ℕ → Reading Plan
plan_input_by known s links at = read_on (plan_file_by known s links at) (closed s)

abbrev pub plan_input : List ℕ → ℕ → ℕ → Reading Plan
plan_input = plan_input_by every_kind

abbrev pub plan_read : Reading Plan → Result Plan Refusal
plan_read = read_of
