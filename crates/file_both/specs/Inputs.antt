-- Document 01: the judge's input, and what a refusal of it hands out.
-- Internal: what computes; `Demand1` of `theorems` says of the readers what the paper says.
-- Assumes nothing.
use Rattle.std.specs.Prelude.{Bool, List, ℕ, Result, Ok, Err}
use Rattle.file_stages.specs.declared.Stage.{Stage}
use Rattle.file_stages.specs.Stages.{every_kind}
use Rattle.network.specs.declared.Network.{Network}
use Rattle.network.specs.declared.refusal.Refusal.{Refusal}
use Rattle.file_network.specs.Runs.{Reading, refused, reached, read_on}
use Rattle.file_network.specs.NetworkFiles.{network_file_by}
use Rattle.file_plan.specs.declared.plan.Plan.{Plan}
use Rattle.file_plan.specs.Inputs.{plan_input_by}
use Rattle.file_both.specs.declared.Both.{Both}

-- "The judging program reads a network file with a plan file directly behind it."
abbrev pub paired : Network → ℕ → Stage → Plan → Reading (Network × Plan)
paired n at stage p = reached at stage (n, p)

unfoldable pub plan_behind_by : (ℕ → Bool) → List ℕ → ℕ → Network → Reading (Network × Plan)
plan_behind_by known s at n = read_on (plan_input_by known s n.links at) (paired n)

unfoldable pub both_input_by : (ℕ → Bool) → List ℕ → Reading (Network × Plan)
both_input_by known s = read_on (network_file_by known s) (λ at stage n. plan_behind_by known s at n)

abbrev pub plan_behind : List ℕ → ℕ → Network → Reading (Network × Plan)
plan_behind = plan_behind_by every_kind

abbrev pub both_input : List ℕ → Reading (Network × Plan)
both_input = both_input_by every_kind

abbrev pub both_of : Network × Plan → Both
both_of x = record { net = x.0; plan = x.1 }

-- "A refusal hands out no plan, mark or partial network"
abbrev pub both_read : Reading (Network × Plan) → Result Both Refusal
both_read (refused r) = Err r
both_read (reached at stage x) = Ok (both_of x)
