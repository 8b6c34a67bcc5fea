-- Document 01, what any sequence of bytes is answered: the plan with its cost and the loads after it, none, or a refusal.
-- Internal: what computes; `PlannerReply` and `LibraryReply` of `planner` say which answers the paper asks for.
-- Assumes nothing.
use Rattle.std.specs.Prelude.{Bool, List, ℕ, length, Option, Some, None, Result, Ok, Err}
use Rattle.network.specs.declared.Network.{Network}
use Rattle.network.specs.declared.refusal.Refusal.{Refusal}
use Rattle.file_stages.specs.Stages.{every_kind}
use Rattle.file_network.specs.Inputs.{network_input_by, network_read}
use Rattle.feeding.specs.Networks.{net_of}
use Rattle.feeding.specs.Parts.{closed_in}
use Rattle.feeding.specs.Plans.{Step, run}
use Rattle.feeding.specs.Tasks.{Task, restoration}
use Rattle.feeding_start.specs.declared.Start.{Start}
use Rattle.feeding_acceptance.specs.Reading.{accepted_read}
use Rattle.file_plan.specs.PlanFiles.{empty_plan}
use Rattle.plan_problem.specs.Choosing.{Planning, unplanned, by, planned_by, printed_plan}
use Rattle.plan_found.specs.declared.Found.{Found}
use Rattle.plan_sums.specs.Sums.{sums_after}
use Rattle.plan_form.specs.Printing.{plan_with}
use Rattle.plan_outcome.specs.declared.Reply.TheVariants as Reply·
use Rattle.plan_outcome.specs.declared.Outcome.{Outcome}

-- a plan of these steps
unfoldable pub outcome_with : Network → (List Step → ℕ) → List Step → Outcome
outcome_with n price q =
    record {
      reply = Reply·.Plan (record { steps = length q; cost = price q; sums = sums_after (net_of n) (run (net_of n).start_closed q) });
      plan = plan_with empty_plan q;
    }

-- no plan: loads are those at the start
unfoldable pub outcome_without : Network → Outcome
outcome_without n = record { reply = Reply·.NoPlan (sums_after (net_of n) (net_of n).start_closed); plan = empty_plan }

-- what an accepted network is answered, by the plan that was found, however that was
unfoldable pub outcome_from : Network → (List Step → ℕ) → Planning → Outcome
outcome_from n price unplanned = outcome_without n
outcome_from n price (by q) = outcome_with n price q

-- for a task; document 01's
unfoldable pub outcome_for : (n : Network) → Task (net_of n) → Outcome
outcome_for n t = outcome_from n t.cost (printed_plan (net_of n) (planned_by (net_of n) t))

abbrev pub outcome_of : Network → Outcome
outcome_of n = outcome_for n (restoration (net_of n))

-- the same from the arrays of what was found
unfoldable pub outcome_given : Network → Option Found → Outcome
outcome_given n (Some f) =
    record {
      reply = Reply·.Plan (record { steps = f.plan.steps; cost = f.cost; sums = sums_after (net_of n) (closed_in f.closed) });
      plan = f.plan;
    }
outcome_given n None = outcome_without n

-- "A refusal hands out no plan"
unfoldable pub outcome_read : Result Start Refusal → Outcome
outcome_read (Ok start) = outcome_of start.net
outcome_read (Err f) = record { reply = Reply·.Refused f; plan = empty_plan }

-- what the bytes s are answered, by the kinds that are known, and where every kind is
unfoldable pub outcome_by : (ℕ → Bool) → List ℕ → Outcome
outcome_by known s = outcome_read (accepted_read (network_read (network_input_by known s)))

abbrev pub outcome : List ℕ → Outcome
outcome = outcome_by every_kind
