-- Document 01, "Files": the plan file.
-- Internal: what computes; `Demand1` of `theorems` says of the readers what the paper says.
-- Assumes nothing.
use Rattle.std.specs.Prelude.{Bool, false, List, ℕ, ◌+◌, eqb, set, replicate}
use Rattle.file_stages.specs.declared.Stage.{Stage}
use Rattle.file_stages.specs.declared.Stage.TheVariants.{PlanHead}
use Rattle.file_fields.specs.Views.{Seen, links_seen}
use Rattle.file_fields.specs.Fields.{word}
use Rattle.file_stages.specs.Stages.{every_kind, after_last}
use Rattle.file_network.specs.Runs.{Reading, read_on, records_by, always, as_is}
use Rattle.file_plan.specs.declared.plan.Plan.{Plan}

unfoldable pub empty_plan : Plan
empty_plan = record { link = replicate 255 0; close = replicate 255 false; steps = 0 }

-- Kind 6: link number, state wanted (0 open, 1 closed)
unfoldable pub with_step : List ℕ → ℕ → Plan → Plan
with_step s at p =
    record {
      link = set p.link p.steps (word s (at + 4));
      close = set p.close p.steps (eqb (word s (at + 6)) 1);
      steps = p.steps + 1;
    }

-- "A plan file is one plan head, its steps, one end." The head stands at an offset: the count of steps is the number 4 bytes on.
-- All its records see the network of so many links that it is for.
-- Each by the kinds that are known, and where every kind is.
unfoldable pub plan_end_on_by : (ℕ → Bool) → List ℕ → Seen → ℕ → Stage → Plan → Reading Plan
plan_end_on_by known s seen at stage p = records_by known s (always seen) as_is 1 at stage p

unfoldable pub steps_on_by : (ℕ → Bool) → List ℕ → Seen → ℕ → ℕ → Stage → Plan → Reading Plan
steps_on_by known s seen head at stage p =
    read_on (records_by known s (always seen) (with_step s) (word s (head + 4)) at stage p)
    (λ after next plan. plan_end_on_by known s seen after (after_last next) plan)

unfoldable pub plan_file_by : (ℕ → Bool) → List ℕ → ℕ → ℕ → Reading Plan
plan_file_by known s links at =
    read_on (records_by known s (always (links_seen links)) as_is 1 at PlanHead empty_plan) (steps_on_by known s (links_seen links) at)

abbrev pub plan_end_on : List ℕ → Seen → ℕ → Stage → Plan → Reading Plan
plan_end_on = plan_end_on_by every_kind

abbrev pub steps_on : List ℕ → Seen → ℕ → ℕ → Stage → Plan → Reading Plan
steps_on = steps_on_by every_kind

abbrev pub plan_file : List ℕ → ℕ → ℕ → Reading Plan
plan_file = plan_file_by every_kind
