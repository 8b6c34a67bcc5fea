-- What was found gives the planner's outcome: it is the plan that document 01 picks; and what was read gives the outcome of the bytes.
-- Assumes nothing.
use mathlib.Core.Path.{◌≡◌, sym, ap, ◌∙◌, subst}
use mathlib.Core.List.{List}
use Prim.Native.Nat.{ℕ}
use Rattle.network.specs.declared.refusal.Refusal.{Refusal}
use Rattle.file_network.specs.Inputs.{network_input, network_read}
use Rattle.std.specs.Prelude.{Option, Result, Ok, Err}
use Rattle.feeding.specs.Networks.{net_of}
use Rattle.feeding.specs.Costs.{cost_of}
use Rattle.feeding_acceptance.specs.Reading.{accepted_read}
use Rattle.feeding_start.specs.declared.Start.{Start}
use Rattle.feeding_start.specs.Starting.{operable_in, Begun}
use Rattle.feeding_start.proofs.Starts.{operables_of}
use Rattle.file_plan.specs.declared.plan.Plan.{Plan}
use Rattle.file_plan.specs.PlanFiles.{empty_plan}
use Rattle.plan_problem.specs.Choosing.{planned_by, planning, printed_plan, restored_over}
use Rattle.plan_found.specs.declared.Found.{Found}
use Rattle.plan_found.specs.Finding.{FoundBy}
use Rattle.plan_outcome.specs.declared.Reply.TheVariants as Reply·
use Rattle.plan_outcome.specs.declared.Outcome.{Outcome}
use Rattle.plan_outcome.specs.Outcomes.{outcome_for, outcome_of, outcome_given, outcome_read, outcome, outcome_by}
use Rattle.plan_outcome.proofs.Solving.{given_found}

-- the plan over the operable switches of an accepted network
pub solved : (st : Start) → Begun st → (r : Option Found)
    → FoundBy st.net (cost_of (net_of st.net)) (printed_plan (net_of st.net) (restored_over (net_of st.net) (operable_in st))) r
    → outcome_given st.net r ≡ outcome_of st.net
unfolding outcome_for planned_by
solved st b r found = given_found st.net (cost_of (net_of st.net)) (planning (net_of st.net)) r
    (subst (λ (ls : List ℕ). FoundBy st.net (cost_of (net_of st.net)) (printed_plan (net_of st.net) (restored_over (net_of st.net) ls)) r) (operables_of st b) found)

-- ---- what was read, for the code that calls `read_accepted`

module _ (s : List ℕ) (read : Result Start Refusal) (is : read ≡ accepted_read (network_read (network_input s))) where
  pub accepted_outcome : (start : Start) → read ≡ Ok start → outcome_of start.net ≡ outcome s
  unfolding outcome_by outcome_read
  accepted_outcome start e = ap outcome_read (sym e ∙ is)

  pub refusal_outcome : (f : Refusal) → read ≡ Err f → (plan : Plan) → plan ≡ empty_plan
      → ◌≡◌ {A = Outcome} (record { reply = Reply·.Refused f; plan = plan }) (outcome s)
  unfolding outcome_by outcome_read
  refusal_outcome f e plan g =
      ap (λ (p : Plan). record { reply = Reply·.Refused f; plan = p }) g ∙ ap outcome_read (sym e ∙ is)
