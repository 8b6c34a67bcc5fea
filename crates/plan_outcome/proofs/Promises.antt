-- Demands 1, 2 and 3 for the planner's outcome: each case of `Admits` ends in one case of the outcome, which the choice's promise covers.
-- Assumes nothing.
use mathlib.Core.Path.{◌≡◌, sym, ap, subst}
use mathlib.Core.Bool.{Bool}
use mathlib.Core.List.{List}
use Prim.Native.Nat.{ℕ, ◌≤◌}
use native.Mathlib.Omega.{arith}
use lib.ListN.{length}
use Rattle.network.specs.declared.Network.{Network}
use Rattle.network.specs.declared.refusal.Refusal.{Refusal}
use Rattle.network.specs.Accepted.{WellFormed}
use Rattle.file_network.specs.Inputs.{network_input, network_read}
use Rattle.feeding_start.specs.declared.Start.{Start}
use Rattle.std.specs.Prelude.{Result}
use Rattle.feeding.specs.Acceptance.{Starts}
use Rattle.feeding.specs.Networks.{net_of, grid_of}
use Rattle.feeding.specs.Plans.{Step, printed_form, run}
use Rattle.feeding.specs.Costs.{cost_of, set_cost}
use Rattle.feeding.specs.Restoration.{Operable}
use Rattle.feeding.proofs.Balance.{fixed_kept}
use Rattle.feeding.proofs.Printed.{run_safe}
use Rattle.feeding.proofs.Views.{formed_net, fixed_closed}
use Rattle.feeding_acceptance.specs.Reading.{accepted_read, Bytes, AcceptedNetwork, FirstRule}
use Rattle.feeding_acceptance.proofs.Promises.{Admits, input_admission, network_starts}
use Rattle.feeding_acceptance.proofs.Promises as Admissions
use Rattle.feeding_start.specs.Starting.{start_with}
use Rattle.file_plan.specs.declared.plan.Plan.{Plan}
use Rattle.file_plan.specs.PlanFiles.{empty_plan}
use Rattle.plan_problem.specs.Choosing.{Choice, nothing, chosen, planned, printed_plan, Promised, NoPlan}
use Rattle.plan_problem.proofs.Choices.{PromisedChoice, planned_promised}
use Rattle.plan_form.specs.Printing.{plan_with, steps_of}
use Rattle.plan_form.proofs.Steps.{steps_with, printed_length}
use Rattle.plan_sums.specs.declared.Sums.{Sums}
use Rattle.plan_sums.specs.Sums.{LoadsIn, sums_after}
use Rattle.plan_sums.proofs.Loads.{sums_in}
use Rattle.plan_outcome.specs.declared.Planned.{Planned}
use Rattle.plan_outcome.specs.declared.Reply.{Reply}
use Rattle.plan_outcome.specs.declared.Reply.TheVariants as Reply·
use Rattle.plan_outcome.specs.Outcomes.{outcome_with, outcome_without, outcome_from, outcome_for, outcome_of, outcome_read, outcome, outcome_by}
use Rattle.plan_outcome.specs.declared.Outcome.{Outcome}

-- ---- what an outcome promises, in the paper's terms: the cases of the replies that `planner` promises

-- PLAN
pub record PlanKept (s : List ℕ) (p : Planned) (plan : Plan) : Type 0 where
  pub net : Network
  pub accepted : AcceptedNetwork s net
  pub steps : p.steps ≡ length (steps_of plan)
  pub promised : Promised (net_of net) (steps_of plan) p.cost
  pub loads : LoadsIn (net_of net) (run (net_of net).start_closed (steps_of plan)) p.sums

-- NONE
pub record NoneKept (s : List ℕ) (l : Sums) : Type 0 where
  pub net : Network
  pub accepted : AcceptedNetwork s net
  pub no_plan : NoPlan (net_of net)
  pub loads : LoadsIn (net_of net) (net_of net).start_closed l

-- what is answered to s, whatever the buffer
pub record OutcomeKept (s : List ℕ) (o : Outcome) : Type 0 where
  pub plan : (p : Planned) → o.reply ≡ Reply·.Plan p → PlanKept s p o.plan
  pub none : (l : Sums) → o.reply ≡ Reply·.NoPlan l → NoneKept s l
  pub refused : (f : Refusal) → o.reply ≡ Reply·.Refused f → FirstRule s f

-- ---- what a reply's constructor holds

held_plan : Planned → Reply → Planned
held_plan p (Reply·.Plan q) = q
held_plan p (Reply·.NoPlan l) = p
held_plan p (Reply·.Refused f) = p

held_sums : Sums → Reply → Sums
held_sums l (Reply·.Plan q) = l
held_sums l (Reply·.NoPlan m) = m
held_sums l (Reply·.Refused f) = l

held_refusal : Refusal → Reply → Refusal
held_refusal f (Reply·.Plan q) = f
held_refusal f (Reply·.NoPlan l) = f
held_refusal f (Reply·.Refused g) = g

pub same_plan : {p q : Planned} → Reply·.Plan p ≡ Reply·.Plan q → p ≡ q
unfolding held_plan
same_plan {p} e = ap (held_plan p) e

pub same_sums : {l m : Sums} → Reply·.NoPlan l ≡ Reply·.NoPlan m → l ≡ m
unfolding held_sums
same_sums {l} e = ap (held_sums l) e

pub same_refusal : {f g : Refusal} → Reply·.Refused f ≡ Reply·.Refused g → f ≡ g
unfolding held_refusal
same_refusal {f} e = ap (held_refusal f) e

-- ---- an outcome of each sort is kept as soon as its own promise is

plan_outcome : (s : List ℕ) (p : Planned) (plan : Plan) → PlanKept s p plan → OutcomeKept s (record { reply = Reply·.Plan p; plan = plan })
plan_outcome s p plan kept = record {
  plan = λ q e. subst (λ (x : Planned). PlanKept s x plan) (same_plan e) kept;
  none = λ l e. let z : ◌≡◌ {A = ℕ} 0 1 = cc in absurd (omega arith);
  refused = λ f e. let z : ◌≡◌ {A = ℕ} 0 1 = cc in absurd (omega arith);
}

none_outcome : (s : List ℕ) (l : Sums) (plan : Plan) → NoneKept s l → OutcomeKept s (record { reply = Reply·.NoPlan l; plan = plan })
none_outcome s l plan kept = record {
  plan = λ q e. let z : ◌≡◌ {A = ℕ} 0 1 = cc in absurd (omega arith);
  none = λ m e. subst (NoneKept s) (same_sums e) kept;
  refused = λ f e. let z : ◌≡◌ {A = ℕ} 0 1 = cc in absurd (omega arith);
}

refused_outcome : (s : List ℕ) (f : Refusal) (plan : Plan) → FirstRule s f → OutcomeKept s (record { reply = Reply·.Refused f; plan = plan })
refused_outcome s f plan kept = record {
  plan = λ q e. let z : ◌≡◌ {A = ℕ} 0 1 = cc in absurd (omega arith);
  none = λ l e. let z : ◌≡◌ {A = ℕ} 0 1 = cc in absurd (omega arith);
  refused = λ g e. subst (FirstRule s) (same_refusal e) kept;
}

-- ---- an accepted network's outcome

module _ (n : Network) (well : WellFormed n) (starts : Starts (net_of n)) where
  links_few : (net_of n).grid.K ≤ 96
  unfolding net_of grid_of
  links_few = well.links_fit

  module _ (s : List ℕ) (accepts : AcceptedNetwork s n) where
    -- a plan is kept with the steps that were put into it
    read_back : (q : List Step) (D : ℕ → Bool) → length q ≤ 255 → Promised (net_of n) q (set_cost (net_of n) D)
        → PlanKept s (record { steps = length q; cost = cost_of (net_of n) q; sums = sums_after (net_of n) (run (net_of n).start_closed q) })
        (plan_with empty_plan q)
    read_back q D fit promise = record {
      net = n;
      accepted = accepts;
      steps = ap length back;
      promised = subst (λ (x : List Step). Promised (net_of n) x (cost_of (net_of n) q)) back
          (subst (Promised (net_of n) q) promise.own promise);
      loads = subst (λ (x : List Step). LoadsIn (net_of n) (run (net_of n).start_closed x) (sums_after (net_of n) (run (net_of n).start_closed q))) back
          (sums_in (net_of n) (formed_net n well) (run (net_of n).start_closed q)
          (fixed_kept (net_of n) (Operable (net_of n)) (λ l o. o.switch) (fixed_closed n) q promise.valid.good)
          (run_safe (net_of n) (Operable (net_of n)) (net_of n).start_closed q starts.safe promise.valid.good));
    }
      where
        back : q ≡ steps_of (plan_with empty_plan q)
        back = sym (steps_with q fit)

    choice_kept : (c : Choice) → PromisedChoice (net_of n) c → OutcomeKept s (outcome_from n (cost_of (net_of n)) (printed_plan (net_of n) c))
    unfolding outcome_from outcome_without outcome_with printed_plan
    choice_kept nothing promise =
        none_outcome s (sums_after (net_of n) (net_of n).start_closed) empty_plan (record {
          net = n;
          accepted = accepts;
          no_plan = promise;
          loads = sums_in (net_of n) (formed_net n well) (net_of n).start_closed (fixed_closed n) starts.safe;
        })
    choice_kept (chosen D) promise =
        plan_outcome s _ (plan_with empty_plan (printed_form (net_of n) D))
        (read_back (printed_form (net_of n) D) D (omega (arith, printed_length (net_of n) D, links_few)) promise)

    accepted_kept : OutcomeKept s (outcome_of n)
    unfolding outcome_for
    accepted_kept = choice_kept (planned (net_of n)) (planned_promised (net_of n) (formed_net n well) starts.safe)

-- ---- the outcome of any bytes

module _ (s : List ℕ) (bytes : Bytes s) where
  read_kept : (r : Result Start Refusal) → Admits s r → OutcomeKept s (outcome_read r)
  unfolding outcome_read start_with
  read_kept _ (Admissions.refused {f = f} b) = refused_outcome s f empty_plan b
  read_kept _ (Admissions.accepted n a) =
      let starts = network_starts s bytes n a in
      accepted_kept n starts.0 starts.1 s a

  pub outcome_kept : OutcomeKept s (outcome s)
  unfolding outcome_by
  outcome_kept = read_kept (accepted_read (network_read (network_input s))) (input_admission s bytes)
