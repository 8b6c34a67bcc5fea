-- The planner's plan file, directly behind the network file, is an accepted submitted plan of the printed steps: the files are read back one behind the other.
-- Assumes nothing.
use mathlib.Core.Path.{◌≡◌, refl, sym, ap, ap₂, subst, ◌∙◌}
use mathlib.Core.Bool.{Bool}
use mathlib.Core.List.{List, [], ◌∷◌, ◌++◌}
use Prim.Native.Nat.{ℕ, zero, suc, ◌+◌, ◌≤◌}
use native.Mathlib.Omega.{arith}
use lib.ListN.{length}
use Rattle.network.specs.declared.Network.{Network}
use Rattle.std.specs.Prelude.{Ok}
use Rattle.network.specs.Accepted.{WellFormed}
use Rattle.file_stages.specs.declared.Stage.{Stage}
use Rattle.file_stages.specs.declared.Stage.TheVariants.{Over}
use Rattle.file_network.specs.Runs.{Reading, refused, reached}
use Rattle.file_network.specs.NetworkFiles.{network_file}
use Rattle.file_network.specs.Inputs.{network_input, network_read}
use Rattle.file_network.proofs.Sizes.{network_input_size}
use Rattle.file_network.proofs.NetworkAlike.{network_followed}
use Rattle.file_plan.specs.declared.plan.Plan.{Plan}
use Rattle.file_plan.specs.Accepted.{WellFormedPlan}
use Rattle.file_both.specs.Inputs.{plan_behind_by, both_input, both_input_by, both_read}
use Rattle.file_writer.specs.Writing.{plan_bytes, plan_length}
use Rattle.file_writer.proofs.RoundTrip.{SameSteps, first_steps, first_same, round_trip_input}
use Rattle.feeding.specs.Networks.{net_of, grid_of}
use Rattle.feeding.specs.Plans.{Step, printed_form}
use Rattle.feeding.specs.Costs.{cost_of}
use Rattle.plan_problem.specs.Choosing.{Choice, nothing, chosen, planned, printed_plan}
use Rattle.feeding_start.specs.Starting.{start_with}
use Rattle.plan_form.specs.Printing.{steps_to, steps_of}
use Rattle.plan_form.proofs.Steps.{plan_well_formed, printed_length, printed_below}
use Rattle.feeding_acceptance.proofs.Promises as Admissions
use Rattle.feeding_acceptance.proofs.Promises.{admission_only, network_starts}
use Rattle.feeding.proofs.Views.{formed_net, answered_network}
use Rattle.plan_outcome.proofs.Promises.{outcome_kept}
use Rattle.judge_marks.specs.declared.Mark.TheVariants as Mark·
use Rattle.judge_marks.specs.Marks.{mark_of}
use Rattle.judge_marks.proofs.Marking.{promised_marked}
use Rattle.judge.specs.Judging.{mark_accepted, mark_of_read, mark_for, mark_for_by}
use Rattle.plan_outcome.specs.declared.Planned.{Planned}
use Rattle.plan_outcome.specs.declared.Reply.TheVariants as Reply·
use Rattle.plan_outcome.specs.declared.Outcome as Outcomes·
use Rattle.plan_outcome.specs.Outcomes.{outcome_with, outcome_without, outcome_from, outcome_for, outcome_of, outcome_read, outcome, outcome_by}
use Rattle.file_refusals.proofs.Reading.{file_formed, network_read_lem, both_read_lem}
use Rattle.feeding_acceptance.specs.Reading.{Bytes, AcceptedNetwork}
use Rattle.judge.specs.Judging.{AcceptedPlan}

-- ---- the same steps

steps_to_lem : (p q : Plan) → SameSteps p q → (n : ℕ) → n ≤ p.steps → steps_to q n ≡ steps_to p n
unfolding steps_to
steps_to_lem p q same zero k = refl
steps_to_lem p q same (suc n) k =
    ap₂ (λ (xs : List Step) (x : Step). xs ++ (x ∷ [])) (steps_to_lem p q same n (omega arith))
    (ap₂ (λ (l : ℕ) (w : Bool). record { link = l; want = w }) (same.link n (omega arith)) (same.close n (omega arith)))

same_steps : (p q : Plan) → SameSteps p q → steps_of q ≡ steps_of p
unfolding steps_of
same_steps p q same = ap (steps_to q) same.steps ∙ steps_to_lem p q same p.steps (omega arith)

-- ---- the planner's plan is well formed

chosen_formed : (n : Network) → WellFormed n → (c : Choice) (p : Planned) → (outcome_from n (cost_of (net_of n)) (printed_plan (net_of n) c)).reply ≡ Reply·.Plan p
    → WellFormedPlan n.links (outcome_from n (cost_of (net_of n)) (printed_plan (net_of n) c)).plan
unfolding outcome_from outcome_without outcome_with printed_plan net_of grid_of
chosen_formed n w nothing p e = let z : ◌≡◌ {A = ℕ} 0 1 = cc in absurd (omega arith)
chosen_formed n w (chosen D) p e =
    plan_well_formed n.links (printed_form (net_of n) D) (omega (arith, printed_length (net_of n) D, w.links_fit)) (printed_below (net_of n) D)

module _ (s : List ℕ) (bytes : Bytes s) (n : Network) (a : AcceptedNetwork s n) where
  outcome_is : outcome s ≡ outcome_of n
  unfolding outcome_by outcome_read start_with
  outcome_is = ap outcome_read (sym (admission_only s bytes _ (Admissions.accepted n a)))

  plan_formed : (p : Planned) → (outcome s).reply ≡ Reply·.Plan p → WellFormedPlan n.links (outcome s).plan
  unfolding outcome_for
  plan_formed p e =
      subst (λ (o : Outcomes·.Outcome). WellFormedPlan n.links o.plan) (sym outcome_is)
      (chosen_formed n (file_formed s bytes n a.file) (planned (net_of n)) p (ap (λ (o : Outcomes·.Outcome). o.reply) (sym outcome_is) ∙ e))

  file_read : (last : Stage) × (network_file s ≡ reached (length s) last n)
  file_read = go (network_input s) refl ((network_read_lem s n).1 a.file)
    where
      go : (o : Reading Network) → network_input s ≡ o → network_read o ≡ Ok n → (last : Stage) × (network_file s ≡ reached (length s) last n)
      go (refused f) e k =
          let z : ◌≡◌ {A = ℕ} 0 1 = cc in
          absurd (omega arith)
      go (reached end last m) e k =
          let size = network_input_size s end last m e in
          let same : m ≡ n = cc in
          (last, size.0 ∙ ap₂ (λ (l : ℕ) (x : Network). reached l last x) (sym size.1) same)

  module _ (p : Plan) (formed : WellFormedPlan n.links p) where
    both_is : both_input (s ++ plan_bytes p) ≡ reached (length s + plan_length p) Over (n, first_steps p p.steps)
    unfolding both_input_by plan_behind_by
    both_is =
        let followed = network_followed s (plan_bytes p) (length s) file_read.0 n file_read.1 in
        rw (followed, round_trip_input p n.links formed.steps_fit formed.link_long formed.close_long formed.link_in s)

    steps_back : steps_of (first_steps p p.steps) ≡ steps_of p
    steps_back =
        same_steps p (first_steps p p.steps)
        (first_same p (omega (arith, formed.steps_fit, formed.link_long)) (omega (arith, formed.steps_fit, formed.close_long)))

    plan_submitted : AcceptedPlan (s ++ plan_bytes p) n (steps_of p)
    plan_submitted = record {
      plan = first_steps p p.steps;
      files = (both_read_lem (s ++ plan_bytes p) n (first_steps p p.steps)).0 (ap both_read both_is);
      steps = sym steps_back;
      kept = a.kept;
    }

    -- it is marked as its steps are
    plan_marked : mark_for (s ++ plan_bytes p) ≡ mark_of (net_of n) (steps_of p)
    unfolding mark_for_by mark_of_read mark_accepted
    plan_marked =
        ap (λ (o : Reading (Network × Plan)). mark_of_read (both_read o)) both_is
        ∙ ap (mark_accepted n (first_steps p p.steps)) (sym (answered_network n (file_formed s bytes n a.file) (Ok tt) a.kept))
        ∙ ap (mark_of (net_of n)) steps_back

  -- the plan that was found
  pub found_submitted : (p : Planned) → (outcome s).reply ≡ Reply·.Plan p → AcceptedPlan (s ++ plan_bytes (outcome s).plan) n (steps_of (outcome s).plan)
  found_submitted p e = plan_submitted (outcome s).plan (plan_formed p e)

-- and gets VALID with the printed cost and no excess
pub found_marked : (s : List ℕ) → Bytes s → (p : Planned) → (outcome s).reply ≡ Reply·.Plan p
    → mark_for (s ++ plan_bytes (outcome s).plan) ≡ Mark·.Valid (record { cost = p.cost; excess = 0 })
found_marked s bytes p e =
    let kept = (outcome_kept s bytes).plan p e in
    let starts = network_starts s bytes kept.net kept.accepted in
    plan_marked s bytes kept.net kept.accepted (outcome s).plan (plan_formed s bytes kept.net kept.accepted p e)
    ∙ promised_marked (net_of kept.net) (formed_net kept.net starts.0) starts.1.safe (steps_of (outcome s).plan) p.cost kept.promised
