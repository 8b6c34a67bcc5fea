-- What a plan file states, in a network of so many elements and links, is what the reader keeps, and nothing else.
-- Assumes nothing.
use mathlib.Core.Path.{◌≡◌, refl, sym, ap, subst, ◌∙◌}
use mathlib.Core.Bool.{Bool, true, false}
use mathlib.Core.List.{List, [], ◌∷◌}
use mathlib.Core.Logic.{◌⊎◌, inl, inr}
use Prim.Native.Nat.{ℕ, zero, suc, ◌+◌, ◌≤◌}
use native.Mathlib.Omega.{arith}
use lib.Dec.{eqb, ltb}
use lib.ListN.{get_or, replicate}
use lib.Seq.{ext_get_or}
use borrow.Author.Tests.{ltb-true, ltb-false}
use Rattle.network.specs.declared.refusal.Refusal.{Refusal}
use Rattle.file_stages.specs.declared.Stage.{Stage}
use Rattle.file_stages.specs.declared.Stage.TheVariants.{PlanHead, Steps}
use Rattle.file_fields.specs.Fields.{word}
use Rattle.file_fields.specs.Views.{links_seen}
use Rattle.file_records.proofs.Due.{step_kept}
use Rattle.file_network.specs.Runs.{Reading, refused, reached, read_on, records, always}
use Rattle.file_plan.specs.declared.plan.Plan.{Plan}
use Rattle.file_plan.specs.PlanFiles.{empty_plan, with_step, plan_file}
use Rattle.file_plan.proofs.Parts.{plan_head_run, steps_run, plan_end_run, with_steps, plan_chain}
use Rattle.file_plan.proofs.Sizes.{plan_head_read, StepsRead, PlanSize, plan_size}
use Rattle.file_plan.proofs.Contents.{PlanHolds, StepAt, plan_holds}
use Rattle.file_refusals.specs.Files.{Stand}
use Rattle.file_refusals.specs.Stated.{StepIs, StatesPlanIn}
use Rattle.file_refusals.proofs.Files.{stand_append, stand_once, Ran}
use Rattle.file_refusals.proofs.Inputs.{plan_head_ran, steps_run_ran}
use Rattle.file_refusals.proofs.Stated.{filled, run_beyond}

-- a state that rule 12 keeps
two_states : (x : ℕ) → x ≤ 1 → (x ≡ 0) ⊎ (x ≡ 1)
two_states zero h = inl refl
two_states (suc x) h = inr (omega arith)

module _ (s : List ℕ) (E K head : ℕ) where
  clash : {A : Type 0} {f : Refusal} {at : ℕ} {stage : Stage} {p : Plan} → refused f ≡ reached at stage p → A
  clash e = let z : ◌≡◌ {A = ℕ} 0 1 = cc in absurd (omega arith)

  head_of_steps : {at : ℕ} {stage : Stage} {p : Plan} → with_steps s K head ≡ reached at stage p → Stand s E K (PlanHead ∷ []) head (head + 6)
  head_of_steps {at} {stage} {p} e = go (plan_head_run s K head) refl e
    where
      go : (o : Reading Plan) → plan_head_run s K head ≡ o → read_on o (steps_run s K head) ≡ reached at stage p
          → Stand s E K (PlanHead ∷ []) head (head + 6)
      go (refused f) h k = clash k
      go (reached a st q) h k =
          subst (Stand s E K (PlanHead ∷ []) head) (plan_head_read s K head a st q h).ends
          (subst (Ran s E K (PlanHead ∷ []) head) h (plan_head_ran s E K head))

  head_of_plan : {at : ℕ} {stage : Stage} {p : Plan} → plan_file s K head ≡ reached at stage p → Stand s E K (PlanHead ∷ []) head (head + 6)
  head_of_plan {at} {stage} {p} e = go (with_steps s K head) refl (sym (plan_chain s K head) ∙ e)
    where
      go : (o : Reading Plan) → with_steps s K head ≡ o → read_on o (plan_end_run s K head) ≡ reached at stage p
          → Stand s E K (PlanHead ∷ []) head (head + 6)
      go (refused f) h k = clash k
      go (reached a st q) h k = head_of_steps h

module _ (s : List ℕ) (E K head at : ℕ) (stage : Stage) (p : Plan) (file : plan_file s K head ≡ reached at stage p) where
  steps_stand : (i place : ℕ) (value : Plan) → records s (always (links_seen K)) (with_step s) i (head + 6) Steps empty_plan ≡ reached place Steps value
      → Stand s E K (PlanHead ∷ replicate i Steps) head place
  steps_stand i place value e =
      stand_append s E K (head_of_plan s E K head file)
      (subst (Ran s E K (replicate i Steps) (head + 6)) e
      (steps_run_ran s E K i (head + 6) empty_plan))

  holds : PlanHolds s K head p
  holds = plan_holds s K head at stage p file

  pub plan_states : StatesPlanIn s E K head p
  unfolding with_step empty_plan
  plan_states =
      record {
        steps = read.steps_are;
        link_long = holds.link_long;
        close_long = holds.close_long;
        step = λ i place lt stand.
            let e = holds.step i (omega (arith, read.steps_are)) in
            let is : e.found.place ≡ place = stand_once s E K (steps_stand i e.found.place e.found.value e.found.before) stand in
            subst (λ (a : ℕ). StepIs p i (word s (a + 4)) (word s (a + 6))) is (step_is i e);
        no_step = λ i h. record {
          link_is = run_beyond s (always (links_seen K)) (with_step s) (λ q. q.link) (λ q. q.steps) (λ a. word s (a + 4)) 0 (λ a q. refl) (λ a q. refl)
              (word s (head + 4)) (head + 6) Steps empty_plan size.steps_end Steps p read.run i (omega arith) ∙ filled 0 255 i;
          opens = λ _. closes_none i h;
          closes = λ e. absurd (omega (arith, e));
        };
      }
    where
      size : PlanSize s K head at stage p
      size = plan_size s K head at stage p file

      read : StepsRead s K head size.steps_end Steps p
      read = size.steps

      step_is : (i : ℕ) (e : StepAt s K head p i) → StepIs p i (word s (e.found.place + 4)) (word s (e.found.place + 6))
      step_is i e = record {
        link_is = e.link_is;
        opens = λ x. e.close_is ∙ ap (λ (y : ℕ). eqb y 1) x;
        closes = λ x. e.close_is ∙ ap (λ (y : ℕ). eqb y 1) x;
      }

      closes_none : (i : ℕ) → word s (head + 4) ≤ i → get_or p.close i false ≡ false
      closes_none i h =
          run_beyond s (always (links_seen K)) (with_step s) (λ q. q.close) (λ q. q.steps) (λ a. eqb (word s (a + 6)) 1) false (λ a q. refl) (λ a q. refl)
          (word s (head + 4)) (head + 6) Steps empty_plan size.steps_end Steps p read.run i (omega arith) ∙ filled false 255 i

  -- ---- and nothing else

  record SameStep (q : Plan) (i : ℕ) : Type 0 where
    pub link : get_or p.link i 0 ≡ get_or q.link i 0
    pub close : get_or p.close i false ≡ get_or q.close i false

  module _ (q : Plan) (states : StatesPlanIn s E K head q) where
    same_step : (i : ℕ) → SameStep q i
    same_step i = go (ltb i (word s (head + 4))) refl
      where
        alike : {link state : ℕ} → state ≤ 1 → StepIs p i link state → StepIs q i link state → SameStep q i
        alike {link} {state} h a b = record { link = a.link_is ∙ sym b.link_is; close = by (two_states state h) }
          where
            by : (state ≡ 0) ⊎ (state ≡ 1) → get_or p.close i false ≡ get_or q.close i false
            by (inl e) = a.opens e ∙ sym (b.opens e)
            by (inr e) = a.closes e ∙ sym (b.closes e)

        go : (t : Bool) → ltb i (word s (head + 4)) ≡ t → SameStep q i
        go true t =
            let lt = ltb-true i (word s (head + 4)) t in
            let found = (holds.step i (omega (arith, lt, plan_states.steps))).found in
            let stand = steps_stand i found.place found.value found.before in
            alike (step_kept found.whole).state_in (plan_states.step i found.place lt stand) (states.step i found.place lt stand)
        go false t =
            let le = ltb-false i (word s (head + 4)) t in
            alike (omega arith) (plan_states.no_step i le) (states.no_step i le)

    pub plan_states_once : p ≡ q
    plan_states_once = λ i. record { link = link i; close = close i; steps = steps i }
      where
        link : p.link ≡ q.link
        link = ext_get_or 0 p.link q.link (plan_states.link_long ∙ sym states.link_long) (λ i _. (same_step i).link)

        close : p.close ≡ q.close
        close = ext_get_or false p.close q.close (plan_states.close_long ∙ sym states.close_long) (λ i _. (same_step i).close)

        steps : p.steps ≡ q.steps
        steps = plan_states.steps ∙ sym states.steps
