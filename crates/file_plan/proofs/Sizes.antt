-- How long the plan file is at most: a head counts its records, and each stage has a longest record.
-- Assumes nothing.
use mathlib.Core.Path.{◌≡◌, refl, sym, ◌∙◌}
use mathlib.Core.List.{List}
use Prim.Native.Nat.{ℕ, ◌+◌, ◌*◌, ◌≤◌}
use native.Mathlib.Omega.{arith}
use lib.ListN.{length}
use Rattle.file_stages.specs.declared.Stage.{Stage}
use Rattle.file_stages.specs.declared.Stage.TheVariants.{PlanHead, Steps, PlanEnd, Over}
use Rattle.file_plan.specs.declared.plan.Plan.{Plan}
use Rattle.file_fields.specs.Fields.{word}
use Rattle.file_fields.specs.Views.{links_seen}
use Rattle.file_network.specs.Runs.{reached, records, always, as_is}
use Rattle.file_plan.specs.PlanFiles.{empty_plan, with_step, plan_file}
use Rattle.file_plan.specs.Inputs.{plan_input, plan_input_by}
use Rattle.file_records.proofs.Due.{longest, plan_head_kept}
use Rattle.file_network.proofs.Runs.{run_count, run_ends, one_record}
use Rattle.file_network.proofs.Parts.{then_reached, closed_reached}
use Rattle.file_plan.proofs.Parts.{plan_head_run, steps_run, plan_end_run, with_steps, plan_chain}

-- The plan file at an offset: at most 10 bytes, and 8 for each step: 2,050 bytes.

abbrev pub plan_longest : ℕ
plan_longest = longest PlanHead + longest Steps * 255 + longest PlanEnd

pub record PlanHeadRead (s : List ℕ) (head at : ℕ) (stage : Stage) (p : Plan) : Type 0 where
  pub steps_fit : word s (head + 4) ≤ 255
  pub ends : at ≡ head + 6
  pub stage_is : stage ≡ Steps
  pub value_is : p ≡ empty_plan

pub record StepsRead (s : List ℕ) (links head at : ℕ) (stage : Stage) (p : Plan) : Type 0 where
  pub steps_fit : word s (head + 4) ≤ 255
  pub at_most : at ≤ head + longest PlanHead + longest Steps * word s (head + 4)
  pub stage_is : stage ≡ Steps
  pub steps_are : p.steps ≡ word s (head + 4)
  pub run : records s (always (links_seen links)) (with_step s) (word s (head + 4)) (head + 6) Steps empty_plan ≡ reached at stage p

pub record PlanSize (s : List ℕ) (links head at : ℕ) (stage : Stage) (p : Plan) : Type 0 where
  pub steps_end : ℕ
  pub steps : StepsRead s links head steps_end Steps p
  pub stage_is : stage ≡ Over
  pub within : at ≤ head + longest PlanHead + longest Steps * p.steps + longest PlanEnd
  pub at_most : at ≤ head + plan_longest
  pub inside : at ≤ length s

module _ (s : List ℕ) (links head at : ℕ) (stage : Stage) (p : Plan) where
  pub plan_head_read : plan_head_run s links head ≡ reached at stage p → PlanHeadRead s head at stage p
  plan_head_read h =
      let one = one_record s (always (links_seen links)) as_is head PlanHead empty_plan at stage p h in
      record {
        steps_fit = plan_head_kept one.whole;
        ends = omega (arith, one.ends, one.whole.framed.enough, one.whole.framed.most);
        stage_is = one.last_is;
        value_is = one.value_is;
      }

module _ (s : List ℕ) (links head at : ℕ) (stage : Stage) (p : Plan) where
  pub steps_read : with_steps s links head ≡ reached at stage p → StepsRead s links head at stage p
  unfolding with_step empty_plan
  steps_read h =
      let b = then_reached (steps_run s links head) (plan_head_run s links head) at stage p h in
      let before = plan_head_read s links head b.at b.stage b.value b.first in
      let run : records s (always (links_seen links)) (with_step s) (word s (head + 4)) (head + 6) Steps empty_plan ≡ reached at stage p =
      rw (before.ends, before.stage_is, before.value_is) at b.then
      in
      let ends = run_ends s (always (links_seen links)) (with_step s) (word s (head + 4)) (head + 6) Steps empty_plan at stage p run refl in
      let count = run_count s (always (links_seen links)) (with_step s) (word s (head + 4)) (head + 6) Steps empty_plan at stage p run (λ p. p.steps) (λ at p. refl) in
      record { steps_fit = before.steps_fit; at_most = ends.0; stage_is = ends.1; steps_are = omega arith; run = run }

module _ (s : List ℕ) (links head at : ℕ) (stage : Stage) (p : Plan) where
  pub plan_size : plan_file s links head ≡ reached at stage p → PlanSize s links head at stage p
  plan_size h =
      let b = then_reached (plan_end_run s links head) (with_steps s links head) at stage p (sym (plan_chain s links head) ∙ h) in
      let before = steps_read s links head b.at b.stage b.value b.first in
      let run : records s (always (links_seen links)) as_is 1 b.at PlanEnd b.value ≡ reached at stage p = rw before.stage_is at b.then in
      let one = one_record s (always (links_seen links)) as_is b.at PlanEnd b.value at stage p run in
      let plan : b.value ≡ p = sym one.value_is in
      let all : StepsRead s links head b.at Steps p = rw (before.stage_is, plan) at before in
      let last : at ≤ b.at + longest PlanEnd = omega (arith, one.ends, one.whole.framed.most) in
      record {
        steps_end = b.at;
        steps = all;
        stage_is = one.last_is;
        within = omega (arith, last, all.at_most, all.steps_are);
        at_most = omega (arith, last, all.at_most, all.steps_fit);
        inside = omega (arith, one.ends, one.whole.framed.fits);
      }

  pub plan_input_size : plan_input s links head ≡ reached at stage p → (plan_file s links head ≡ reached at stage p) × (length s ≡ at)
  unfolding plan_input_by
  plan_input_size h =
      let c = closed_reached s (plan_file s links head) at stage p h in
      let size = plan_size c.0 in
      (c.0, omega (arith, c.1, size.inside))
