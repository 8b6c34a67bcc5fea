-- A plan file that looks at the same bytes elsewhere is read alike there, part by part, by the law of reading: so it is read the same whatever stands before it, or behind it once it is read whole.
-- Assumes nothing.
use mathlib.Core.Path.{◌≡◌, refl, sym, ap, subst, ◌∙◌}
use mathlib.Core.List.{List, [], ◌++◌}
use Prim.Native.Nat.{ℕ, ◌+◌, ◌*◌, ◌≤◌}
use native.Mathlib.Omega.{arith}
use lib.ListN.{length}
use Rattle.file_stages.specs.declared.Stage.{Stage}
use Rattle.file_stages.specs.declared.Stage.TheVariants.{PlanHead, Steps, PlanEnd}
use Rattle.file_stages.specs.Stages.{after_last}
use Rattle.file_fields.specs.Fields.{word}
use Rattle.file_fields.specs.Views.{links_seen}
use Rattle.file_records.proofs.Due.{Framed, Whole, next_at, longest}
use Rattle.file_records.proofs.SameBytes.{SameFrom, same_on, append_same, back_same}
use Rattle.file_network.specs.Runs.{reached, records, always, as_is}
use Rattle.file_network.specs.Inputs.{closed}
use Rattle.file_network.proofs.Runs.{run_ends}
use Rattle.file_network.proofs.Looking.{looks, look_then, look_behind, Looked, then_looked, look_grows, look_most, run_looked, looks_one, looks_most}
use Rattle.file_network.proofs.Alike.{Moved, moved_equal, alike, then_alike, one_alike, closed_alike}
use Rattle.file_plan.specs.declared.plan.Plan.{Plan}
use Rattle.file_plan.specs.PlanFiles.{empty_plan, with_step, plan_end_on, plan_end_on_by, steps_on, steps_on_by, plan_file, plan_file_by}
use Rattle.file_plan.specs.Inputs.{plan_input, plan_input_by}
use Rattle.file_plan.proofs.Parts.{plan_head_run}
use Rattle.file_plan.proofs.Sizes.{plan_longest, plan_head_read, plan_size}

-- How far each part looks.

-- the steps and the end
unfoldable pub steps_look : List ℕ → ℕ → ℕ → ℕ → Stage → Plan → ℕ
steps_look s links head at stage p =
    look_then (records s (always (links_seen links)) (with_step s) (word s (head + 4)) at stage p) (looks s (always (links_seen links)) (with_step s) (word s (head + 4)) at stage p)
    (λ after next plan. looks s (always (links_seen links)) as_is 1 after (after_last next) plan)

unfoldable pub plan_looks : List ℕ → ℕ → ℕ → ℕ
plan_looks s links at = look_then (plan_head_run s links at) (looks s (always (links_seen links)) as_is 1 at PlanHead empty_plan) (steps_look s links at)

-- with rule 13
unfoldable pub plan_input_looks : List ℕ → ℕ → ℕ → ℕ
plan_input_looks s links at = look_then (plan_file s links at) (plan_looks s links at) look_behind

module _ (s : List ℕ) (links : ℕ) where
  steps_looked : (head at : ℕ) (stage : Stage) (p : Plan) → Looked at (steps_on s (links_seen links) head at stage p) (steps_look s links head at stage p)
  unfolding steps_on_by steps_look plan_end_on_by
  steps_looked head at stage p =
      then_looked at _ _ (records s (always (links_seen links)) (with_step s) (word s (head + 4)) at stage p) (λ q st m. plan_end_on s (links_seen links) q (after_last st) m)
      (run_looked s (always (links_seen links)) (with_step s) (word s (head + 4)) at stage p) (λ q st m. run_looked s (always (links_seen links)) as_is 1 q (after_last st) m)

  pub plan_looked : (head : ℕ) → Looked head (plan_file s links head) (plan_looks s links head)
  unfolding plan_file_by plan_looks
  plan_looked head =
      then_looked head _ _ (plan_head_run s links head) (steps_on s (links_seen links) head) (run_looked s (always (links_seen links)) as_is 1 head PlanHead empty_plan) (steps_looked head)

  pub plan_input_from : (head : ℕ) → head ≤ plan_input_looks s links head
  unfolding plan_input_looks
  plan_input_from head =
      let file = plan_looked head in
      let closes = look_grows (plan_looks s links head) look_behind (plan_file s links head) (λ q st m e. omega (arith, file.ends q st m e)) in
      omega (arith, file.from)

  steps_look_most : (head at : ℕ) (p : Plan) → steps_look s links head at Steps p ≤ at + longest Steps * word s (head + 4) + longest PlanEnd
  unfolding steps_look
  steps_look_most head at p =
      look_most (looks s (always (links_seen links)) (with_step s) (word s (head + 4)) at Steps p) (at + longest Steps * word s (head + 4) + longest PlanEnd)
      (λ q st m. looks s (always (links_seen links)) as_is 1 q (after_last st) m) (records s (always (links_seen links)) (with_step s) (word s (head + 4)) at Steps p)
      (omega (arith, looks_most s (always (links_seen links)) (with_step s) Steps refl (omega arith) (word s (head + 4)) at p))
      (λ q st m e.
      let ends = run_ends s (always (links_seen links)) (with_step s) (word s (head + 4)) at Steps p q st m e refl in
      rw ends.1 (omega (arith, ends.0, looks_one s (always (links_seen links)) as_is q PlanEnd m (omega arith))))

  pub plan_look_most : (head : ℕ) → plan_looks s links head ≤ head + plan_longest
  unfolding plan_looks
  plan_look_most head =
      look_most (looks s (always (links_seen links)) as_is 1 head PlanHead empty_plan) (head + plan_longest) (steps_look s links head) (plan_head_run s links head)
      (omega (arith, looks_one s (always (links_seen links)) as_is head PlanHead empty_plan (omega arith)))
      (λ q st m e.
      let before = plan_head_read s links head q st m e in
      rw before.stage_is (omega (arith, before.ends, before.steps_fit, steps_look_most head q m)))

  -- no further than one byte behind its longest form
  pub plan_input_look_most : (head : ℕ) → plan_input_looks s links head ≤ head + plan_longest + 1
  unfolding plan_input_looks
  plan_input_look_most head =
      look_most (plan_looks s links head) (head + plan_longest + 1) look_behind (plan_file s links head) (omega (arith, plan_look_most head))
      (λ q st m e. omega (arith, (plan_size s links head q st m e).at_most))

-- The same bytes, the same reading, in networks of as many links.

module _ (s t : List ℕ) (upto links : ℕ) where
  step_alike : (at at' : ℕ) (st : Stage) (kind long : ℕ) (next : Stage) (p q : Plan)
      → st ≡ Steps → Whole s (links_seen links) at st kind long next → SameFrom s t at at' upto → at + long ≤ upto → p ≡ q → with_step s at p ≡ with_step t at' q
  unfolding with_step
  step_alike at at' st kind long next p q e w same room r =
      let f : Framed s at Steps kind long next = subst (λ (x : Stage). Framed s at x kind long next) e w.framed in
      let least = f.enough in
      rw (same.words 4 (omega arith), same.words 6 (omega arith), r)

  steps_on_alike : (head head' at at' : ℕ) (p : Plan) → word s (head + 4) ≡ word t (head' + 4) → SameFrom s t at at' upto
      → steps_look s links head at Steps p ≤ upto → Moved ◌≡◌ at at' (steps_on s (links_seen links) head at Steps p) (steps_on t (links_seen links) head' at' Steps p)
  unfolding steps_on_by steps_look plan_end_on_by
  steps_on_alike head head' at at' p counts same =
      let run = run_looked s (always (links_seen links)) (with_step s) (word s (head + 4)) at Steps p in
      then_alike at at' upto (looks s (always (links_seen links)) (with_step s) (word s (head + 4)) at Steps p) (λ q st m. looks s (always (links_seen links)) as_is 1 q (after_last st) m)
      (records s (always (links_seen links)) (with_step s) (word s (head + 4)) at Steps p) (records t (always (links_seen links)) (with_step t) (word t (head' + 4)) at' Steps p)
      (λ q st m. plan_end_on s (links_seen links) q (after_last st) m) (λ q st m. plan_end_on t (links_seen links) q (after_last st) m)
      (λ far.
      rw (← counts)
      (alike ◌≡◌ s t (always (links_seen links)) (always (links_seen links)) (with_step s) (with_step t) upto (λ p q r. refl) (λ st. st ≡ Steps) (λ st e. ap next_at e) step_alike (word s (head + 4)) at at' Steps p p refl same far
      refl))
      (λ q st m e. omega (arith, run.ends q st m e, (run_looked s (always (links_seen links)) as_is 1 q (after_last st) m).from))
      (λ i st m e far. one_alike s t upto (always (links_seen links)) (at + i) (at' + i) (after_last st) m (same_on same i) far)

  pub plan_alike : (at at' : ℕ) → SameFrom s t at at' upto → plan_looks s links at ≤ upto → Moved ◌≡◌ at at' (plan_file s links at) (plan_file t links at')
  unfolding plan_file_by plan_looks
  plan_alike at at' same =
      let run = run_looked s (always (links_seen links)) as_is 1 at PlanHead empty_plan in
      then_alike at at' upto (looks s (always (links_seen links)) as_is 1 at PlanHead empty_plan) (steps_look s links at) (plan_head_run s links at) (plan_head_run t links at') (steps_on s (links_seen links) at)
      (steps_on t (links_seen links) at') (one_alike s t upto (always (links_seen links)) at at' PlanHead empty_plan same)
      (λ q st m e. omega (arith, run.ends q st m e, (steps_looked s links at q st m).from))
      (λ i st m e far.
      let before = plan_head_read s links at (at + i) st m e in
      rw before.stage_is
      (steps_on_alike at at' (at + i) (at' + i) m
      (same.words 4 (omega (arith, (steps_looked s links at (at + i) st m).from, before.ends))) (same_on same i) (rw before.stage_is at far)))

  -- a plan file as input, with rule 13
  pub plan_input_alike : (at at' : ℕ) → SameFrom s t at at' upto → plan_input_looks s links at ≤ upto
      → Moved ◌≡◌ at at' (plan_input s links at) (plan_input t links at')
  unfolding plan_input_by plan_input_looks
  plan_input_alike at at' same =
      then_alike at at' upto (plan_looks s links at) look_behind (plan_file s links at) (plan_file t links at') (closed s) (closed t)
      (plan_alike at at' same)
      (λ q st m e. omega (arith, (plan_looked s links at).ends q st m e))
      (λ i st m e far. closed_alike s t upto (at + i) (at' + i) st m (same_on same i) far)

-- whatever follows a plan file that is read whole
pub plan_followed : (s x : List ℕ) (links head at : ℕ) (stage : Stage) (p : Plan) → plan_file s links head ≡ reached at stage p
    → plan_file (s ++ x) links head ≡ reached at stage p
plan_followed s x links head at stage p h =
    sym (moved_equal (plan_alike s (s ++ x) (length s) links head head (append_same s x head)
    (omega (arith, (plan_looked s links head).ends at stage p h, (plan_size s links head at stage p h).inside)))) ∙ h

-- a plan file behind any bytes is read as it is alone, each place moved by their length
pub plan_behind_alike : (pre s : List ℕ) (links : ℕ) → Moved ◌≡◌ (length pre) 0 (plan_input (pre ++ s) links (length pre)) (plan_input s links 0)
plan_behind_alike pre s links =
    let upto = plan_input_looks (pre ++ s) links (length pre) in
    plan_input_alike (pre ++ s) s upto links (length pre) 0 (back_same pre [] s upto) (omega arith)
