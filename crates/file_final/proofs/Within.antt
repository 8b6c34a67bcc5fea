-- A refusal's place lies within what was lent, and so does the offset that reading comes to: a run goes on only behind a record that fits, by induction over its records.
-- Assumes nothing.
use mathlib.Core.Path.{◌≡◌, refl, subst}
use mathlib.Core.Bool.{Bool, true, false}
use mathlib.Core.List.{List}
use Prim.Native.Nat.{ℕ, zero, suc, ◌+◌, ◌≤◌}
use native.Mathlib.Omega.{arith}
use lib.Dec.{ltb}
use lib.ListN.{length}
use Rattle.std.specs.Prelude.{Result, Err, Ok}
use Rattle.file_records.specs.declared.Record.{Record}
use Rattle.network.specs.declared.refusal.Refusal.{Refusal}
use Rattle.network.specs.declared.refusal.Rule.TheVariants.{ByteAfterEnd}
use Rattle.network.specs.Refusals.{pick}
use Rattle.file_stages.specs.declared.Stage.{Stage}
use Rattle.file_stages.specs.declared.Stage.TheVariants.{PlanHead}
use Rattle.file_stages.specs.Stages.{after_last}
use Rattle.file_fields.specs.Views.{Seen, links_seen}
use Rattle.file_fields.specs.Fields.{word}
use Rattle.file_records.specs.Records.{due_at, recorded}
use Rattle.file_records.proofs.Due.{due_kept, due_refused}
use Rattle.file_network.specs.Runs.{Reading, refused, reached, read_on, on_found, records, records_by, always, as_is}
use Rattle.file_network.specs.Inputs.{closed}
use Rattle.file_plan.specs.PlanFiles.{empty_plan, with_step, plan_end_on, plan_end_on_by, steps_on, steps_on_by, plan_file, plan_file_by}
use Rattle.file_plan.specs.Inputs.{plan_input, plan_input_by}

-- the place of the refusal, or the offset that was reached, is at most so much
abbrev pub Within : {A : Type 0} → ℕ → Reading A → Type 0
Within most (refused r) = r.place ≤ most
Within most (reached at stage a) = at ≤ most

then_within : {A B : Type 0} (most : ℕ) (o : Reading A) (f : ℕ → Stage → A → Reading B) → Within most o
    → ((at : ℕ) (stage : Stage) (a : A) → at ≤ most → Within most (f at stage a)) → Within most (read_on o f)
then_within most (refused r) f first then = first
then_within most (reached at stage a) f first then = then at stage a first

module _ (s : List ℕ) where
  run_within : {A : Type 0} (seen : A → Seen) (into : ℕ → A → A) (count at : ℕ) (stage : Stage) (a : A) → at ≤ length s
      → Within (length s) (records s seen into count at stage a)
  unfolding records_by
  run_within seen into zero at stage a h = h
  run_within {A} seen into (suc count) at stage a h = go (due_at s (seen a) at stage) refl (run_within seen into count)
    where
      go : (f : Result Record Refusal) → due_at s (seen a) at stage ≡ f
          → ((at' : ℕ) (stage' : Stage) (a' : A) → at' ≤ length s → Within (length s) (records s seen into count at' stage' a'))
          → Within (length s) (on_found f (λ long next. records s seen into count (at + long) next (into at a)))
      go (Ok found) d rest = rest (at + found.length) found.next (into at a) (due_kept s (seen a) at stage d).framed.fits
      go (Err r) d rest = omega (arith, (due_refused s (seen a) at stage d).1)

  closed_within : {A : Type 0} (at : ℕ) (stage : Stage) (a : A) → at ≤ length s → Within (length s) (closed s at stage a)
  closed_within at stage a h = go (ltb at (length s))
    where
      go : (t : Bool) → Within (length s) (pick t (refused (record { rule = ByteAfterEnd; place = at })) (reached at stage a))
      go true = h
      go false = h

  plan_within : (links head : ℕ) → head ≤ length s → Within (length s) (plan_input s links head)
  unfolding plan_input_by plan_file_by steps_on_by plan_end_on_by
  plan_within links head h =
      then_within (length s) (plan_file s links head) (closed s)
      (then_within (length s) (records s (always (links_seen links)) as_is 1 head PlanHead empty_plan) (steps_on s (links_seen links) head)
      (run_within (always (links_seen links)) as_is 1 head PlanHead empty_plan h)
      (λ at stage p k.
      then_within (length s) (records s (always (links_seen links)) (with_step s) (word s (head + 4)) at stage p)
      (λ after next plan. plan_end_on s (links_seen links) after (after_last next) plan)
      (run_within (always (links_seen links)) (with_step s) (word s (head + 4)) at stage p k)
      (λ after next plan l. run_within (always (links_seen links)) as_is 1 after (after_last next) plan l)))
      (λ at stage p k. closed_within at stage p k)

  -- a plan file that is lent alone
  pub place_within : (links : ℕ) (r : Refusal) → plan_input s links 0 ≡ refused r → r.place ≤ length s
  place_within links r h = subst (Within (length s)) h (plan_within links 0 (omega arith))
