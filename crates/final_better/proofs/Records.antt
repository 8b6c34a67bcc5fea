-- The step records of a plan file: what stands between head and end, and in the file that the writer writes, the records of its steps.
-- Assumes nothing.
use mathlib.Core.Path.{◌≡◌}
use mathlib.Core.List.{List, [], ◌++◌, append_assoc}
use Prim.Native.Nat.{ℕ, ◌-◌, ◌<◌}
use native.Mathlib.Omega.{arith}
use lib.ListN.{length, take, drop, length-append}
use lib.Seq.{take_at, drop_at}
use Rattle.file_plan.specs.declared.plan.Plan.{Plan}
use Rattle.file_writer.specs.Writing.{plan_head_bytes, steps_bytes, end_bytes, plan_bytes}
use Rattle.file_writer.proofs.Files.{head_length, end_length}
use Rattle.final_better.specs.declared.Better.{Better}
use Rattle.final_better.specs.declared.Better.TheVariants.{First, Second, Neither}
use Rattle.final_better.specs.Better.{step_records, better_part}

pub too_short : (file : List ℕ) → length file < 10 → [] ≡ step_records file
unfolding step_records
too_short file lt = let none : length file - 10 ≡ 0 = omega arith in rw none

pub between : (file : List ℕ) (n : ℕ) → n ≡ length file - 10 → take n (drop 6 file) ≡ step_records file
unfolding step_records
between file n e = rw e

-- a head of 6 bytes, anything, an end of 4
pub in_the_middle : (head steps end : List ℕ) → length head ≡ 6 → length end ≡ 4 → step_records (head ++ (steps ++ end)) ≡ steps
unfolding step_records
in_the_middle head steps end six four =
    let long : length (head ++ (steps ++ end)) - 10 ≡ length steps = simp (length-append, six, four) (omega arith) in
    rw (long, drop_at head (steps ++ end) 6 six, take_at steps end (length steps))

-- of the file that states a plan they are the records of its steps
pub of_plan_bytes : (p : Plan) → step_records (plan_bytes p) ≡ steps_bytes p p.steps
unfolding plan_bytes
of_plan_bytes p =
    rw append_assoc (in_the_middle (plan_head_bytes p.steps) (steps_bytes p p.steps) end_bytes (head_length p.steps) end_length)

-- ---- the part that is handed back, by the three answers

pub part_first : {b : Better} (first second : List ℕ) → b ≡ First → step_records first ≡ better_part first second b
unfolding better_part
part_first first second e = rw e

pub part_second : {b : Better} (first second : List ℕ) → b ≡ Second → step_records second ≡ better_part first second b
unfolding better_part
part_second first second e = rw e

pub part_none : {b : Better} (first second : List ℕ) → b ≡ Neither → [] ≡ better_part first second b
unfolding better_part
part_none first second e = rw e
