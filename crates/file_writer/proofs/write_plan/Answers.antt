-- `file_writer::write_plan` meets its contract: head, steps and end are stored one behind the other, and a buffer that is too short is left alone.
use mathlib.Core.Path.{ap}
use Prim.Native.Nat.{ℕ, ◌-◌}
use native.Mathlib.Omega.{arith}
use Rattle.file_writer.specs.Writing.{plan_length}
use Rattle.file_writer.proofs.Files.{plan_stored, too_short, long_enough}
use Rattle.file_writer.proofs.write_plan.Goals as goal

pub returns-then-buffer-needed : goal.returns-then-buffer-needed
returns-then-buffer-needed c = let whole = too_short c.args.plan c.args.buffer.now _ c.plan_length-needed.ensures
    (omega arith) in record { value = whole.0; buffer_after = whole.1 }

pub put_head-requires : goal.put_head-requires
unfolding plan_length
put_head-requires c = omega arith

pub put_steps-requires : goal.put_steps-requires
unfolding plan_length
put_steps-requires c = omega arith

pub overflow_sub-needed : goal.overflow_sub-needed
unfolding plan_length
overflow_sub-needed c = omega arith

pub put_end-requires : goal.put_end-requires
unfolding plan_length
put_end-requires c = omega arith

pub returns : goal.returns
returns c =
    let a = c.args in
    let e = c.plan_length-needed.ensures in
    let le = c.if-buffer-needed.false in record {
      value = long_enough a.plan a.buffer.now _ e le;
      buffer_after = plan_stored a.plan a.buffer.now _ _ _ _ (omega arith)
          c.put_head.ensures
          c.put_steps.ensures c.put_end.ensures
          (ap (λ (k : ℕ). k - 4) e);
    }
