-- `file_writer::put_steps` meets its contract: at each turn the steps so far are stored behind the plan head, and a turn stores one more behind them.
use mathlib.Core.Path.{◌≡◌, refl, ap, ◌∙◌}
use Prim.Native.Nat.{ℕ, ◌+◌, ◌-◌}
use native.Mathlib.Omega.{arith}
use lib.Seq.{sets}
use Rattle.file_writer.specs.Writing.{steps_bytes}
use Rattle.network.proofs.Stores.{stored_length}
use Rattle.file_writer.proofs.Files.{steps_none, step_stored}
use Rattle.file_writer.proofs.put_steps.Goals as goal

pub loop-i-init : goal.loop-i-init
loop-i-init c = (refl, rw steps_none)

pub loop-i-preserved : goal.loop-i-preserved
loop-i-preserved c =
    let a = c.args in
    let l = c.loop-i in
    let e = step_stored a.plan a.buffer.now _ _ l.i l.invariant.1 c.put_step.ensures in
    (stored_length a.buffer.now _ 6 (steps_bytes a.plan (l.i + 1)) e, e)

pub shape_of-buffer : goal.shape_of-buffer
shape_of-buffer c = c.loop-i.invariant.0

pub returns : goal.returns
returns c =
    let a = c.args in
    let i = c.loop-i.i in
    let all : i ≡ a.plan.steps = omega arith in
    c.loop-i.invariant.1 ∙ ap (λ (k : ℕ). sets a.buffer.now 6 (steps_bytes a.plan k)) all
