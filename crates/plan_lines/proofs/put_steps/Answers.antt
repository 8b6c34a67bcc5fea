-- `plan_lines::put_steps` meets its contract: at each turn the lines of the steps so far are stored, and a turn stores one more behind them.
use mathlib.Core.Path.{◌≡◌, refl, subst}
use Prim.Native.Nat.{ℕ, ◌+◌}
use native.Mathlib.Omega.{arith}
use Rattle.network.proofs.Stores.{stored_length}
use Rattle.texts.proofs.Pieces.{Put}
use Rattle.plan_lines.specs.Lines.{step_lines}
use Rattle.plan_lines.proofs.Lines.{steps_put, steps_start}
use Rattle.network.proofs.Pairs.{both}
use Rattle.plan_lines.proofs.put_steps.Goals as goal

pub loop-i-init : goal.loop-i-init
loop-i-init c =
    let a = c.args in
    (refl, omega arith, steps_start a.plan a.out.now a.at)

pub loop-i-preserved : goal.loop-i-preserved
loop-i-preserved c =
    let a = c.args in
    let l = c.loop-i in
    let e = steps_put a.plan a.out.now _ _ a.at _ _ l.i l.invariant.2 (both c.put_step-next.ensures.value c.put_step-next.ensures.out_after) in
    (stored_length a.out.now _ a.at (step_lines a.plan (l.i + 1)) e.1, omega arith, e)

pub shape_of-out : goal.shape_of-out
shape_of-out c = c.loop-i.invariant.0

pub returns : goal.returns
returns c =
    let l = c.loop-i in
    let a = c.args in
    let all : l.i ≡ a.plan.steps = omega arith in
    record { upper_bound = omega arith; value = (subst (λ (k : ℕ). Put a.out.now a.at l.out l.next (step_lines a.plan k)) all l.invariant.2).0; out_after = (subst (λ (k : ℕ). Put a.out.now a.at l.out l.next (step_lines a.plan k)) all l.invariant.2).1 }
