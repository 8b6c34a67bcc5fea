-- `marked_final` meets its contract: its calls give the better file and the part.
use mathlib.Core.Path.{ap, ◌∙◌}
use native.Mathlib.Omega.{arith}
use Prim.Native.Nat.{◌-◌}
use Rattle.final_better.specs.declared.Better.{Better}
use Rattle.final_better.specs.declared.Part.{Part}
use Rattle.final_better.specs.Better.{part_of}
use Rattle.final_judge.specs.Finals.{marked_final}
use Rattle.final_judge.proofs.marked_final.Goals as goal

pub overflow_sub-first : goal.overflow_sub-first
overflow_sub-first c =
    omega (arith, c.requires.first_behind)

pub overflow_sub-second : goal.overflow_sub-second
overflow_sub-second c =
    omega (arith, c.requires.second_behind_lem)

pub returns : goal.returns
unfolding marked_final
returns c =
    let the-args = c.args in
    ap (λ (x : Part). record { marks = the-args.marks; part = x }) (c.part_of-part.ensures ∙ ap (λ (b : Better). part_of (the-args.read.middle - the-args.read.start) (the-args.read.end - the-args.read.middle) b) c.better_of-better.ensures)
