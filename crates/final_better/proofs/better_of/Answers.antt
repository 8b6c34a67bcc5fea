-- `final_better::better_of` meets its contract: the marks decide, by their cases; of two that are valid, the costs.
use mathlib.Core.Path.{◌∙◌}
use native.Mathlib.Omega.{arith}
use Rattle.final_better.proofs.Marks.{second_cheaper, first_no_dearer, first_only, first_out}
use Rattle.final_better.proofs.better_of.Goals as goal

pub returns-then-b-a : goal.returns-then-b-a
returns-then-b-a c =
    second_cheaper c.in-Valid.is c.in-Valid-second.is (omega arith)

pub returns-else-b-a : goal.returns-else-b-a
returns-else-b-a c =
    first_no_dearer c.in-Valid.is c.in-Valid-second.is (omega arith)

pub returns-in_default-second : goal.returns-in_default-second
returns-in_default-second c =
    first_only c.in-Valid.is c.in_default-second.not-Valid

pub returns-in_default : goal.returns-in_default
returns-in_default c =
    let the-args = c.args in
    c.second_or_neither.ensures ∙ first_out the-args.first the-args.second c.in_default.not-Valid
