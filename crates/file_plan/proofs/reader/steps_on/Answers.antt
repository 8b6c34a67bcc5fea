-- `file_plan::reader::steps_on` reads the steps and hands on: a refusal as it is, else the end from where the steps end.
use mathlib.Core.Path.{◌≡◌, ap, ◌∙◌}
use native.Mathlib.Omega.{arith}
use Rattle.std.proofs.Common.{rules}
use Rattle.std.specs.Prelude.{Err}
use Rattle.file_network.specs.Inputs.{part_of}
use Rattle.file_plan.proofs.Chains.{steps_refused, steps_reached}
use Rattle.file_fields.specs.Views.{seen_in}
use Rattle.file_plan.proofs.reader.steps_on.Goals as goal

pub read_steps-requires : goal.read_steps-requires
read_steps-requires c =
    let pre = c.requires in
    (omega (arith, c.word_at-count.ensures, pre.1), pre.2)

pub returns-in_err-part : goal.returns-in_err-part
returns-in_err-part c =
    let a = c.args in
    let same : c.from_residual.result ≡ Err (c.in_err-part.field-0.0) = search rules in
    same ∙ steps_refused a.s.now (seen_in a.seen) a.head a.at a.stage _ (rw c.word_at-count.ensures at c.in_err-part.ensures)

pub returns : goal.returns
returns c =
    let a = c.args in
    c.end_of_plan.ensures ∙ ap part_of (rw c.after_last.ensures
    (steps_reached a.s.now (seen_in a.seen) a.head a.at a.stage _ (rw c.word_at-count.ensures at c.in_ok-part.ensures)))
