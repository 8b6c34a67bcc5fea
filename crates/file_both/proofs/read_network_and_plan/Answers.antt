-- `file_both::read_network_and_plan` reads the network file, then the plan file directly behind it.
use mathlib.Core.Path.{◌≡◌, ap, ◌∙◌}
use Rattle.std.proofs.Common.{rules}
use Rattle.std.specs.Prelude.{Err}
use Rattle.file_network.specs.NetworkFiles.{network_file}
use Rattle.file_both.specs.Inputs.{both_input_by, both_read, plan_behind}
use Rattle.file_network.proofs.Outcomes.{part_refused, part_reached}
use Rattle.file_both.proofs.read_network_and_plan.Goals as goal

pub returns-in_err-part : goal.returns-in_err-part
unfolding both_input_by
returns-in_err-part c =
    let s = c.args.s.now in
    let same : c.from_residual.result ≡ Err (c.in_err-part.field-0.0) = search rules in
    same ∙ ap both_read (part_refused (network_file s) (λ at stage n. plan_behind s at n) _ c.in_err-part.ensures)

pub returns : goal.returns
unfolding both_input_by
returns c =
    let s = c.args.s.now in
    c.plan_behind.ensures ∙ ap both_read (part_reached (network_file s) (λ at stage n. plan_behind s at n) _ c.in_ok-part.ensures).1
