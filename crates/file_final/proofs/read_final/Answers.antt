-- `file_final::read_final` reads the network file, then the plan files directly behind it.
use mathlib.Core.Path.{◌≡◌, ap, ◌∙◌}
use Rattle.std.proofs.Common.{rules}
use Rattle.std.specs.Prelude.{Err}
use Rattle.file_network.specs.NetworkFiles.{network_file}
use Rattle.file_network.proofs.Outcomes.{part_refused, part_reached}
use Rattle.file_final.specs.Inputs.{plans_behind, final_input_by, final_read}
use Rattle.file_final.proofs.read_final.Goals as goal

pub returns-in_err-part : goal.returns-in_err-part
unfolding final_input_by
returns-in_err-part c =
    let s = c.args.s.now in
    let same : c.from_residual.result ≡ Err (c.in_err-part.field-0.0) = search rules in
    same ∙ ap final_read (part_refused (network_file s) (λ start stage n. plans_behind s start n) _ c.in_err-part.ensures)

pub returns : goal.returns
unfolding final_input_by
returns c =
    let s = c.args.s.now in
    c.plans_behind.ensures ∙ ap final_read (part_reached (network_file s) (λ start stage n. plans_behind s start n) _ c.in_ok-part.ensures).1
