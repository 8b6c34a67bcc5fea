-- `file_network::read_network` reads the file and asks rule 13.
use mathlib.Core.Path.{◌≡◌, ◌∙◌}
use Rattle.std.proofs.Common.{rules}
use Rattle.std.specs.Prelude.{Err}
use Rattle.file_network.specs.NetworkFiles.{network_file}
use Rattle.file_network.specs.Inputs.{network_input_by}
use Rattle.file_network.proofs.Inputs.{unread, ended_accepted, ended_refused}
use Rattle.file_network.proofs.read_network.Goals as goal

pub returns-in_err-part : goal.returns-in_err-part
unfolding network_input_by
returns-in_err-part c =
    let s = c.args.s.now in
    let same : c.from_residual.result ≡ Err (c.in_err-part.field-0.0) = search rules in
    same ∙ unread s (network_file s) _ c.in_err-part.ensures

pub returns-in_err-ended : goal.returns-in_err-ended
unfolding network_input_by
returns-in_err-ended c =
    let s = c.args.s.now in
    let same : c.from_residual-in_err-ended.result ≡ Err (c.in_err-ended.field-0.0) = search rules in
    same ∙ ended_refused s (network_file s) _ c.in_ok-part.ensures _ c.in_err-ended.ensures

pub returns : goal.returns
unfolding network_input_by
returns c =
    let s = c.args.s.now in
    ended_accepted s (network_file s) _ c.in_ok-part.ensures _ c.in_ok-ended.ensures
