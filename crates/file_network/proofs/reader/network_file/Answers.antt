-- `file_network::reader::network_file` reads the head and hands on: a refusal as it is, else the elements behind the head.
use mathlib.Core.Path.{◌≡◌, ap, sym, ◌∙◌}
use native.Mathlib.Omega.{arith}
use native.Mathlib.Nat.{zero-add}
use Rattle.std.proofs.Common.{rules}
use Rattle.std.specs.Prelude.{Err}
use Rattle.file_stages.specs.declared.Stage.TheVariants.{Head}
use Rattle.network.specs.Networks.{empty_network}
use Rattle.file_fields.specs.Views.{nothing_seen}
use Rattle.file_network.specs.Runs.{always}
use Rattle.file_network.specs.NetworkFiles.{elements_on, network_file_by}
use Rattle.file_network.specs.Inputs.{part_of}
use Rattle.file_records.proofs.Due.{due_kept, head_kept}
use Rattle.file_network.proofs.Chains.{head_refused, head_found}
use Rattle.file_network.proofs.reader.network_file.Goals as goal

pub returns-in_err-head : goal.returns-in_err-head
unfolding network_file_by nothing_seen
returns-in_err-head c =
    let s = c.args.s.now in
    let same : c.from_residual.result ≡ Err (c.in_err-head.field-0.0) = search rules in
    same ∙ ap part_of (head_refused s (always nothing_seen) 0 Head empty_network (elements_on s) _ c.in_err-head.ensures)

pub elements_on-requires : goal.elements_on-requires
unfolding nothing_seen
elements_on-requires c =
    let s = c.args.s.now in
    let w = due_kept s nothing_seen 0 Head (sym c.in_ok-head.ensures) in
    let h = head_kept w in
    (omega (arith, w.framed.fits, w.framed.enough), h.elements_fit, h.links_fit, w.framed.next_at_lem)

pub returns : goal.returns
unfolding network_file_by nothing_seen
returns c =
    let s = c.args.s.now in
    c.elements_on.ensures ∙ ap part_of (rw zero-add at (head_found s (always nothing_seen) 0 Head empty_network (elements_on s) _ c.in_ok-head.ensures))
