-- `file_network::reader::end_on` reads the end record: a run of one record of which nothing is kept.
use mathlib.Core.Path.{◌≡◌, refl, ap, sym, ◌∙◌}
use native.Mathlib.Omega.{arith}
use Rattle.std.proofs.Common.{rules}
use Rattle.std.specs.Prelude.{Err}
use Rattle.file_fields.specs.Views.{nothing_seen}
use Rattle.file_network.specs.Runs.{always, as_is}
use Rattle.file_network.specs.NetworkFiles.{end_on_by}
use Rattle.file_network.specs.Inputs.{part_of}
use Rattle.file_records.proofs.Due.{due_kept}
use Rattle.file_network.proofs.Runs.{records_none}
use Rattle.file_network.proofs.Outcomes.{run_refused, run_turn}
use Rattle.file_network.proofs.reader.end_on.Goals as goal

pub returns-in_err-record : goal.returns-in_err-record
unfolding end_on_by nothing_seen
returns-in_err-record c =
    let a = c.args in
    let same : c.from_residual.result ≡ Err (c.in_err-record.field-0.0) = search rules in
    same ∙ ap part_of (run_refused a.s.now (always nothing_seen) as_is _ 1 a.at a.stage a.net refl (omega arith) _ c.in_err-record.ensures)

pub overflow_add-after : goal.overflow_add-after
unfolding nothing_seen
overflow_add-after c =
    let a = c.args in
    omega (arith, (due_kept a.s.now nothing_seen a.at a.stage (sym c.in_ok-record.ensures)).framed.fits)

pub returns : goal.returns
unfolding end_on_by nothing_seen
returns c =
    let a = c.args in
    ap part_of (sym (records_none a.s.now (always nothing_seen) as_is _ _ a.net) ∙ run_turn a.s.now (always nothing_seen) as_is _ 1 a.at
    a.stage a.net refl (omega arith) _ 0 c.in_ok-record.ensures (omega arith))
