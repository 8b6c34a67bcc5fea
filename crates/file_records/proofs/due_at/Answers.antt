-- `file_records::due_at` finds rules 1 to 12 and 20 in their order: the record reader, then the rules of the kind.
use mathlib.Core.Path.{◌≡◌, sym, ◌∙◌}
use Rattle.std.proofs.Common.{rules}
use Rattle.std.specs.Prelude.{Err}
use Rattle.file_fields.specs.Views.{seen_in}
use Rattle.file_records.proofs.Due.{frame_kept, due_frame_refused}
use Rattle.file_records.proofs.Reader.{due_decided}
use Rattle.file_records.proofs.due_at.Goals as goal

pub returns-in_err-record : goal.returns-in_err-record
returns-in_err-record c =
    let a = c.args in
    let same : c.from_residual.result ≡ Err (c.in_err-record.field-0.0) = search rules in
    same ∙ sym (due_frame_refused a.s.now (seen_in a.seen) a.at a.stage _ (sym c.in_err-record.ensures))

pub field_rules-requires : goal.field_rules-requires
field_rules-requires c =
    let a = c.args in
    let f = frame_kept a.s.now a.at a.stage (sym c.in_ok-record.ensures) in
    rw f.long_of at f.fits

pub returns-in-Ok : goal.returns-in-Ok
returns-in-Ok c =
    let a = c.args in
    due_decided a.s.now (seen_in a.seen) a.at a.stage _ _ _ _ (sym c.in_ok-record.ensures) (sym c.in-Ok.is ∙ c.field_rules.ensures)

pub returns-in-Err : goal.returns-in-Err
returns-in-Err c =
    let a = c.args in
    c.refused.ensures ∙ due_decided a.s.now (seen_in a.seen) a.at a.stage _ _ _ _ (sym c.in_ok-record.ensures) (sym c.in-Err.is ∙ c.field_rules.ensures)
