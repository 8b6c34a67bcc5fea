-- `file_records::record_at` finds rules 1 to 4 in their order: each return is one law of Reader.
use mathlib.Core.Path.{refl, ◌∙◌}
use Rattle.file_records.proofs.Reader.{missing, out_of_place, wrong_length, cut_off, whole}
use native.Mathlib.Omega.{arith}
use Rattle.file_records.proofs.record_at.Goals as goal

pub returns-then-left-lt4 : goal.returns-then-left-lt4
returns-then-left-lt4 c =
    let args = c.args in
    c.refused.ensures ∙ missing args.s.now args.at args.stage c.bytes_left-left.result _ _ c.bytes_left-left.ensures refl refl (omega arith)

pub returns-in_default : goal.returns-in_default
returns-in_default c =
    let args = c.args in
    c.refused-in_default.ensures ∙ out_of_place args.s.now args.at args.stage c.bytes_left-left.result c.word_at-kind.result c.next_stage.result
    c.bytes_left-left.ensures c.word_at-kind.ensures c.next_stage.ensures (omega arith) c.in_default.is

pub returns-then-length-length_of : goal.returns-then-length-length_of
returns-then-length-length_of c =
    let args = c.args in
    c.refused-then-length-length_of.ensures ∙ wrong_length args.s.now args.at args.stage c.bytes_left-left.result c.word_at-kind.result c.next_stage.result
    c.bytes_left-left.ensures c.word_at-kind.ensures c.next_stage.ensures _ c.word_at-length.result c.length_of.result (omega arith) c.in-Some.is
    c.word_at-length.ensures c.length_of.ensures c.if-length-length_of.true

pub returns-then-left-length : goal.returns-then-left-length
returns-then-left-length c =
    let args = c.args in
    c.refused-then-left-length.ensures ∙ cut_off args.s.now args.at args.stage c.bytes_left-left.result c.word_at-kind.result c.next_stage.result
    c.bytes_left-left.ensures c.word_at-kind.ensures c.next_stage.ensures _ c.word_at-length.result c.length_of.result (omega arith) c.in-Some.is
    c.word_at-length.ensures c.length_of.ensures c.if-length-length_of.false c.if-left-length.true

pub returns : goal.returns
returns c =
    let args = c.args in
    whole args.s.now args.at args.stage c.bytes_left-left.result c.word_at-kind.result c.next_stage.result c.bytes_left-left.ensures c.word_at-kind.ensures
    c.next_stage.ensures _ c.word_at-length.result c.length_of.result (omega arith) c.in-Some.is c.word_at-length.ensures c.length_of.ensures
    c.if-length-length_of.false c.if-left-length.false
