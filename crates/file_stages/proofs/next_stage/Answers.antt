-- `file_stages::next_stage` gives what the definition says of every stage and kind: the table's rule, and refusal past it.
use native.Mathlib.Omega.{arith}
use Rattle.file_stages.proofs.Table.{row_small, entry, past, table}
use Rattle.file_stages.proofs.next_stage.Goals as goal

pub returns-then-column-ge-KINDS : goal.returns-then-column-ge-KINDS
returns-then-column-ge-KINDS c =
    let the-args = c.args in
    past the-args.stage the-args.kind (omega (arith, c.if-column-ge-KINDS))

pub offset_bounds-row : goal.offset_bounds-row
offset_bounds-row c = omega (arith, row_small c.args.stage)

pub bounds-row : goal.bounds-row
bounds-row c = omega (arith, row_small c.args.stage)

pub returns : goal.returns
unfolding table
returns c =
    let the-args = c.args in
    entry _ the-args.stage _ the-args.kind c.row_of-row.ensures (omega (arith, c.if-column-ge-KINDS))
