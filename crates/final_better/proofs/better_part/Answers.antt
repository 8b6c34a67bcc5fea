-- `final_better::better_part` meets its contract: the step records of the better file, by the three answers.
use mathlib.Core.Path.{◌∙◌}
use Rattle.final_better.proofs.Records.{part_first, part_second, part_none}
use Rattle.final_better.proofs.better_part.Goals as goal

pub returns-in-First : goal.returns-in-First
returns-in-First c =
    let the-args = c.args in
    c.step_records.ensures ∙ part_first the-args.first.now the-args.second.now c.in-First.is

pub returns-in-Second : goal.returns-in-Second
returns-in-Second c =
    let the-args = c.args in
    c.step_records-in-Second.ensures ∙ part_second the-args.first.now the-args.second.now c.in-Second.is

pub returns-in-Neither : goal.returns-in-Neither
returns-in-Neither c =
    let the-args = c.args in
    c.no_records.ensures ∙ part_none the-args.first.now the-args.second.now c.in-Neither.is
