-- `judge_score::either_complete` meets its contract: the first decides, or else the second.
use mathlib.Core.Path.{sym, ap, ◌∙◌}
use mathlib.Core.Bool.{Bool, ◌||◌}
use Rattle.judge_marks.specs.Marks.{complete?}
use Rattle.judge_score.proofs.either_complete.Goals as goal

pub returns-then-complete : goal.returns-then-complete
returns-then-complete c =
    c.if-complete.true ∙ ap (λ (x : Bool). x || complete? c.args.other) (sym c.if-complete.true ∙ c.complete.ensures)

pub returns-else-complete : goal.returns-else-complete
returns-else-complete c =
    c.complete-else-complete.ensures ∙ ap (λ (x : Bool). x || complete? c.args.other) (sym c.if-complete.false ∙ c.complete.ensures)
