-- `file_stages::after_last` moves on from a stage whose records are all read: each arm's equation on the stage, under `after_last`.
use mathlib.Core.Path.{ap, sym}
use Rattle.file_stages.specs.Stages.{after_last}
use Rattle.file_stages.proofs.after_last.Goals as goal

pub returns-in-Head : goal.returns-in-Head
returns-in-Head c = sym (ap after_last c.in-Head.is)

pub returns-in-Elements : goal.returns-in-Elements
returns-in-Elements c = sym (ap after_last c.in-Elements.is)

pub returns-in-Links : goal.returns-in-Links
returns-in-Links c = sym (ap after_last c.in-Links.is)

pub returns-in-End : goal.returns-in-End
returns-in-End c = sym (ap after_last c.in-End.is)

pub returns-in-PlanHead : goal.returns-in-PlanHead
returns-in-PlanHead c = sym (ap after_last c.in-PlanHead.is)

pub returns-in-Steps : goal.returns-in-Steps
returns-in-Steps c = sym (ap after_last c.in-Steps.is)

pub returns-in-PlanEnd : goal.returns-in-PlanEnd
returns-in-PlanEnd c = sym (ap after_last c.in-PlanEnd.is)

pub returns-in-Over : goal.returns-in-Over
returns-in-Over c = sym (ap after_last c.in-Over.is)
