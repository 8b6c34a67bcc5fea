-- The three answers, told apart.
-- Assumes nothing.
use Rattle.std.proofs.Common.{arith}
use Rattle.std.proofs.lemmas.Grind.{common_steps}
use Rattle.streams.specs.Streams.{input_after}
use Rattle.streams.proofs.Answers.{failed}
use Rattle.streams.proofs.input_after.Goals as goal

pub returns-in-Err : goal.returns-in-Err
returns-in-Err c = failed _ _ _ _ c.in-Err.is

pub returns-in-Ok-eq0 : goal.returns-in-Ok-eq0
unfolding input_after
returns-in-Ok-eq0 c = grind (arith, common_steps)

pub returns-in-Ok : goal.returns-in-Ok
unfolding input_after
returns-in-Ok c = grind (arith, common_steps)
