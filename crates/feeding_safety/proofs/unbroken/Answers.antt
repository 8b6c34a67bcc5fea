-- The answer is the refusal at the place where there is one.
use mathlib.Core.Path.{sym, ap}
use Rattle.feeding_safety.specs.Checks.{unbroken}
use Rattle.feeding_safety.proofs.unbroken.Goals as goal

pub returns-in-Some : goal.returns-in-Some
unfolding unbroken
returns-in-Some c = sym (ap (unbroken c.args.rule) c.in-Some.is)

pub returns-in-None : goal.returns-in-None
unfolding unbroken
returns-in-None c = sym (ap (unbroken c.args.rule) c.in-None.is)
