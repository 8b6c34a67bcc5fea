-- `held` meets its contract: the three numbers that the tests let through, and their sum is `holding`.
use Rattle.plan_holdings.proofs.Tests.{held_sum}
use Rattle.plan_holdings.proofs.held.Goals as goal

pub returns : goal.returns
returns c = rw (c.from.ensures, c.from-2.ensures, c.from-3.ensures) (held_sum c.args.source c.args.fault c.args.need)
