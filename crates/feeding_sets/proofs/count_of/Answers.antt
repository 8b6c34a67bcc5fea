-- `count_of` meets its contract: the filter passes as many as are members.
use mathlib.Core.Path.{◌≡◌, ◌∙◌}
use lib.ListN.{take}
use Rattle.std.proofs.Common.{rules}
use Rattle.std.specs.Prelude.{count_by, ◌==◌}
use Rattle.feeding_sets.proofs.Membership.{counted}
use Rattle.feeding_sets.proofs.count_of.Goals as goal

pub returns : goal.returns
returns c =
    let passed : c.count.result ≡ count_by (λ x. x == 1) (take c.args.count c.args.has.now) = search rules in
    passed ∙ counted c.args.has.now c.args.count c.requires.long
