-- `fellows_of` meets its contract. The loop's invariant: the mask is that of the switches passed.
use mathlib.Core.Path.{◌≡◌}
use lib.Dec.{eqb}
use Rattle.feeding.specs.Networks.{at}
use Rattle.plan_problem.specs.Sets.{mask_of}
use Rattle.plan_setting.proofs.fellows_of.Given as goal

abbrev pub invariant-loop-j : goal.invariant-loop-j
invariant-loop-j l =
    l.mask ≡ mask_of (λ x. eqb (at l.guard (at l.link x)) l.g) l.j
