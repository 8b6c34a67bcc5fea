-- `added_by` meets its contract: its test is that of `charge_by`.
use mathlib.Core.Path.{refl}
use native.Mathlib.Omega.{arith}
use borrow.Author.Tests.{eq-eqb, ne_eqb}
use Rattle.plan_problem.specs.Sets.{charge_by, adds_by}
use Rattle.plan_search.proofs.added_by.Goals as goal

pub returns-then-chosen-eq0 : goal.returns-then-chosen-eq0
unfolding adds_by charge_by
returns-then-chosen-eq0 c =
    rw (eq-eqb _ 0 c.if-chosen-eq0.true) refl

pub returns : goal.returns
unfolding adds_by charge_by
returns c =
    rw (ne_eqb _ 0 c.if-chosen-eq0.false) (omega arith)
