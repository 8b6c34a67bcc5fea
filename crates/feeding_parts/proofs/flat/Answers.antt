-- `feeding_parts::flat` meets its contract: the entries below x are roots, and the entry of x is below x or x itself.
use native.Mathlib.Omega.{arith}
use borrow.Author.Rules.{rules}
use Rattle.feeding_parts.proofs.Roots.{flat_none, flat_turn, flat_in, flat_all}
use Rattle.feeding_parts.proofs.flat.Goals as goal

pub loop-x-init : goal.loop-x-init
loop-x-init c = flat_none c.args.parent

pub overflow_cast-up : goal.overflow_cast-up
overflow_cast-up c =
    let low = flat_in c.args.parent c.requires c.loop-x.x c.loop-x.label c.loop-x.invariant (omega arith) in
    omega arith

pub bounds-label-up : goal.bounds-label-up
bounds-label-up c =
    let low = flat_in c.args.parent c.requires c.loop-x.x c.loop-x.label c.loop-x.invariant (omega arith) in
    omega arith

pub loop-x-preserved : goal.loop-x-preserved
loop-x-preserved c =
    flat_turn c.args.parent c.requires c.loop-x.x c.loop-x.label c.loop-x.invariant (omega arith)

pub returns : goal.returns
returns c = flat_all c.args.parent c.loop-x.label c.loop-x.x (omega arith) (search rules) c.loop-x.invariant
