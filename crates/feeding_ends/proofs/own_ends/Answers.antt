-- `own_ends` chains the ends, from the last link down to the first: the two ends of each link in the set go to the heads of their elements' chains.
use Prim.Native.Nat.{◌-◌, ◌*◌}
use mathlib.Core.Path.{◌≡◌, subst}
use native.Mathlib.Omega.{arith}
use Rattle.feeding.specs.Networks.{at, is_in}
use Rattle.feeding_ends.proofs.Chaining.{Chained, chained_start, turn_in, turn_out, chained_all}
use Rattle.feeding_ends.proofs.own_ends.Goals as goal

pub loop-l-init : goal.loop-l-init
loop-l-init c = let the-args = c.args in
    chained_start (at the-args.from.now) (at the-args.to.now) (is_in the-args.has.now) the-args.links (omega arith)

pub overflow_cast-a : goal.overflow_cast-a
overflow_cast-a c = omega (arith, c.type_inv.from (c.loop-l.l - 1))

pub overflow_cast-b : goal.overflow_cast-b
overflow_cast-b c = omega (arith, c.type_inv.to (c.loop-l.l - 1))

pub bounds-head-b : goal.bounds-head-b
bounds-head-b c = let pre· = c.requires in
    omega (arith, pre·.to_in (c.loop-l.l - 1) (omega arith))

pub overflow_cast-far : goal.overflow_cast-far
overflow_cast-far c = let pre· = c.requires in
    omega (arith, pre·.from_in (c.loop-l.l - 1) (omega arith))

pub bounds-head-a : goal.bounds-head-a
bounds-head-a c = let pre· = c.requires in
    omega (arith, pre·.from_in (c.loop-l.l - 1) (omega arith))

pub overflow_cast-far-in-loop-l : goal.overflow_cast-far-in-loop-l
overflow_cast-far-in-loop-l c = let pre· = c.requires in
    omega (arith, pre·.to_in (c.loop-l.l - 1) (omega arith))

pub bounds-head-b-then-has-l-eq1 : goal.bounds-head-b-then-has-l-eq1
bounds-head-b-then-has-l-eq1 c = let pre· = c.requires in
    let loop· = c.loop-l in
    omega (arith, pre·.to_in (loop·.l - 1) (omega arith))

pub bounds-head-a-then-has-l-eq1 : goal.bounds-head-a-then-has-l-eq1
bounds-head-a-then-has-l-eq1 c = let pre· = c.requires in
    let loop· = c.loop-l in
    omega (arith, pre·.from_in (loop·.l - 1) (omega arith))

pub loop-l-preserved-then-has-l-eq1 : goal.loop-l-preserved-then-has-l-eq1
loop-l-preserved-then-has-l-eq1 c = let the-args = c.args in
    let loop· = c.loop-l in
    let pre· = c.requires in
    turn_in the-args.from.now the-args.to.now the-args.has.now the-args.links loop·.l loop·.head loop·.next loop·.far pre· (omega arith) (omega arith)
    loop·.invariant _ _ (omega arith) (omega arith) (omega arith)

pub loop-l-preserved : goal.loop-l-preserved
loop-l-preserved c = let the-args = c.args in
    let loop· = c.loop-l in
    let pre· = c.requires in
    turn_out the-args.from.now the-args.to.now the-args.has.now the-args.links loop·.l loop·.head loop·.next loop·.far pre· (omega arith) (omega arith)
    loop·.invariant (omega arith)

pub returns : goal.returns
returns c = let loop· = c.loop-l in
    let the-args = c.args in
    let done : 2 * loop·.l ≡ 0 = omega arith in
    chained_all (at the-args.from.now) (at the-args.to.now) (is_in the-args.has.now) the-args.links loop·.head loop·.next loop·.far
    (subst (λ z. Chained (at the-args.from.now) (at the-args.to.now) (is_in the-args.has.now) the-args.links z loop·.head loop·.next loop·.far) done loop·.invariant)
