-- `at_either_end` meets its contract. The loop's invariant: out marks those below l that have an end in the set.
use mathlib.Core.Path.{◌≡◌, refl}
use native.Mathlib.Omega.{arith}
use Rattle.feeding.proofs.Bits.{bits_none, bits_on, members_off}
use Rattle.feeding_sets.specs.Sets.{at_either_end}
use Rattle.feeding_sets.proofs.Membership.{end_first, end_second, end_neither}
use Rattle.feeding_sets.proofs.at_either_end.Goals as goal
use Rattle.feeding_sets.proofs.at_either_end.Goals.{then-has-a-eq1, then-has-a-eq1-via-then-has-a-eq1, then-has-a-eq1-via-else-has-a-eq1+then-has-b-eq1, else-has-a-eq1+else-has-b-eq1}

pub loop-l-init : goal.loop-l-init
loop-l-init c = bits_none 96 (at_either_end c.args.from.now c.args.to.now c.args.has.now)

pub loop-l-preserved : goal.loop-l-preserved
loop-l-preserved c =
    let turn = c.loop-l in
    let a = c.args in
    let from = a.from.now in
    let to = a.to.now in
    let has = a.has.now in
    let f = at_either_end from to has in
    let l = turn.l in
    elim c.if-has-a-eq1.branch [
      | then-has-a-eq1 w ↦ bits_on 96 l f _ _ _ (omega arith) turn.invariant (elim w.then-has-a-eq1.branch [
        | then-has-a-eq1-via-then-has-a-eq1 v ↦ end_first from to has l (omega arith)
        | then-has-a-eq1-via-else-has-a-eq1+then-has-b-eq1 v ↦ end_second from to has l (omega arith)
      ]) refl w.out-is
      | else-has-a-eq1+else-has-b-eq1 w ↦ members_off 96 l f _ _ turn.invariant (end_neither from to has l (omega arith) (omega arith)) w.out-is
    ]

pub returns : goal.returns
returns c =
    let all : c.loop-l.l ≡ c.args.links = omega arith in
    rw (← all) c.loop-l.invariant
