-- `members_of` meets its contract. The loop's invariant: out marks those below x whose value is one or the other.
use mathlib.Core.Path.{◌≡◌, refl}
use native.Mathlib.Omega.{arith}
use Rattle.feeding.proofs.Bits.{bits_none, bits_on, members_off}
use Rattle.feeding_sets.specs.Sets.{one_of}
use Rattle.feeding_sets.proofs.Membership.{one_first, one_second, one_neither}
use Rattle.feeding_sets.proofs.members_of.Goals as goal
use Rattle.feeding_sets.proofs.members_of.Goals.{then-value-one, then-value-one-via-then-value-one, then-value-one-via-else-value-one+then-value-other, else-value-one+else-value-other}

pub loop-x-init : goal.loop-x-init
loop-x-init c = bits_none 96 (one_of c.args.values.now c.args.one c.args.other)

pub loop-x-preserved : goal.loop-x-preserved
loop-x-preserved c =
    let turn = c.loop-x in
    let a = c.args in
    let vs = a.values.now in
    let f = one_of vs a.one a.other in
    let x = turn.x in
    elim c.if-value-one.branch [
      | then-value-one w ↦ bits_on 96 x f _ _ _ (omega arith) turn.invariant (elim w.then-value-one.branch [
        | then-value-one-via-then-value-one v ↦ one_first vs a.one a.other x (omega arith)
        | then-value-one-via-else-value-one+then-value-other v ↦ one_second vs a.one a.other x (omega arith)
      ]) refl w.out-is
      | else-value-one+else-value-other w ↦ members_off 96 x f _ _ turn.invariant (one_neither vs a.one a.other x (omega arith) (omega arith)) w.out-is
    ]

pub returns : goal.returns
returns c =
    let all : c.loop-x.x ≡ c.args.count = omega arith in
    rw (← all) c.loop-x.invariant
