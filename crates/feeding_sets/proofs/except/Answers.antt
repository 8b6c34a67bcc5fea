-- `except` meets its contract. The loop's invariant: out marks those below x that are in the one set and not in the other.
use mathlib.Core.Path.{◌≡◌, refl}
use native.Mathlib.Omega.{arith}
use Rattle.feeding.proofs.Bits.{bits_none, bits_on, members_off}
use Rattle.feeding_sets.specs.Sets.{but_not}
use Rattle.feeding_sets.proofs.Membership.{but_in, but_other, but_out}
use Rattle.feeding_sets.proofs.except.Goals as goal
use Rattle.feeding_sets.proofs.except.Goals.{then-yes-x-eq1+then-no-x-ne1, else-yes-x-eq1, else-yes-x-eq1-via-then-yes-x-eq1+else-no-x-ne1, else-yes-x-eq1-via-else-yes-x-eq1}

pub loop-x-init : goal.loop-x-init
loop-x-init c = bits_none 96 (but_not c.args.yes.now c.args.no.now)

pub loop-x-preserved : goal.loop-x-preserved
loop-x-preserved c =
    let turn = c.loop-x in
    let in_one = c.args.yes.now in
    let in-other = c.args.no.now in
    let f = but_not in_one in-other in
    let x = turn.x in
    elim c.if-yes-x-eq1.branch [
      | then-yes-x-eq1+then-no-x-ne1 w ↦ bits_on 96 x f _ _ _ (omega arith) turn.invariant (but_in in_one in-other x (omega arith) (omega arith)) refl w.out-is
      | else-yes-x-eq1 w ↦ members_off 96 x f _ _ turn.invariant (elim w.else-yes-x-eq1.branch [
        | else-yes-x-eq1-via-then-yes-x-eq1+else-no-x-ne1 v ↦ but_other in_one in-other x (omega arith) (omega arith)
        | else-yes-x-eq1-via-else-yes-x-eq1 v ↦ but_out in_one in-other x (omega arith)
      ]) w.out-is
    ]

pub returns : goal.returns
returns c =
    let all : c.loop-x.x ≡ c.args.count = omega arith in
    rw (← all) c.loop-x.invariant
