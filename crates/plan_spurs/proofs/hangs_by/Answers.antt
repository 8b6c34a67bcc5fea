-- `hangs_by` meets its contract: it asks the definition's four tests in turn.
use native.Mathlib.Omega.{arith}
use Rattle.plan_spurs.proofs.OneMore.{no_end, more_ends, at_source, by_switch, is_spur}
use Rattle.plan_spurs.proofs.hangs_by.Goals as goal
use Rattle.plan_spurs.proofs.hangs_by.Goals.{
  then-j-ge-NO_END-via-then-j-ge-NO_END,
  then-j-ge-NO_END-via-else-j-ge-NO_END+then-next-j-lt192,
  then-j-ge-NO_END-via-else-j-ge-NO_END+else-next-j-lt192+then-sound-e-eq1,
  then-j-ge-NO_END-via-else-j-ge-NO_END+else-next-j-lt192+else-sound-e-eq1+then-base-j-ne1,
}

pub returns-then-j-ge-NO_END : goal.returns-then-j-ge-NO_END
returns-then-j-ge-NO_END c =
    let the-args = c.args in
    elim c.then-j-ge-NO_END.branch [
      | then-j-ge-NO_END-via-then-j-ge-NO_END w ↦
          no_end the-args.head.now the-args.next.now the-args.sound.now the-args.base.now the-args.e (omega arith)
      | then-j-ge-NO_END-via-else-j-ge-NO_END+then-next-j-lt192 w ↦
          more_ends the-args.head.now the-args.next.now the-args.sound.now the-args.base.now the-args.e (omega arith)
      | then-j-ge-NO_END-via-else-j-ge-NO_END+else-next-j-lt192+then-sound-e-eq1 w ↦
          at_source the-args.head.now the-args.next.now the-args.sound.now the-args.base.now the-args.e (omega arith)
      | then-j-ge-NO_END-via-else-j-ge-NO_END+else-next-j-lt192+else-sound-e-eq1+then-base-j-ne1 w ↦
          by_switch the-args.head.now the-args.next.now the-args.sound.now the-args.base.now the-args.e (λ h. omega arith)
    ]

pub returns : goal.returns
returns c =
    let the-args = c.args in
    (omega arith, is_spur the-args.head.now the-args.next.now the-args.sound.now the-args.base.now the-args.e (omega arith) (omega arith) (λ h. omega arith) (omega arith))
