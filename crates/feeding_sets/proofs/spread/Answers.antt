-- `spread` meets its contract. The loop's invariant: out marks those below x whose part has a member; the highest member of a part tells.
use mathlib.Core.Path.{◌≡◌, refl, ap, ◌∙◌}
use native.Mathlib.Omega.{arith}
use Rattle.feeding.specs.Below.{bits}
use Rattle.feeding.proofs.Bits.{bits_none, bits_on, members_off}
use Rattle.feeding_sets.specs.Sets.{part_has}
use Rattle.feeding_sets.proofs.Membership.{part_has_lem, part_lacks}
use Rattle.feeding_sets.proofs.spread.Goals as goal
use Rattle.feeding_sets.proofs.spread.Goals.{else-last-k-lt64, then-last-k-lt64}

pub last_of_part-last-requires : goal.last_of_part-last-requires
last_of_part-last-requires c =
    let pre = c.requires in
    record { elements_bound = (pre.fit, pre.label_long, pre.has_long); all_below = pre.label_in }

pub loop-x-init : goal.loop-x-init
loop-x-init c =
    let a = c.args in
    bits_none 96 (part_has a.label.now a.has.now a.elements)

pub loop-x-preserved : goal.loop-x-preserved
loop-x-preserved c =
    let turn = c.loop-x in
    let label = c.args.label.now in
    let has = c.args.has.now in
    let n = c.args.elements in
    let f = part_has label has n in
    let x = turn.x in
    let inside = c.requires.label_in x (omega arith) in
    elim c.if-last-k-lt64.branch [
      | then-last-k-lt64 w ↦ bits_on 96 x f _ _ _ (omega arith) turn.invariant
          (part_has_lem label has n (omega arith) x inside _ c.last_of_part-last.ensures (omega arith)) refl w.out-is
      | else-last-k-lt64 w ↦ members_off 96 x f _ _ turn.invariant
          (part_lacks label has n (omega arith) x inside _ c.last_of_part-last.ensures (omega arith)) w.out-is
    ]

pub returns : goal.returns
returns c =
    let a = c.args in
    let all : c.loop-x.x ≡ a.elements = omega arith in
    c.loop-x.invariant ∙ ap (λ n. bits 96 n (part_has a.label.now a.has.now a.elements)) all
