-- `lump_spurs` takes the elements in turn: after e of them, loads and `base` are what the definition has for the first e.
use mathlib.Core.Path.{◌≡◌, sym, ap, ◌∙◌}
use native.Mathlib.Omega.{arith}
use Rattle.feeding.specs.Networks.{at}
use Rattle.plan_spurs.specs.declared.Lumped.{Lumped}
use Rattle.plan_spurs.specs.Spurs.{lumped_to}
use Rattle.plan_spurs.proofs.OneMore.{none_lumped, left_alone, left_over, lumped, both, borne_fits}
use Rattle.plan_spurs.proofs.lump_spurs.Goals as goal
use Rattle.plan_spurs.proofs.lump_spurs.Goals.{then-bears, else-bears}

pub loop-e-init : goal.loop-e-init
loop-e-init c =
    let the-args = c.args in
    none_lumped the-args.own the-args.sound.now the-args.capacity.now the-args.before

pub loop-e-preserved-in_default : goal.loop-e-preserved-in_default
loop-e-preserved-in_default c =
    let the-args = c.args in
    let loop· = c.loop-e in
    left_alone the-args.own the-args.sound.now the-args.capacity.now the-args.before loop·.e 192
    (record { base = loop·.base; load = loop·.load }) loop·.invariant c.in_default.ensures (omega arith)

pub overflow_add-load : goal.overflow_add-load
overflow_add-load c =
    let the-args = c.args in
    let loop· = c.loop-e in
    let to· = at the-args.own.far c.in-Some.j in
    omega (
      arith,
      (borne_fits (at loop·.load loop·.e) (at the-args.capacity.now loop·.e) (at loop·.load to·) (at the-args.capacity.now to·)
          (sym c.bears.ensures ∙ c.if-bears.true)).1,
      c.type_inv.capacities to·,
    )

pub loop-e-preserved : goal.loop-e-preserved
loop-e-preserved c =
    let the-args = c.args in
    let loop· = c.loop-e in
    let now· : Lumped = record { base = loop·.base; load = loop·.load } in
    elim c.if-bears.branch [
      | then-bears w ↦ both w.base-is w.load-is
          ∙ lumped the-args.own the-args.sound.now the-args.capacity.now the-args.before loop·.e c.in-Some.j now·
          loop·.invariant c.in-Some.ensures.1 c.in-Some.ensures.0 c.bears.result c.bears.ensures w.if-bears.true
      | else-bears w ↦ both w.base-is w.load-is
          ∙ left_over the-args.own the-args.sound.now the-args.capacity.now the-args.before loop·.e c.in-Some.j now·
          loop·.invariant c.in-Some.ensures.1 c.in-Some.ensures.0 c.bears.result c.bears.ensures w.if-bears.false
    ]

pub returns : goal.returns
returns c =
    let the-args = c.args in
    let loop· = c.loop-e in
    let all : loop·.e ≡ the-args.elements = omega arith in
    loop·.invariant ∙ ap (lumped_to the-args.own the-args.sound.now the-args.capacity.now the-args.before) all
