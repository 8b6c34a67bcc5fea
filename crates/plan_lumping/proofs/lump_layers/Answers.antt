-- `lump_layers` lumps layer after layer: after i turns it has what the definition has after i layers.
use mathlib.Core.Path.{◌≡◌, ap, ◌∙◌}
use native.Mathlib.Omega.{arith}
use lib.ListN.{length}
use Rattle.feeding_ends.specs.declared.OwnEnds.{OwnEnds}
use Rattle.feeding_safety.proofs.Networks.{two_ends}
use Rattle.plan_spurs.specs.declared.Lumped.{Lumped}
use Rattle.plan_spurs.specs.Spurs.{lumped_to}
use Rattle.plan_lumping.specs.Layers.{closable_ends, lumped_layers}
use Rattle.plan_lumping.proofs.LayerByLayer.{no_layer, one_layer, layers_long, far_in}
use Rattle.network.proofs.Pairs.{both}
use Rattle.plan_lumping.proofs.lump_layers.Goals as goal

pub loop-i-init : goal.loop-i-init
loop-i-init c =
    let the-args = c.args in
    no_layer the-args.net the-args.link.now the-args.count the-args.sound.now _

pub closable_ends-own-requires : goal.closable_ends-own-requires
closable_ends-own-requires c = let loop· = c.loop-i in
    let the-args = c.args in
    let pre· = (both c.requires.well_formed c.requires.switch_reach) in
    let long = ap (λ (t : Lumped). length t.base) loop·.invariant ∙ (layers_long the-args.net the-args.link.now the-args.count the-args.sound.now _ loop·._i).0 ∙ pre·.1.1 in
    record { two_ends = two_ends the-args.net pre·.0 _ long; switch_reach = (pre·.1.0, long) }

pub lump_spurs-lumped-requires : goal.lump_spurs-lumped-requires
unfolding closable_ends
lump_spurs-lumped-requires c =
    let the-args = c.args in
    let pre· = (both c.requires.well_formed c.requires.switch_reach) in
    record { far_in = rw (c.closable_ends-own.ensures, closable_ends) (far_in the-args.net pre·.0 _); elements_bound = pre·.0.elements_fit }

pub loop-i-preserved : goal.loop-i-preserved
loop-i-preserved c =
    let the-args = c.args in
    let loop· = c.loop-i in
    c.lump_spurs-lumped.ensures ∙ ap (λ (own : OwnEnds). lumped_to own the-args.sound.now the-args.net.capacity loop·.lumped the-args.net.elements) c.closable_ends-own.ensures ∙ one_layer the-args.net the-args.link.now the-args.count the-args.sound.now _ loop·._i loop·.lumped loop·.invariant

pub returns : goal.returns
returns c =
    let loop· = c.loop-i in
    let the-args = c.args in
    loop·.invariant ∙ (let all : loop·._i ≡ the-args.layers = omega arith in ap (lumped_layers the-args.net the-args.link.now the-args.count the-args.sound.now _) all)
