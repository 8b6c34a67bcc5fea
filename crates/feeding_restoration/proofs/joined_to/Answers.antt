-- The elements joined to a set: the set spread over the parts.
use mathlib.Core.Path.{◌∙◌, ap}
use Rattle.feeding.specs.Below.{bits}
use Rattle.feeding_parts.specs.declared.Parts.{Parts}
use Rattle.feeding_sets.specs.Sets.{part_has}
use Rattle.feeding_restoration.specs.Joining.{joined_to}
use Rattle.feeding_restoration.proofs.Reach.{joins_ends, parts_reach}
use Rattle.feeding_restoration.proofs.joined_to.Goals as goal

pub parts_of-parts-requires : goal.parts_of-parts-requires
parts_of-parts-requires c =
    let the-args = c.args in
    joins_ends _ _ _ the-args.has.now the-args.elements _ c.requires

pub spread-requires : goal.spread-requires
spread-requires c =
    parts_reach _ _ _ _ _ c.parts_of-parts.result _ c.requires.elements_fit c.parts_of-parts.ensures c.requires.has_long

pub returns : goal.returns
unfolding joined_to
returns c =
    let the-args = c.args in
    c.spread.ensures ∙ ap (λ (p : Parts). bits 96 the-args.elements (part_has p.label the-args.has.now the-args.elements)) c.parts_of-parts.ensures
