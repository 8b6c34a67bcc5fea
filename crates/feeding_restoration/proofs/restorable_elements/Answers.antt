-- The restorable elements: what clean links join to the unspoiled sources, and the spoiled ones taken away.
use mathlib.Core.Path.{refl, ◌∙◌}
use native.Mathlib.Omega.{arith}
use Rattle.feeding_restoration.proofs.Reach.{bits_long, bits_reach, network_joins, ends_reach}
use Rattle.feeding_restoration.proofs.Sets.{spoiled_is, clean_is, unspoiled_is, restorable_is}
use Rattle.feeding_restoration.proofs.restorable_elements.Goals as goal

pub joined_to-spoiled-requires : goal.joined_to-spoiled-requires
joined_to-spoiled-requires c =
    let the-args = c.args in
    let r = c.requires in
    network_joins the-args.net r.well_formed _ _ (bits_long _ _ _ r.fixed_value) (bits_long _ _ _ r.faulty_value)

pub at_either_end-touched-requires : goal.at_either_end-touched-requires
at_either_end-touched-requires c =
    let the-args = c.args in
    let r = c.requires in
    ends_reach the-args.net r.well_formed c.joined_to-spoiled.result (bits_long _ _ _ c.joined_to-spoiled.ensures)

pub joined_to-reached-requires : goal.joined_to-reached-requires
joined_to-reached-requires c =
    let the-args = c.args in
    let r = c.requires in
    network_joins the-args.net r.well_formed _ _ (bits_long _ _ _ c.except-clean.ensures) (bits_long _ _ _ c.except-unspoiled.ensures)

pub except-requires : goal.except-requires
except-requires c =
    let r = c.requires in
    record { reach = bits_reach _ _ _ _ (omega (arith, r.well_formed.elements_fit)) c.joined_to-reached.ensures; reach_2 = bits_reach _ _ _ _ (omega (arith, r.well_formed.elements_fit)) c.joined_to-spoiled.ensures }

pub returns : goal.returns
returns c =
    let the-args = c.args in
    let r = c.requires in
    c.except.ensures
    ∙ (let spoiled = c.joined_to-spoiled.ensures ∙ spoiled_is the-args.net r.well_formed _ _ r.fixed_value r.faulty_value in
    restorable_is the-args.net r.well_formed c.joined_to-spoiled.result spoiled c.except-clean.result c.except-unspoiled.result c.joined_to-reached.result
    (clean_is the-args.net r.well_formed c.joined_to-spoiled.result spoiled _ _ c.except-clean.result c.at_either_end-touched.ensures refl c.except-clean.ensures)
    (unspoiled_is the-args.net r.well_formed c.joined_to-spoiled.result spoiled _ c.except-unspoiled.result c.members_of-source.ensures c.except-unspoiled.ensures)
    c.joined_to-reached.ensures)
