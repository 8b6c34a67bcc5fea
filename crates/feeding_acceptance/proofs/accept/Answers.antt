-- Rules 14 to 17, then 18: the first answer that refuses, or the start.
use mathlib.Core.Path.{refl, ap, ◌∙◌}
use Rattle.std.proofs.lemmas.Result.{err_from_is_err_and}
use Rattle.feeding_parts.specs.declared.Parts.{Parts}
use Rattle.feeding_restoration.proofs.Reach.{bits_long, network_ends}
use Rattle.feeding_restoration.proofs.Sets.{closed_is, sound_is, faulty_is}
use Rattle.feeding_safety.proofs.Networks.{two_ends}
use Rattle.feeding_acceptance.proofs.Reading.{start_safety, start_formed, start_made, unsafe_answer, safe_answer, start_answer}
use Rattle.feeding_acceptance.proofs.accept.Goals as goal

pub own_ends-own-requires : goal.own_ends-own-requires
own_ends-own-requires c =
    let the-args = c.args in
    let pre· = c.requires in
    two_ends the-args.net pre· _ refl

pub parts_of-parts-requires : goal.parts_of-parts-requires
parts_of-parts-requires c =
    let the-args = c.args in
    let pre· = c.requires in
    network_ends the-args.net pre· _ (bits_long _ _ _ c.members_of-closed.ensures)

pub check-requires : goal.check-requires
check-requires c =
    let pre· = c.requires in
    record { well_formed = pre·; own_value = c.own_ends-own.ensures; closed_len = bits_long _ _ _ c.members_of-closed.ensures; sound_value = c.members_of-sound.ensures; faulty_value = c.members_of-faulty.ensures; parts_value = c.parts_of-parts.ensures }

pub start_of-start-requires : goal.start_of-start-requires
start_of-start-requires c =
    let pre· = c.requires in
    let the-args = c.args in
    record { well_formed = pre·; own_value = c.own_ends-own.ensures; closed_value = c.members_of-closed.ensures ∙ closed_is the-args.net pre·; label_value = ap (λ (p : Parts). p.label) c.parts_of-parts.ensures; sound_value = c.members_of-sound.ensures ∙ sound_is the-args.net pre·; faulty_value = c.members_of-faulty.ensures ∙ faulty_is the-args.net pre· }

pub within_limit-requires : goal.within_limit-requires
within_limit-requires c =
    let the-args = c.args in
    let pre· = c.requires in
    record { well_formed = start_formed the-args.net pre· c.start_of-start.result c.start_of-start.ensures; start_value = start_made the-args.net c.start_of-start.result c.start_of-start.ensures }

pub returns-in_err-check : goal.returns-in_err-check
returns-in_err-check c =
    let the-args = c.args in
    let pre· = c.requires in
    let p = err_from_is_err_and c.from_residual.result c.from_residual.ensures.1 in
    rw (p.1, p.2) (unsafe_answer the-args.net c.check.result (c.check.ensures ∙ start_safety the-args.net pre· _ (c.members_of-closed.ensures ∙ closed_is the-args.net pre·)) _ c.in_err-check.was)

pub returns : goal.returns
returns c =
    let the-args = c.args in
    let pre· = c.requires in
    safe_answer the-args.net c.check.result (c.check.ensures ∙ start_safety the-args.net pre· _ (c.members_of-closed.ensures ∙ closed_is the-args.net pre·)) _ _ c.in_ok-check.was (c.within_limit.ensures ∙ start_answer the-args.net c.start_of-start.result c.start_of-start.ensures)
