-- The lowest element that is restorable and dark: the sets that the calls make have the theory's elements.
use mathlib.Core.Path.{sym, ap, ◌∙◌}
use native.Mathlib.Omega.{arith}
use Rattle.feeding_restoration.proofs.Reach.{bits_long, bits_reach, network_joins}
use Rattle.feeding_start.proofs.Starts.{sound_of, restorable_of, live_after}
use Rattle.feeding.specs.Below.{some_below}
use Rattle.judge_steps.proofs.Finding.{member_found}
use Rattle.judge_steps.proofs.Following.{dark_found}
use Rattle.network.proofs.Pairs.{both}
use Rattle.judge_steps.proofs.lowest_dark.Goals as goal

pub joined_to-live-requires : goal.joined_to-live-requires
joined_to-live-requires c =
    let the-args = c.args in
    let pre· = (both c.requires.begun c.requires.closed_len) in
    network_joins the-args.start.net pre·.0.formed _ _ pre·.1 (bits_long _ _ _ (sound_of the-args.start _ pre·.0.made))

pub slice_bounds-except-end : goal.slice_bounds-except-end
slice_bounds-except-end c =
    let the-args = c.args in
    let pre· = (both c.requires.begun c.requires.closed_len) in
    sym (bits_long _ _ _ (restorable_of the-args.start _ pre·.0.made))

pub except-waiting-requires : goal.except-waiting-requires
except-waiting-requires c =
    let pre· = (both c.requires.begun c.requires.closed_len) in
    let the-args = c.args in
    record { reach = bits_reach _ _ _ _ (omega (arith, pre·.0.formed.elements_fit)) (restorable_of the-args.start _ pre·.0.made); reach_2 = bits_reach _ _ _ _ (omega (arith, pre·.0.formed.elements_fit)) c.joined_to-live.ensures }

pub lowest_member-requires : goal.lowest_member-requires
lowest_member-requires c =
    let pre· = (both c.requires.begun c.requires.closed_len) in
    omega (arith, pre·.0.formed.elements_fit, bits_long _ _ _ c.except-waiting.ensures)

pub returns : goal.returns
returns c =
    let the-args = c.args in
    let pre· = (both c.requires.begun c.requires.closed_len) in
    c.lowest_member.ensures ∙ member_found the-args.start.net.elements c.except-waiting.result (omega (arith, pre·.0.formed.elements_fit, bits_long _ _ _ c.except-waiting.ensures)) ∙ ap (some_below the-args.start.net.elements) (dark_found the-args.start.net pre·.0.formed the-args.closed.now c.joined_to-live.result the-args.start.restorable c.except-waiting.result (c.joined_to-live.ensures ∙ live_after the-args.start _ pre·.0.made pre·.0.formed the-args.closed.now) (restorable_of the-args.start _ pre·.0.made) c.except-waiting.ensures)
