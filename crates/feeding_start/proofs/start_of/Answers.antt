-- The start's sets one from another, each as its definition says.
use mathlib.Core.Path.{sym, ◌∙◌}
use native.Mathlib.Omega.{arith}
use Rattle.feeding_restoration.proofs.Reach.{bits_long, bits_reach, ends_reach}
use Rattle.feeding_restoration.proofs.Sets.{fixed_is}
use Rattle.feeding_start.proofs.Operable.{operable_is}
use Rattle.feeding_start.proofs.Starts.{label_reach, live_at, start_is}
use Rattle.network.proofs.Pairs.{both}
use Rattle.feeding_start.proofs.start_of.Goals as goal

pub spread-live-requires : goal.spread-live-requires
spread-live-requires c =
    let the-args = c.args in
    let pre· = (both c.requires.well_formed (both c.requires.own_value (both c.requires.closed_value (both c.requires.label_value (both c.requires.sound_value c.requires.faulty_value))))) in
    label_reach the-args.net pre·.0 _ _ _ pre·.1.1.1.0 (bits_long _ _ _ pre·.1.1.1.1.0)

pub restorable_elements-restorable-requires : goal.restorable_elements-restorable-requires
restorable_elements-restorable-requires c =
    let pre· = (both c.requires.well_formed (both c.requires.own_value (both c.requires.closed_value (both c.requires.label_value (both c.requires.sound_value c.requires.faulty_value))))) in
    let the-args = c.args in
    record { well_formed = pre·.0; fixed_value = (c.members_of-fixed.ensures ∙ fixed_is the-args.net pre·.0); faulty_value = pre·.1.1.1.1.1 }

pub slice_bounds-except-end : goal.slice_bounds-except-end
slice_bounds-except-end c =
    sym (bits_long _ _ _ c.restorable_elements-restorable.ensures)

pub slice_bounds-except-end-2 : goal.slice_bounds-except-end-2
slice_bounds-except-end-2 c =
    sym (bits_long _ _ _ c.spread-live.ensures)

pub except-waiting-requires : goal.except-waiting-requires
except-waiting-requires c =
    let pre· = (both c.requires.well_formed (both c.requires.own_value (both c.requires.closed_value (both c.requires.label_value (both c.requires.sound_value c.requires.faulty_value))))) in
    record { reach = bits_reach _ _ _ _ (omega (arith, pre·.0.elements_fit)) c.restorable_elements-restorable.ensures; reach_2 = bits_reach _ _ _ _ (omega (arith, pre·.0.elements_fit)) c.spread-live.ensures }

pub slice_bounds-at_either_end-end : goal.slice_bounds-at_either_end-end
slice_bounds-at_either_end-end c =
    let pre· = (both c.requires.well_formed (both c.requires.own_value (both c.requires.closed_value (both c.requires.label_value (both c.requires.sound_value c.requires.faulty_value))))) in
    sym pre·.0.from_long

pub slice_bounds-at_either_end-end-2 : goal.slice_bounds-at_either_end-end-2
slice_bounds-at_either_end-end-2 c =
    let pre· = (both c.requires.well_formed (both c.requires.own_value (both c.requires.closed_value (both c.requires.label_value (both c.requires.sound_value c.requires.faulty_value))))) in
    sym pre·.0.to_long

pub at_either_end-ends-requires : goal.at_either_end-ends-requires
at_either_end-ends-requires c =
    let the-args = c.args in
    let pre· = (both c.requires.well_formed (both c.requires.own_value (both c.requires.closed_value (both c.requires.label_value (both c.requires.sound_value c.requires.faulty_value))))) in
    ends_reach the-args.net pre·.0 c.except-waiting.result (bits_long _ _ _ c.except-waiting.ensures)

pub slice_bounds-except-end-4 : goal.slice_bounds-except-end-4
slice_bounds-except-end-4 c =
    sym (bits_long _ _ _ c.members_of-fixed.ensures)

pub except-operable-requires : goal.except-operable-requires
except-operable-requires c =
    let pre· = (both c.requires.well_formed (both c.requires.own_value (both c.requires.closed_value (both c.requires.label_value (both c.requires.sound_value c.requires.faulty_value))))) in
    record { reach = bits_reach _ _ _ _ pre·.0.links_fit c.at_either_end-ends.ensures; reach_2 = bits_reach _ _ _ _ pre·.0.links_fit c.members_of-fixed.ensures }

pub returns : goal.returns
returns c =
    let the-args = c.args in
    let pre· = (both c.requires.well_formed (both c.requires.own_value (both c.requires.closed_value (both c.requires.label_value (both c.requires.sound_value c.requires.faulty_value))))) in
    start_is the-args.net _ _ _ _ _ _ _ pre·.1.0 pre·.1.1.0 pre·.1.1.1.1.0 pre·.1.1.1.1.1 (c.spread-live.ensures ∙ live_at the-args.net pre·.0 _ _ _ pre·.1.1.0 pre·.1.1.1.0 pre·.1.1.1.1.0) c.restorable_elements-restorable.ensures (c.except-operable.ensures ∙ operable_is the-args.net pre·.0 _ _ _ _ _ (c.members_of-fixed.ensures ∙ fixed_is the-args.net pre·.0) (c.spread-live.ensures ∙ live_at the-args.net pre·.0 _ _ _ pre·.1.1.0 pre·.1.1.1.0 pre·.1.1.1.1.0) c.restorable_elements-restorable.ensures c.except-waiting.ensures c.at_either_end-ends.ensures)
