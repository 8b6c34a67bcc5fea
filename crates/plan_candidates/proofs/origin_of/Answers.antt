-- `origin_of` meets its contract: its calls make the labels, holdings and numbers of the parts.
use mathlib.Core.Path.{sym, ap, ◌∙◌}
use lib.ListN.{length}
use Rattle.feeding_restoration.proofs.Reach.{bits_long, network_ends}
use Rattle.feeding_start.proofs.Starts.{sound_of, faulty_of, restorable_of}
use Rattle.plan_candidates.proofs.Arrays.{opened_long}
use Rattle.plan_candidates.proofs.Starting.{gathered, label_counted, spread_reach, waiting_reach}
use Rattle.plan_candidates.proofs.Weighing.{rated, sourced, founded}
use Rattle.network.proofs.Pairs.{both}
use Rattle.plan_candidates.proofs.origin_of.Goals as goal

pub slice_bounds-parts_of-end : goal.slice_bounds-parts_of-end
slice_bounds-parts_of-end c =
    let pre· = (both c.requires.searchable c.requires.base_value) in
    sym pre·.0.formed.from_long

pub slice_bounds-parts_of-end-2 : goal.slice_bounds-parts_of-end-2
slice_bounds-parts_of-end-2 c =
    let pre· = (both c.requires.searchable c.requires.base_value) in
    sym pre·.0.formed.to_long

pub parts_of-parts-requires : goal.parts_of-parts-requires
parts_of-parts-requires c =
    let the-args = c.args in
    let pre· = (both c.requires.searchable c.requires.base_value) in
    network_ends the-args.start.net pre·.0.formed the-args.base.now (ap length pre·.1 ∙ opened_long the-args.start pre·.0)

pub slice_bounds-spread-end : goal.slice_bounds-spread-end
slice_bounds-spread-end c =
    let the-args = c.args in
    let pre· = (both c.requires.searchable c.requires.base_value) in
    label_counted the-args.start.net pre·.0.formed the-args.base.now c.parts_of-parts.result c.parts_of-parts.ensures

pub slice_bounds-spread-end-2 : goal.slice_bounds-spread-end-2
slice_bounds-spread-end-2 c =
    let the-args = c.args in
    let pre· = (both c.requires.searchable c.requires.base_value) in
    sym (bits_long _ _ _ (sound_of the-args.start _ pre·.0.made))

pub spread-live-requires : goal.spread-live-requires
spread-live-requires c =
    let the-args = c.args in
    let pre· = (both c.requires.searchable c.requires.base_value) in
    spread_reach the-args.start.net pre·.0.formed the-args.base.now c.parts_of-parts.result _ c.parts_of-parts.ensures (bits_long _ _ _ (sound_of the-args.start _ pre·.0.made))

pub slice_bounds-spread-end-3 : goal.slice_bounds-spread-end-3
slice_bounds-spread-end-3 c =
    let the-args = c.args in
    let pre· = (both c.requires.searchable c.requires.base_value) in
    label_counted the-args.start.net pre·.0.formed the-args.base.now c.parts_of-parts.result c.parts_of-parts.ensures

pub slice_bounds-spread-end-4 : goal.slice_bounds-spread-end-4
slice_bounds-spread-end-4 c =
    let the-args = c.args in
    let pre· = (both c.requires.searchable c.requires.base_value) in
    sym (bits_long _ _ _ (faulty_of the-args.start _ pre·.0.made))

pub spread-fault-requires : goal.spread-fault-requires
spread-fault-requires c =
    let the-args = c.args in
    let pre· = (both c.requires.searchable c.requires.base_value) in
    spread_reach the-args.start.net pre·.0.formed the-args.base.now c.parts_of-parts.result _ c.parts_of-parts.ensures (bits_long _ _ _ (faulty_of the-args.start _ pre·.0.made))

pub slice_bounds-spread-end-5 : goal.slice_bounds-spread-end-5
slice_bounds-spread-end-5 c =
    let the-args = c.args in
    let pre· = (both c.requires.searchable c.requires.base_value) in
    label_counted the-args.start.net pre·.0.formed the-args.base.now c.parts_of-parts.result c.parts_of-parts.ensures

pub slice_bounds-spread-end-6 : goal.slice_bounds-spread-end-6
slice_bounds-spread-end-6 c =
    let the-args = c.args in
    let pre· = (both c.requires.searchable c.requires.base_value) in
    sym (bits_long _ _ _ (restorable_of the-args.start _ pre·.0.made))

pub spread-need-requires : goal.spread-need-requires
spread-need-requires c =
    let the-args = c.args in
    let pre· = (both c.requires.searchable c.requires.base_value) in
    spread_reach the-args.start.net pre·.0.formed the-args.base.now c.parts_of-parts.result _ c.parts_of-parts.ensures (bits_long _ _ _ (restorable_of the-args.start _ pre·.0.made))

pub slice_bounds-waiting_parts-end : goal.slice_bounds-waiting_parts-end
slice_bounds-waiting_parts-end c =
    let the-args = c.args in
    let pre· = (both c.requires.searchable c.requires.base_value) in
    label_counted the-args.start.net pre·.0.formed the-args.base.now c.parts_of-parts.result c.parts_of-parts.ensures

pub waiting_parts-waiting-requires : goal.waiting_parts-waiting-requires
waiting_parts-waiting-requires c =
    let the-args = c.args in
    let pre· = (both c.requires.searchable c.requires.base_value) in
    waiting_reach the-args.start.net pre·.0.formed the-args.base.now c.parts_of-parts.result _ _ _ c.holdings-holds.result c.parts_of-parts.ensures c.holdings-holds.ensures

pub slice_bounds-spare_of-end : goal.slice_bounds-spare_of-end
slice_bounds-spare_of-end c =
    let the-args = c.args in
    let pre· = (both c.requires.searchable c.requires.base_value) in
    label_counted the-args.start.net pre·.0.formed the-args.base.now c.parts_of-parts.result c.parts_of-parts.ensures

pub slice_bounds-spare_of-end-2 : goal.slice_bounds-spare_of-end-2
slice_bounds-spare_of-end-2 c =
    let the-args = c.args in
    let pre· = (both c.requires.searchable c.requires.base_value) in
    sym (bits_long _ _ _ (sound_of the-args.start _ pre·.0.made))

pub slice_bounds-spare_of-end-3 : goal.slice_bounds-spare_of-end-3
slice_bounds-spare_of-end-3 c =
    let pre· = (both c.requires.searchable c.requires.base_value) in
    sym pre·.0.formed.load_long

pub slice_bounds-spare_of-end-4 : goal.slice_bounds-spare_of-end-4
slice_bounds-spare_of-end-4 c =
    let pre· = (both c.requires.searchable c.requires.base_value) in
    sym pre·.0.formed.capacity_long

pub spare_of-spare-requires : goal.spare_of-spare-requires
spare_of-spare-requires c =
    let the-args = c.args in
    let pre· = (both c.requires.searchable c.requires.base_value) in
    record { rated = rated the-args.start pre·.0 (gathered the-args.start pre·.1 c.parts_of-parts.ensures c.spread-live.ensures c.spread-fault.ensures c.spread-need.ensures c.holdings-holds.ensures c.waiting_parts-waiting.ensures); sourced = sourced the-args.start pre·.0 (gathered the-args.start pre·.1 c.parts_of-parts.ensures c.spread-live.ensures c.spread-fault.ensures c.spread-need.ensures c.holdings-holds.ensures c.waiting_parts-waiting.ensures) }

pub returns : goal.returns
returns c =
    let the-args = c.args in
    let pre· = (both c.requires.searchable c.requires.base_value) in
    founded the-args.start pre·.0 (gathered the-args.start pre·.1 c.parts_of-parts.ensures c.spread-live.ensures c.spread-fault.ensures c.spread-need.ensures c.holdings-holds.ensures c.waiting_parts-waiting.ensures) c.spare_of-spare.ensures
