-- The sums over all elements: the sets that are handed over have the elements that the definition names.
use mathlib.Core.Path.{◌∙◌}
use native.Mathlib.Omega.{arith}
use Rattle.feeding_restoration.proofs.Reach.{bits_long, network_joins}
use Rattle.feeding_start.proofs.Starts.{sound_of, restorable_of, live_after}
use Rattle.plan_sums.proofs.Totals.{restorable_long, lists_reach, sums_are}
use borrow.Author.Rules.{rules}
use Rattle.network.proofs.Pairs.{both}
use Rattle.plan_sums.proofs.sums_after.Goals as goal

pub joined_to-live-requires : goal.joined_to-live-requires
joined_to-live-requires c =
    let the-args = c.args in
    let pre· = (both c.requires.begun c.requires.closed_len) in
    network_joins the-args.start.net pre·.0.formed _ _ pre·.1 (bits_long _ _ _ (sound_of the-args.start _ pre·.0.made))

pub slice_bounds-sums_over-end-2 : goal.slice_bounds-sums_over-end-2
slice_bounds-sums_over-end-2 c =
    search (rules, restorable_long)

pub slice_bounds-sums_over-end-3 : goal.slice_bounds-sums_over-end-3
slice_bounds-sums_over-end-3 c =
    search (rules, restorable_long)

-- whatever sets of 96 entries are handed over, they reach over the elements
pub sums_over-requires : goal.sums_over-requires
sums_over-requires c =
    let the-args = c.args in
    let pre· = (both c.requires.begun c.requires.closed_len) in
    let live_long = bits_long _ _ _ c.joined_to-live.ensures in
    let restorable-long· = restorable_long the-args.start pre·.0 in
    let fit = pre·.0.formed.elements_fit in
    lists_reach the-args.start.net pre·.0.formed _ _ _ (omega arith) (omega arith) (omega arith)

pub returns : goal.returns
returns c =
    let the-args = c.args in
    let pre· = (both c.requires.begun c.requires.closed_len) in
    c.sums_over.ensures ∙ sums_are the-args.start.net pre·.0.formed the-args.closed.now c.joined_to-live.result the-args.start.restorable (c.joined_to-live.ensures ∙ live_after the-args.start _ pre·.0.made pre·.0.formed the-args.closed.now) (restorable_of the-args.start _ pre·.0.made)
