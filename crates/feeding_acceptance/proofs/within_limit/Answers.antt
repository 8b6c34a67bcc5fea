-- Rule 18: the operable switches are counted, and the limit decides.
use mathlib.Core.Path.{ap, sym, ◌∙◌}
use native.Mathlib.Omega.{arith}
use lib.ListN.{length}
use Rattle.feeding_restoration.proofs.Reach.{bits_long, bits_reach}
use Rattle.feeding_start.proofs.Operable.{operables_are}
use Rattle.feeding_start.proofs.Starts.{operable_of}
use Rattle.feeding_acceptance.proofs.Reading.{over_limit, within}
use Rattle.network.proofs.Pairs.{both}
use Rattle.feeding_acceptance.proofs.within_limit.Goals as goal

pub slice_bounds-count_of-end : goal.slice_bounds-count_of-end
slice_bounds-count_of-end c =
    sym (bits_long _ _ _ (operable_of c.args.start _ c.requires.start_value))

pub count_of-count-requires : goal.count_of-count-requires
count_of-count-requires c =
    let pre· = (both c.requires.well_formed c.requires.start_value) in
    bits_reach _ _ _ _ pre·.0.links_fit (operable_of c.args.start _ pre·.1)

pub returns-then-limit-count : goal.returns-then-limit-count
returns-then-limit-count c =
    let the-args = c.args in
    let pre· = (both c.requires.well_formed c.requires.start_value) in
    over_limit the-args.start pre·.1 the-args.limit c.count_of-count.result (c.count_of-count.ensures ∙ ap length (operables_are the-args.start.net pre·.0 _ (operable_of the-args.start _ pre·.1))) (omega (arith, c.if-limit-count))

pub returns : goal.returns
returns c =
    let the-args = c.args in
    let pre· = (both c.requires.well_formed c.requires.start_value) in
    within the-args.start pre·.1 the-args.limit c.count_of-count.result (c.count_of-count.ensures ∙ ap length (operables_are the-args.start.net pre·.0 _ (operable_of the-args.start _ pre·.1))) (omega (arith, c.if-limit-count))
