-- `tail_after` meets its contract: the sums and the spot of a configuration.
use Rattle.feeding.specs.Networks.{net_of}
use Rattle.feeding.specs.Parts.{closed_in}
use Rattle.feeding_start.proofs.Starts.{own_of, sound_of}
use Rattle.plan_tail.proofs.Tails.{tail_is}
use Rattle.network.proofs.Pairs.{both}
use Rattle.plan_tail.proofs.tail_after.Goals as goal

pub tightest_spot-spot-requires : goal.tightest_spot-spot-requires
tightest_spot-spot-requires c =
    let pre· = (both c.requires.begun (both c.requires.closed_len c.requires.safe)) in
    let the-args = c.args in
    record { well_formed = pre·.0.formed; own_value = own_of the-args.start _ pre·.0.made; sound_value = sound_of the-args.start _ pre·.0.made; closed_len = pre·.1.0; safe = pre·.1.1 }

pub returns : goal.returns
returns c =
    let the-args = c.args in
    tail_is (net_of the-args.start.net) (closed_in the-args.closed.now) _ _ c.sums_after-sums.ensures c.tightest_spot-spot.ensures.value
