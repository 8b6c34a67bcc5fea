-- `closable_ends` chains the ends of the links in `base` and of the switches, which are all closed where no set is turned over from all closed.
use mathlib.Core.Path.{ap, ◌∙◌}
use mathlib.Core.List.{List}
use Prim.Native.Nat.{ℕ}
use lib.ListN.{length}
use Rattle.feeding.specs.Networks.{at, is_in}
use Rattle.feeding_ends.specs.Ends.{own_ends}
use Rattle.plan_switches.proofs.States.{length_states}
use Rattle.plan_lumping.specs.Layers.{closable_in, closable_ends}
use Rattle.plan_lumping.proofs.LayerByLayer.{ends_of}
use Rattle.network.proofs.Pairs.{both}
use Rattle.plan_lumping.proofs.closable_ends.Goals as goal

pub with_set-closable-requires : goal.with_set-closable-requires
with_set-closable-requires c =
    c.requires.switch_reach.0

pub own_ends-requires : goal.own_ends-requires
own_ends-requires c =
    let pre· = (both c.requires.two_ends c.requires.switch_reach) in
    ends_of pre·.0 (ap length c.with_set-closable.ensures ∙ length_states _ _ _ _ _ ∙ pre·.1.1)

pub returns : goal.returns
unfolding closable_in closable_ends
returns c =
    let the-args = c.args in
    c.own_ends.ensures ∙ ap (λ (xs : List ℕ). own_ends (at the-args.from.now) (at the-args.to.now) (is_in xs) the-args.links) c.with_set-closable.ensures
