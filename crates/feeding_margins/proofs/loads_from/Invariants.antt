-- `loads_from` stores by a walk from each marked element in turn: the loop keeps what those before s have stored.
use mathlib.Core.Path.{◌≡◌}
use lib.ListN.{replicate}
use Rattle.feeding.specs.Parts.{closed_in}
use Rattle.feeding_margins.specs.Margins.{unfed}
use Rattle.feeding_margins.proofs.Sources.{stored_to}
use Rattle.feeding_margins.proofs.loads_from.Given as goal

abbrev pub invariant-loop-s : goal.invariant-loop-s
invariant-loop-s l =
    l.loads ≡ stored_to l.lists.elements l.lists.links l.lists.far.now l.lists.load.now (closed_in l.lists.closed.now) l.marked l.s (replicate 64 unfed)
