-- `feeding_parts::root` meets its contract: the entry that the walk stands at keeps the root of x, since an element and its entry have one root.
use mathlib.Core.Path.{◌≡◌}
use Prim.Native.Nat.{◌<◌}
use lib.ListN.{length}
use Rattle.feeding.specs.Networks.{at as entry}
use Rattle.feeding_parts.specs.Labelling.{root_of}
use Rattle.feeding_parts.proofs.root.Given as goal

abbrev pub invariant-loop-up : goal.invariant-loop-up
invariant-loop-up l = (l.at < length l.parent) × (l.up ≡ entry l.parent l.at) × (root_of l.parent l.at ≡ root_of l.parent l.x)

abbrev pub decreases-loop-up : goal.decreases-loop-up
decreases-loop-up l = l.at
