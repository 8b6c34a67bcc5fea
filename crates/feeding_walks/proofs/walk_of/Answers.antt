-- `walk_of` makes the record that its definition names.
use mathlib.Core.Path.{refl}
use Rattle.feeding_walks.specs.Walking.{walk_of}
use Rattle.feeding_walks.proofs.walk_of.Goals as goal

pub returns : goal.returns
unfolding walk_of
returns c = refl
