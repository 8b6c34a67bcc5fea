-- Network B with link 4 closed: document 02's ★1, `MARGIN 0 0`.
-- Assumes nothing.
use mathlib.Core.Path.{◌≡◌, refl}
use mathlib.Core.List.{[], ◌∷◌}
use lib.IntN.{pos}
use Rattle.feeding.specs.Below.{sum_to}
use Rattle.feeding.specs.Networks.{Grid, grid_of}
use Rattle.feeding.specs.Parts.{closed_in, touches, far, sound?}
use Rattle.feeding.specs.Loads.{leads, element_load, link_load, margin}
use Rattle.feeding_margins.specs.Margins.{spot_at, fold_to, element_stored, link_stored, loads_stored, loads_of, tighter, tightest_to, tightest_in, tightest}

pub network_b : Grid
network_b = grid_of 5 5 (0 ∷ 2 ∷ 1 ∷ 3 ∷ 0 ∷ []) (5 ∷ 9 ∷ 9 ∷ 9 ∷ 3 ∷ []) (1 ∷ 0 ∷ 2 ∷ 0 ∷ 1 ∷ []) (0 ∷ 1 ∷ 2 ∷ 3 ∷ 1 ∷ []) (1 ∷ 2 ∷ 3 ∷ 4 ∷ 3 ∷ [])

pub tried : tightest network_b (closed_in (1 ∷ 0 ∷ 0 ∷ 0 ∷ 1 ∷ [])) ≡ spot_at 0 (pos 0)
unfolding network_b sum_to grid_of touches far sound? leads element_load link_load margin fold_to element_stored link_stored loads_stored loads_of tighter tightest_to tightest_in tightest
tried = refl
