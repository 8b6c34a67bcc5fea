-- What the lines behind a plan's steps say of a configuration: document 01's loads, and item 5's tightest spot.
-- Internal: no promise to a user is said by it.
-- Assumes nothing.
use Rattle.feeding.specs.Networks.{Net}
use Rattle.feeding.specs.Parts.{Config}
use Rattle.feeding_margins.specs.Margins.{Spotted, tightest}
use Rattle.plan_sums.specs.Sums.{LoadsIn, sums_after}
use Rattle.plan_tail.specs.declared.Tail.{Tail}

-- ---- what the paper asks for

-- "Planner output ends with MARGIN element number for the live element with the least margin in the last configuration .., or MARGIN - if none is live."
pub record TailIn (net : Net) (c : Config) (t : Tail) : Type 0 where
  pub loads : LoadsIn net c t.sums
  pub spot : Spotted net.grid c t.spot

-- ---- what computes

unfoldable pub tail_after : Net → Config → Tail
tail_after net c = record { sums = sums_after net c; spot = tightest net.grid c }
