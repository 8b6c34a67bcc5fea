-- The lists of a walk that adds up a number of each element, the grid that it goes over, and what it finds over a link.
-- Internal: what the arrays hold.
-- Assumes nothing.
use Rattle.std.specs.Prelude.{true, false, List, ℕ, ◌/◌, ◌≤◌, ltb}
use Rattle.feeding.specs.Networks.{Grid}
use Rattle.feeding.specs.Parts.{closed_in}
use Rattle.feeding.specs.Loads.{link_load}
use Rattle.feeding_loads.specs.Walks.{walk_grid, near_at, Lent}
use Rattle.feeding_walks.specs.declared.Walk.{Walk}

-- the numbers as own loads; no capacity enters the walk
abbrev pub sum_grid : Walk → (number : List ℕ) → Grid
sum_grid walk number = walk_grid walk.elements walk.links walk.own.far number number

-- what lies ahead of the link of the end j, away from that end; nothing where j is no end
unfoldable pub end_sum : Walk → (closed number : List ℕ) (depth j : ℕ) → ℕ
end_sum walk closed number d j = elim (ltb j 192) [ true ↦ link_load (sum_grid walk number) (closed_in closed) d (j / 2) (near_at walk.own.far j) | false ↦ 0 ]

-- the chains of ends skip no end of a closed link
pub record SumLent (walk : Walk) (closed number : List ℕ) : Type 0 where
  pub few : walk.elements ≤ 64
  pub lent : Lent walk.own.head walk.own.next walk.own.far closed number number walk.elements walk.links
