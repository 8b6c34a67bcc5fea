-- The elements that closed links, whose states are lent as numbers, join to a set.
-- Internal: no promise to a user is said by it.
-- Assumes nothing.
use Rattle.std.specs.Prelude.{Bool, List, ℕ, ◌<◌, ◌≤◌, length}
use Rattle.feeding.specs.Networks.{at}
use Rattle.feeding_parts.specs.Labelling.{parts_of}
use Rattle.feeding_sets.specs.Sets.{part_has}

-- the lists reach over the first E elements and K links, and the ends are elements
pub record JoinsReach (from to closed has : List ℕ) (E K : ℕ) : Type 0 where
  pub elements_fit : E ≤ 64
  pub links_fit : K ≤ 96
  pub from_long : K ≤ length from
  pub to_long : K ≤ length to
  pub closed_long : K ≤ length closed
  pub has_long : E ≤ length has
  pub from_in : (l : ℕ) → l < K → at from l < E
  pub to_in : (l : ℕ) → l < K → at to l < E

-- the part of an element has a member of the set
unfoldable pub joined_to : (from to closed has : List ℕ) (E K : ℕ) → ℕ → Bool
joined_to from to closed has E K e = part_has (parts_of from to closed K).label has E e
