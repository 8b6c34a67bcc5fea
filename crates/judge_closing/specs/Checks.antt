-- What the test of a closing computes over lists of numbers, and what it asks of them.
-- Internal: what the arrays hold; `closes_is` of `judge_examine` says that over the lists of a network it is `closes?` of `judge_safe_steps`.
-- Assumes nothing.
use Rattle.std.specs.Prelude.{◌≡◌, Bool, ◌||◌, List, ℕ, suc, ◌+◌, ◌*◌, ◌<◌, ◌≤◌, ◌^◌, eqb, set}
use Rattle.feeding.specs.Below.{gate}
use Rattle.feeding.specs.Networks.{at}
use Rattle.feeding.specs.Parts.{Config, closed_in}
use Rattle.feeding.specs.Loads.{element_load, within_from?}
use Rattle.feeding_loads.specs.Walks.{WalkLent, grid_of_walk}
use Rattle.feeding_walks.specs.declared.Walk.{Walk}
use Rattle.feeding_part_sums.specs.Sums.{SumLent, sum_grid}
use Rattle.judge_safe_steps.specs.declared.Joining.{Joining}
use Rattle.judge_safe_steps.specs.declared.Joining.TheVariants.{FedBy}
use Rattle.judge_safe_steps.specs.Tests.{joining_of, joined_safe}

-- `sign_at` by the flags of the element x, where it is no target
unfoldable pub sign_of : (flags x : ℕ) → ℕ
sign_of f x = gate (eqb f 1) (suc x) + gate (eqb f 2 || eqb f 3) 128

-- the two ends of the link l, by the far elements
abbrev pub first_end : Walk → ℕ → ℕ
first_end walk l = at walk.own.far (2 * l + 1)

abbrev pub second_end : Walk → ℕ → ℕ
second_end walk l = at walk.own.far (2 * l)

-- the signs with the second end of the link l as the target
abbrev pub targeted : Walk → (sign : List ℕ) (l : ℕ) → List ℕ
targeted walk sign l = set sign (second_end walk l) (at sign (second_end walk l) + 16384)

-- the signs of the part of e
unfoldable pub part_signs : Walk → (sign : List ℕ) → Config → ℕ → ℕ
part_signs walk sign c e = element_load (sum_grid walk sign) c (2 * walk.elements) e walk.links

-- what the parts of the two ends of the link l are found to be; closed[m] is 1 for a closed link
unfoldable pub joining_over : Walk → (closed sign : List ℕ) (l : ℕ) → Joining
joining_over walk closed sign l =
    joining_of (part_signs walk (targeted walk sign l) (closed_in closed) (first_end walk l))
    (part_signs walk (targeted walk sign l) (closed_in closed) (second_end walk l))

-- closing the link l is safe
unfoldable pub closes_over : Walk → (closed sign : List ℕ) (l : ℕ) → Bool
closes_over walk closed sign l =
    joined_safe (within_from? (grid_of_walk walk) (closed_in (set closed l 1))) (joining_over walk closed sign l)

-- the lists that `joining_at` is lent, for the link l
pub record Joinable (walk : Walk) (closed sign : List ℕ) (l : ℕ) : Type 0 where
  pub few : walk.elements ≤ 64
  pub below : l < 96
  pub first_in : first_end walk l < walk.elements
  pub second_in : second_end walk l < walk.elements
  pub sign_fits : at sign (second_end walk l) + 16384 < 2 ^ 32
  pub before : SumLent walk closed (targeted walk sign l)
  pub first_fits : part_signs walk (targeted walk sign l) (closed_in closed) (first_end walk l) < 2 ^ 64
  pub second_fits : part_signs walk (targeted walk sign l) (closed_in closed) (second_end walk l) < 2 ^ 64

-- and `closing_safe`
pub record Closable (walk : Walk) (closed sign : List ℕ) (l : ℕ) : Type 0 where
  pub joinable : Joinable walk closed sign l
  pub after : WalkLent walk (set closed l 1)
  -- a source from which loads are asked is an element
  pub fed_in : (s : ℕ) → joining_over walk closed sign l ≡ FedBy s → s < walk.elements
