-- A refusal as an answer, and what the lists that are lent for a check must hold.
-- Internal: no promise to a user is said by it.
-- Assumes nothing.
use Rattle.std.specs.Prelude.{◌≡◌, List, ℕ, ◌^◌, ◌<◌, ◌≤◌, length, Option, Some, None, Result, Ok, Err}
use Rattle.network.specs.declared.refusal.Refusal.{Refusal}
use Rattle.network.specs.declared.refusal.Rule.{Rule}
use Rattle.feeding.specs.Networks.{Formed, grid_of, at}
use Rattle.feeding_loads.specs.Walks.{ends_a, ends_b, Lent}

abbrev pub refused : Rule → ℕ → Result Unit Refusal
refused r p = Err (record { rule = r; place = p })

-- what a rule answers by the place that breaks it
unfoldable pub unbroken : Rule → Option ℕ → Result Unit Refusal
unbroken r (Some p) = refused r p
unbroken r None = Ok tt

-- the lists hold a formed grid within the limits, its loads below 2 ^ 32, and chained ends of its links that skip no closed one
pub record Checked (load capacity flags from to head next far closed : List ℕ) (E K : ℕ) : Type 0 where
  pub elements_fit : E ≤ 64
  pub flags_long : E ≤ length flags
  pub from_long : K ≤ length from
  pub to_long : K ≤ length to
  pub load_in_lem : (e : ℕ) → e < E → at load e < 2 ^ 32
  pub formed : Formed (grid_of E K load capacity flags from to)
  pub lent : Lent head next far closed load capacity E K
  pub ends_a_lem : (l : ℕ) → l < K → ends_a far l ≡ at from l
  pub ends_b_lem : (l : ℕ) → l < K → ends_b far l ≡ at to l
