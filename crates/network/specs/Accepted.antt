-- Documents 01 and 02, refusals 5 to 9 and 20: what they promise of a network that is not refused.
-- Internal: no promise to a user is said by it.
-- Assumes nothing.
use Rattle.std.specs.Prelude.{◌≡◌, Bool, true, not, ℕ, ◌^◌, ◌<◌, ◌≤◌, eqb, length, get_or}
use Rattle.network.specs.declared.Network.{Network}
use Rattle.network.specs.Refusals.{pick}
use Rattle.network.specs.Networks.{no_guard}

-- "cost (0 for fixed, 1 to 65,535 for a switch)"
abbrev pub suits : ℕ → ℕ → Bool
suits form cost = pick (eqb form 0) (eqb cost 0) (not (eqb cost 0))

-- a guarded link l is a switch, and its guard g an earlier one
pub record GuardSuits (n : Network) (l g : ℕ) : Type 0 where
  pub switch : get_or n.form l 0 ≡ 0 → ⊥
  pub earlier : g < l
  pub guards : get_or n.form g 0 ≡ 0 → ⊥

-- Rules 5 to 9: "E or K outside its range", "flags exceed 3", "an end of E or more, or two equal ends", "form exceeds 2", "cost
-- doesn't suit its form"; rules 8 and 20: a guarded link is a switch, and its guard "an earlier switch"; a load and a capacity are below 2 ^ 32, a cost is of two bytes
pub record WellFormed (n : Network) : Type 0 where
  pub some : 1 ≤ n.elements
  pub elements_fit : n.elements ≤ 64
  pub links_fit : n.links ≤ 96
  pub load_long : length n.load ≡ 64
  pub capacity_long : length n.capacity ≡ 64
  pub flags_long : length n.flags ≡ 64
  pub from_long : length n.from ≡ 96
  pub to_long : length n.to ≡ 96
  pub form_long : length n.form ≡ 96
  pub cost_long : length n.cost ≡ 96
  pub guard_long : length n.guard ≡ 96
  pub load_in_lem : (i : ℕ) → i < n.elements → get_or n.load i 0 < 2 ^ 32
  pub capacity_in : (i : ℕ) → i < n.elements → get_or n.capacity i 0 < 2 ^ 32
  pub flags_in : (i : ℕ) → i < n.elements → get_or n.flags i 0 ≤ 3
  pub from_in : (l : ℕ) → l < n.links → get_or n.from l 0 < n.elements
  pub to_in : (l : ℕ) → l < n.links → get_or n.to l 0 < n.elements
  pub differ : (l : ℕ) → l < n.links → get_or n.from l 0 ≡ get_or n.to l 0 → ⊥
  pub form_in : (l : ℕ) → l < n.links → get_or n.form l 0 ≤ 2
  pub cost_in_lem : (l : ℕ) → l < n.links → get_or n.cost l 0 < 65536
  pub guard_in : (l : ℕ) → l < n.links → get_or n.guard l 0 ≤ no_guard
  pub guarded : (l : ℕ) → l < n.links → get_or n.guard l 0 < no_guard → GuardSuits n l (get_or n.guard l 0)
  pub suited : (l : ℕ) → l < n.links → suits (get_or n.form l 0) (get_or n.cost l 0) ≡ true
