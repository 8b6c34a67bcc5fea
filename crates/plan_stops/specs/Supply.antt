-- What a sound source has to bear: all of its part. Document 01: "The load at a live element is its own load plus what each closed link leading
-- away from the source carries; a link carries the load at its far element", so at the source it is the sum of the own loads of its part; and
-- "the load at each live element is at most its capacity". Internal: no promise to a user is said by it.
-- Assumes nothing.
use Rattle.std.specs.Prelude.{Bool, true, false, ℕ, ◌≤◌, eqb, leb}
use Rattle.feeding.specs.Below.{sum_to, all_to, gate, imp}
use Rattle.feeding.specs.Loads.{bears?}
use Rattle.feeding.specs.Networks.{Grid, Net}
use Rattle.feeding.specs.Parts.{Config, Sound, label, sound?}
use Rattle.feeding.specs.Restoration.{restorable?}

-- what the elements of the part with the label x ask together, where an element e asks `asks e`
unfoldable pub part_asks : Grid → (asks : ℕ → ℕ) → Config → ℕ → ℕ
part_asks g asks c x = sum_to g.E (λ e. gate (eqb (label g c e) x) (asks e))

-- no part asks more than the capacity of its sound source
pub record Supplied (g : Grid) (asks : ℕ → ℕ) (c : Config) : Type 0 where
  pub bears : (s : ℕ) → Sound g s → part_asks g asks c (label g c s) ≤ g.capacity s

-- what an element asks of its source: its own load. Where it is too small for that itself, `top`, which can be more than any source bears: then
-- its part stays without a source.
unfoldable pub own_ask : Grid → (top : ℕ) → ℕ → ℕ
own_ask g top e = elim (bears? g e (g.load e)) [ true ↦ g.load e | false ↦ top ]

-- ---- what computes

unfoldable pub supplied? : Grid → (asks : ℕ → ℕ) → Config → Bool
supplied? g asks c = all_to g.E (λ s. imp (sound? g s) (leb (part_asks g asks c (label g c s)) (g.capacity s)))

-- what all restorable elements ask, and what all sound sources bear
unfoldable pub demand : Net → (asks : ℕ → ℕ) → ℕ
demand net asks = sum_to net.grid.E (λ e. gate (restorable? net e) (asks e))

unfoldable pub supply : Grid → ℕ
supply g = sum_to g.E (λ s. gate (sound? g s) (g.capacity s))
