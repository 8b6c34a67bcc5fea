-- What the walk away from a source answers, by the definitions of `feeding`: the load, where no element on the way is above its capacity
-- and there is room for it.
-- Internal: no promise to a user is said by it.
-- Assumes nothing.
use Rattle.std.specs.Prelude.{Bool, true, false, ◌||◌, ℕ, ◌+◌, ◌/◌, eqb, ltb}
use Rattle.feeding.specs.Networks.{Grid}
use Rattle.feeding.specs.Parts.{Config}
use Rattle.feeding.specs.Loads.{element_load, link_load, element_over, link_over}

-- the answer where an element on the way is above its capacity, or the load above the room; loads within a capacity are lower
abbrev pub overloaded : ℕ
overloaded = 18446744073709551615

-- the load, unless something on the way is above its capacity or the load above the room
unfoldable pub within_or : (over : Bool) (load room : ℕ) → ℕ
within_or over load room = elim (over || ltb room load) [ true ↦ overloaded | false ↦ load ]

-- from e onward, come to over `via`
unfoldable pub within_at : Grid → Config → (depth e via room : ℕ) → ℕ
within_at g c d e via room = within_or (ltb (element_over g c d e via) g.E) (element_load g c d e via) room

-- over the link l, away from e
unfoldable pub link_within : Grid → Config → (depth l e room : ℕ) → ℕ
link_within g c d l e room = within_or (ltb (link_over g c d l e) g.E) (link_load g c d l e) room

-- over the link of the end j, which is at e; nothing where j is no end
unfoldable pub end_within : Grid → Config → (depth j e room : ℕ) → ℕ
end_within g c d j e room = elim (ltb j 192) [ true ↦ link_within g c d (j / 2) e room | false ↦ 0 ]

-- what a walk answers where `before` has been found already
unfoldable pub past : (before walked : ℕ) → ℕ
past before walked = elim (eqb walked overloaded) [ true ↦ overloaded | false ↦ before + walked ]
