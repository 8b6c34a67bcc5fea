-- What a part of a configuration holds, as a number, and what two parts joined hold. Internal: no promise to a user is said by it.
-- Assumes nothing.
use Rattle.std.specs.Prelude.{Bool, not, ◌&&◌, ◌||◌, ℕ, ◌+◌, ◌/◌, ◌%◌, eqb}
use Rattle.feeding.specs.Below.{gate}

-- what a part holds, as a number: 1 for a sound source, 2 for a faulty element, 4 for a restorable one
unfoldable pub holding : (source fault need : Bool) → ℕ
holding source fault need = gate source 1 + gate fault 2 + gate need 4

abbrev pub has_source : ℕ → Bool
has_source h = eqb (h % 2) 1

abbrev pub has_fault : ℕ → Bool
has_fault h = eqb (h / 2 % 2) 1

abbrev pub has_need : ℕ → Bool
has_need h = eqb (h / 4 % 2) 1

-- the part waits for a source
abbrev pub waits_for : ℕ → Bool
waits_for h = has_need h && not (has_source h)

-- two parts that no safe configuration joins
unfoldable pub clash : ℕ → ℕ → Bool
clash x y = (has_source x && (has_source y || has_fault y)) || (has_source y && has_fault x)

-- what the two hold together
unfoldable pub together : ℕ → ℕ → ℕ
together x y = holding (has_source x || has_source y) (has_fault x || has_fault y) (has_need x || has_need y)

-- joined, one part fewer waits
unfoldable pub serves : ℕ → ℕ → Bool
serves x y = (waits_for x && (waits_for y || has_source y)) || (waits_for y && has_source x)
