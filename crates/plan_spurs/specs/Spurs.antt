-- A spur: an element that is no sound source and hangs by one link alone, which is closed whatever the set of switches. What it adds to the load
-- of the element that it hangs from is the same for every set.
-- Internal: no promise to a user is said by it.
-- Assumes nothing.
use Rattle.std.specs.Prelude.{Bool, true, false, not, ◌&&◌, List, ℕ, zero, suc, ◌+◌, ◌/◌, ◌<◌, ltb, set}
use Rattle.feeding.specs.Loads.{borne?}
use Rattle.feeding.specs.Networks.{at, is_in}
use Rattle.feeding_ends.specs.declared.OwnEnds.{OwnEnds}
use Rattle.plan_spurs.specs.declared.Lumped.{Lumped}

-- the far elements are numbers of elements
abbrev pub FarIn : List ℕ → Type 0
FarIn far = (j : ℕ) → j < 192 → at far j < 64

-- j is the only chained end at e, and its link is in `base`
unfoldable pub spur? : (next sound base : List ℕ) (e j : ℕ) → Bool
spur? next sound base e j = ltb j 192 && (not (ltb (at next j) 192) && (not (is_in sound e) && is_in base (j / 2)))

-- the end by which e hangs; 192 where it is no spur
unfoldable pub hangs_by : (head next sound base : List ℕ) (e : ℕ) → ℕ
hangs_by head next sound base e = elim (spur? next sound base e (at head e)) [ true ↦ at head e | false ↦ 192 ]

-- a spur with load x and capacity y hangs from an element with load u and capacity v, and neither is overloaded by these two loads
unfoldable pub bears_both : (x y u v : ℕ) → Bool
bears_both x y u v = borne? y x && borne? v (u + x)

-- e, which hangs by the end j from the element `to`, lumped with it
unfoldable pub lumped_by : (capacity : List ℕ) (e j to : ℕ) → Lumped → Lumped
lumped_by capacity e j to s =
    elim (ltb j 192 && bears_both (at s.load e) (at capacity e) (at s.load to) (at capacity to)) [
      | true ↦ record { base = set s.base (j / 2) 0; load = set s.load to (at s.load to + at s.load e) }
      | false ↦ s
    ]

unfoldable pub lumped_at : OwnEnds → (sound capacity : List ℕ) (e : ℕ) → Lumped → Lumped
lumped_at own sound capacity e s =
    let j = hangs_by own.head own.next sound s.base e in
    lumped_by capacity e j (at own.far j) s

-- the first n elements in turn, where they are spurs that overload nothing by themselves
unfoldable pub lumped_to : OwnEnds → (sound capacity : List ℕ) → Lumped → ℕ → Lumped
lumped_to own sound capacity s zero = s
lumped_to own sound capacity s (suc n) = lumped_at own sound capacity n (lumped_to own sound capacity s n)
