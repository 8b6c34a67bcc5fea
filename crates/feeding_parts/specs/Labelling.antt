-- What the functions of this crate leave: labels as `feeding` defines them, the set of loops, and the highest member of a set in each part.
-- Internal: no promise to a user is said by it.
-- Assumes nothing.
use Rattle.std.specs.Prelude.{true, false, ◌&&◌, List, ℕ, zero, suc, ◌<◌, ◌≤◌, eqb, length, set, replicate}
use Rattle.feeding.specs.Below.{tabulate, highest}
use Rattle.feeding.specs.Networks.{at}
use Rattle.feeding.specs.Parts.{Config, closed_in, labels}
use Rattle.feeding_parts.specs.declared.Parts.{Parts}

-- no entry is above its own number
abbrev pub Falls : List ℕ → Type 0
Falls p = (x : ℕ) → x < length p → at p x ≤ x

-- the first n entries are below m
abbrev pub AllBelow : ℕ → List ℕ → ℕ → Type 0
AllBelow m xs n = (x : ℕ) → x < n → at xs x < m

-- from x by the entries down to one that is its own, in at most n steps
unfoldable pub root_from : ℕ → List ℕ → ℕ → ℕ
root_from zero p x = x
root_from (suc n) p x = elim (eqb (at p x) x) [ true ↦ x | false ↦ root_from n p (at p x) ]

-- where the entries fall, x steps are enough
unfoldable pub root_of : List ℕ → ℕ → ℕ
root_of p x = root_from x p x

unfoldable pub roots_of : List ℕ → List ℕ
roots_of p = tabulate 64 (root_of p)

-- the lists reach over the first n links, whose ends are below m
pub record EndsBelow (m : ℕ) (from to closed : List ℕ) (n : ℕ) : Type 0 where
  pub from_long : n ≤ length from
  pub to_long : n ≤ length to
  pub closed_long : n ≤ length closed
  pub from_in : (l : ℕ) → l < n → at from l < m
  pub to_in : (l : ℕ) → l < n → at to l < m

-- 1 at the first end of each of the first n links that closes a loop
unfoldable pub loop_set : (m : ℕ) (a b : ℕ → ℕ) → Config → ℕ → List ℕ
loop_set m a b c zero = replicate m 0
loop_set m a b c (suc n) = elim (c n && eqb (at (labels m a b c n) (a n)) (at (labels m a b c n) (b n))) [
  | true ↦ set (loop_set m a b c n) (a n) 1
  | false ↦ loop_set m a b c n
]

unfoldable pub parts_of : (from to closed : List ℕ) → ℕ → Parts
parts_of from to closed n =
    record {
      label = labels 64 (at from) (at to) (closed_in closed) n;
      looped = loop_set 64 (at from) (at to) (closed_in closed) n;
    }

-- for each label k the highest of the first n elements that is in the set and has it, or 64
unfoldable pub last_of_part : (label has : List ℕ) → ℕ → List ℕ
last_of_part label has n = tabulate 64 (λ k. highest n 64 (λ x. eqb (at has x) 1 && eqb (at label x) k))
