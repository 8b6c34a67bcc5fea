-- What the functions of this crate test, over lists of numbers.
-- Internal: no promise to a user is said by it.
-- Assumes nothing.
use Rattle.std.specs.Prelude.{Bool, not, ◌&&◌, ◌||◌, List, ℕ, ◌<◌, ◌≤◌, eqb, length}
use Rattle.feeding.specs.Below.{any_to, those}
use Rattle.feeding.specs.Networks.{at, is_in}

-- the list reaches over the first n of at most 96 numbers
pub record Reach (xs : List ℕ) (n : ℕ) : Type 0 where
  pub fit : n ≤ 96
  pub long : n ≤ length xs

-- the lists reach over the first n of at most 64 elements, and labels are below 64
pub record PartsReach (label has : List ℕ) (n : ℕ) : Type 0 where
  pub fit : n ≤ 64
  pub label_long : n ≤ length label
  pub has_long : n ≤ length has
  pub label_in : (x : ℕ) → x < n → at label x < 64

-- the lists of ends reach over the first n of at most 96 links, and the set over their ends
pub record EndsReach (from to has : List ℕ) (n : ℕ) : Type 0 where
  pub fit : n ≤ 96
  pub from_long : n ≤ length from
  pub to_long : n ≤ length to
  pub from_in : (l : ℕ) → l < n → at from l < length has
  pub to_in : (l : ℕ) → l < n → at to l < length has

-- the value at x is one of two numbers
unfoldable pub one_of : (values : List ℕ) (one other x : ℕ) → Bool
one_of values one other x = eqb (at values x) one || eqb (at values x) other

-- x is in the one set and not in the other
unfoldable pub but_not : (kept left : List ℕ) → ℕ → Bool
but_not kept left x = is_in kept x && not (is_in left x)

-- one of the first n elements is in the set and has the label of x
unfoldable pub part_has : (label has : List ℕ) (n x : ℕ) → Bool
part_has label has n x = any_to n (λ y. is_in has y && eqb (at label x) (at label y))

-- an end of link l is in the set
unfoldable pub at_either_end : (from to has : List ℕ) → ℕ → Bool
at_either_end from to has l = is_in has (at from l) || is_in has (at to l)

-- the members below n
unfoldable pub members : List ℕ → ℕ → List ℕ
members has n = those n (is_in has)
