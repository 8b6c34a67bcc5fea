-- The places of rules 14 to 16 by labels and sets, and what the functions ask of the lists.
-- Internal: no promise to a user is said by it.
-- Assumes nothing.
use Rattle.std.specs.Prelude.{Bool, true, false, not, ◌&&◌, List, ℕ, ◌<◌, ◌≤◌, eqb, ltb, length}
use Rattle.feeding.specs.Below.{least_to}
use Rattle.feeding.specs.Networks.{at, is_in}

-- the lists reach over the first n elements
pub record LoopsReach (label looped : List ℕ) (n : ℕ) : Type 0 where
  pub label_long : n ≤ length label
  pub looped_long : n ≤ length looped

-- the least label of a member of the set, n where it has none
unfoldable pub least_looped : (label looped : List ℕ) → ℕ → ℕ
least_looped label looped n = least_to n n (λ x. elim (is_in looped x) [ true ↦ at label x | false ↦ n ])

-- and the labels are numbers of the list `last`
pub record LastReach (label has last : List ℕ) (n : ℕ) : Type 0 where
  pub label_long : n ≤ length label
  pub has_long : n ≤ length has
  pub label_in : (x : ℕ) → x < n → at label x < length last

-- x is in the set, and another is the last member of its part
unfoldable pub not_last : (label sound last : List ℕ) → ℕ → Bool
not_last label sound last x = is_in sound x && not (eqb (at last (at label x)) x)

-- x is in the set, and its part has a last member of the other set
unfoldable pub with_last : (label faulty last : List ℕ) → ℕ → Bool
with_last label faulty last x = is_in faulty x && ltb (at last (at label x)) 64
