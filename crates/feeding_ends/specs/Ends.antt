-- Each element's own links, as a list made once per network: link l has the ends 2l and 2l + 1, and the ends at one element of the links in
-- a set are chained by rising number.
-- Internal: no promise to a user is said by it.
-- Assumes nothing.
use Rattle.std.specs.Prelude.{◌≡◌, Bool, true, false, ◌&&◌, List, ℕ, suc, ◌-◌, ◌*◌, ◌/◌, ◌%◌, ◌<◌, ◌≤◌, eqb, ltb, length}
use Rattle.feeding.specs.Below.{tabulate, lowest_from, gate}
use Rattle.feeding.specs.Networks.{at}
use Rattle.feeding_ends.specs.declared.OwnEnds.{OwnEnds}

-- the lists reach over the first n links, of which there are at most 96, and the ends are two elements
pub record TwoEnds (from to has : List ℕ) (n : ℕ) : Type 0 where
  pub fit : n ≤ 96
  pub from_long : n ≤ length from
  pub to_long : n ≤ length to
  pub has_long : n ≤ length has
  pub from_in : (l : ℕ) → l < n → at from l < 64
  pub to_in : (l : ℕ) → l < n → at to l < 64
  pub differ : (l : ℕ) → l < n → at from l ≡ at to l → ⊥

-- the element at the end j, and the one at the other end of its link, where link l joins a l and b l
unfoldable pub end_at : (a b : ℕ → ℕ) → ℕ → ℕ
end_at a b j = elim (eqb (j % 2) 0) [ true ↦ a (j / 2) | false ↦ b (j / 2) ]

unfoldable pub far_at : (a b : ℕ → ℕ) → ℕ → ℕ
far_at a b j = end_at b a j

-- the end j is one of the first n links', at the element e, and its link is in the set
unfoldable pub own : (a b : ℕ → ℕ) (has : ℕ → Bool) (n e : ℕ) → ℕ → Bool
own a b has n e j = ltb j (2 * n) && (eqb (end_at a b j) e && has (j / 2))

-- the lowest such end from i on; 192 where there is none
unfoldable pub own_end : (a b : ℕ → ℕ) (has : ℕ → Bool) (links e i : ℕ) → ℕ
own_end a b has links e i = lowest_from (192 - i) i (own a b has links e)

unfoldable pub own_ends : (a b : ℕ → ℕ) (has : ℕ → Bool) → ℕ → OwnEnds
own_ends a b has links =
    record {
      head = tabulate 64 (λ e. own_end a b has links e 0);
      next = tabulate 192 (λ j. elim (ltb j (2 * links)) [ true ↦ own_end a b has links (end_at a b j) (suc j) | false ↦ 192 ]);
      far = tabulate 192 (λ j. gate (ltb j (2 * links)) (far_at a b j));
    }
