-- What the walk away from a source answers, by the definitions of `feeding`, over the grid that the lent lists hold.
-- Internal: no promise to a user is said by it.
-- Assumes nothing.
use Rattle.std.specs.Prelude.{◌≡◌, true, false, List, ℕ, suc, ◌+◌, ◌*◌, ◌<◌, ◌≤◌, ◌^◌, min, eqb, length}
use Rattle.feeding.specs.Below.{least_to}
use Rattle.feeding.specs.Networks.{Grid, at}
use Rattle.feeding.specs.Parts.{Config, closed_in}
use Rattle.feeding.specs.Loads.{borne?, element_load, link_load, element_over, link_over}
use Rattle.feeding_ends.specs.Ends.{end_at, own}
use Rattle.feeding_walks.specs.declared.Walk.{Walk}
use Rattle.feeding_loads.specs.declared.Carried.{Carried}
use Rattle.feeding_loads.specs.declared.Lists.{Lists}

-- the two ends of a link by the far elements of its ends
abbrev pub ends_a : List ℕ → ℕ → ℕ
ends_a far l = at far (2 * l + 1)

abbrev pub ends_b : List ℕ → ℕ → ℕ
ends_b far l = at far (2 * l)

-- the element at the end j
abbrev pub near_at : List ℕ → ℕ → ℕ
near_at far j = end_at (ends_a far) (ends_b far) j

-- loads, capacities and ends; sources and faults do not enter a walk
unfoldable pub walk_grid : (E K : ℕ) (far load capacity : List ℕ) → Grid
walk_grid E K far load capacity =
    record {
      E = E;
      K = K;
      load = at load;
      capacity = at capacity;
      source = λ e. false;
      faulty = λ e. false;
      end_a = ends_a far;
      end_b = ends_b far;
    }

-- from the end i on, j is an end at e or 192, and between them the ends at e are of links that aren't closed
pub record Skips (a b : ℕ → ℕ) (closed : Config) (K e i j : ℕ) : Type 0 where
  pub at_least : i ≤ j
  pub at_most : j ≤ 192
  pub below : j < 192 → j < 2 * K
  pub near : j < 192 → end_at a b j ≡ e
  pub none : (m : ℕ) → i ≤ m → m < j → own a b closed K e m ≡ false

-- the lists reach over the first E elements and K links, and the chains of ends skip no end of a closed link
pub record Lent (head next far closed load capacity : List ℕ) (E K : ℕ) : Type 0 where
  pub fit : K ≤ 96
  pub head_long : E ≤ length head
  pub next_long : 2 * K ≤ length next
  pub far_long : 2 * K ≤ length far
  pub closed_long : K ≤ length closed
  pub load_long : E ≤ length load
  pub capacity_long : E ≤ length capacity
  pub far_in : (j : ℕ) → j < 2 * K → at far j < E
  pub differ : (l : ℕ) → l < K → ends_a far l ≡ ends_b far l → ⊥
  pub heads : (e : ℕ) → e < E → Skips (ends_a far) (ends_b far) (closed_in closed) K e 0 (at head e)
  pub nexts : (j : ℕ) → j < 2 * K → Skips (ends_a far) (ends_b far) (closed_in closed) K (near_at far j) (suc j) (at next j)

-- the same of the lists that are viewed, with these capacities, and the grid that they hold
abbrev pub ListsLent : Lists → (capacity : List ℕ) → Type 0
ListsLent lists capacity = Lent lists.head.now lists.next.now lists.far.now lists.closed.now lists.load.now capacity lists.elements lists.links

abbrev pub lists_grid : Lists → (capacity : List ℕ) → Grid
lists_grid lists capacity = walk_grid lists.elements lists.links lists.far.now lists.load.now capacity

-- the same of what is made once per network, in these states
abbrev pub WalkLent : Walk → (closed : List ℕ) → Type 0
WalkLent walk closed = Lent walk.own.head walk.own.next walk.own.far closed walk.load walk.capacity walk.elements walk.links

abbrev pub grid_of_walk : Walk → Grid
grid_of_walk walk = walk_grid walk.elements walk.links walk.own.far walk.load walk.capacity

-- the lower of `over` and e, where the margin of e is negative
unfoldable pub lower_over : (e load capacity over : ℕ) → ℕ
lower_over e load capacity over = elim (borne? capacity load) [ true ↦ over | false ↦ min e over ]

unfoldable pub element_carried : Grid → Config → (depth e via : ℕ) → Carried
element_carried g c d e via = record { load = element_load g c d e via; over = element_over g c d e via }

unfoldable pub link_carried : Grid → Config → (depth l e : ℕ) → Carried
link_carried g c d l e = record { load = link_load g c d l e; over = link_over g c d l e }

-- the load at each member of the set is below 2 ^ 63
abbrev pub Carries : Grid → Config → (sound : List ℕ) → Type 0
Carries g c sound = (s : ℕ) → s < g.E → at sound s ≡ 1 → element_load g c (2 * g.E) s g.K < 2 ^ 63

-- the lowest overloaded element over the walks from the members of the set
unfoldable pub over_place : Grid → Config → (sound : List ℕ) → ℕ
over_place g c sound = least_to g.E g.E (λ s. elim (eqb (at sound s) 1) [ true ↦ element_over g c (2 * g.E) s g.K | false ↦ g.E ])
