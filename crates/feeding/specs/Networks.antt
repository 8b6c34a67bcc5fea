-- The network as these definitions see it: elements and links by number, and functions that give what the file states of each.
-- Assumes nothing.
use Rattle.std.specs.Prelude.{◌≡◌, Bool, ◌||◌, List, ℕ, ◌<◌, eqb, get_or}
use Rattle.network.specs.declared.Network.{Network}

-- the elements, and which two each link joins: E elements, K links
pub record Grid : Type 0 where
  pub E : ℕ
  pub K : ℕ
  pub load : ℕ → ℕ
  pub capacity : ℕ → ℕ
  pub source : ℕ → Bool
  pub faulty : ℕ → Bool
  pub end_a : ℕ → ℕ
  pub end_b : ℕ → ℕ

-- and the links' forms at the start, with the switches' costs, and document 02's guard of each link: a number that is no link, K or more, where it has none
pub record Net : Type 0 where
  pub grid : Grid
  pub fixed : ℕ → Bool
  pub start_closed : ℕ → Bool
  pub cost : ℕ → ℕ
  pub guard : ℕ → ℕ

-- "two different elements", numbered below E
pub record Formed (g : Grid) : Type 0 where
  pub end_a_lt : (l : ℕ) → l < g.K → g.end_a l < g.E
  pub end_b_lt : (l : ℕ) → l < g.K → g.end_b l < g.E
  pub differ : (l : ℕ) → l < g.K → g.end_a l ≡ g.end_b l → ⊥

-- the grid with other capacities
abbrev pub with_capacity : Grid → (ℕ → ℕ) → Grid
with_capacity g capacity =
    record {
      E = g.E;
      K = g.K;
      load = g.load;
      capacity = capacity;
      source = g.source;
      faulty = g.faulty;
      end_a = g.end_a;
      end_b = g.end_b;
    }

-- the network with other guards
abbrev pub with_guards : Net → (ℕ → ℕ) → Net
with_guards net guard =
    record {
      grid = net.grid;
      fixed = net.fixed;
      start_closed = net.start_closed;
      cost = net.cost;
      guard = guard;
    }

-- the entry of a list at a number
abbrev pub at : List ℕ → ℕ → ℕ
at xs i = get_or xs i 0

-- a set of numbers held as a list, 1 for a member
abbrev pub is_in : List ℕ → ℕ → Bool
is_in xs i = eqb (at xs i) 1

-- "flags (1 = source, 2 = faulty, 3 = both, 0 = neither)"
abbrev pub is_source : ℕ → Bool
is_source f = eqb f 1 || eqb f 3

abbrev pub is_faulty : ℕ → Bool
is_faulty f = eqb f 2 || eqb f 3

-- "form (0 fixed, 1 open switch, 2 closed switch)"
abbrev pub is_fixed : ℕ → Bool
is_fixed f = eqb f 0

abbrev pub is_closed : ℕ → Bool
is_closed f = eqb f 0 || eqb f 2

unfoldable pub grid_of : (E K : ℕ) (load capacity flags from to : List ℕ) → Grid
grid_of E K load capacity flags from to =
    record {
      E = E;
      K = K;
      load = at load;
      capacity = at capacity;
      source = λ e. is_source (at flags e);
      faulty = λ e. is_faulty (at flags e);
      end_a = at from;
      end_b = at to;
    }

-- the view of the struct
unfoldable pub net_of : Network → Net
net_of n =
    record {
      grid = grid_of n.elements n.links n.load n.capacity n.flags n.from n.to;
      fixed = λ l. is_fixed (at n.form l);
      start_closed = λ l. is_closed (at n.form l);
      cost = at n.cost;
      guard = at n.guard;
    }
