-- What `seek_candidates` tries, and what it starts from. Internal: what the arrays hold.
-- Assumes nothing.
use Rattle.std.specs.Prelude.{◌≡◌, Bool, not, ◌&&◌, List, ℕ, ◌<◌, ◌≤◌, ltb, length}
use Rattle.network.specs.declared.Network.{Network}
use Rattle.feeding.specs.Below.{bits}
use Rattle.feeding.specs.Networks.{Net, net_of, at, is_in}
use Rattle.feeding.specs.Parts.{Config, closed_in}
use Rattle.feeding.specs.Plans.{flip}
use Rattle.feeding.specs.Restoration.{operables_by}
use Rattle.feeding_loads.specs.Walks.{over_place, WalkLent, grid_of_walk}
use Rattle.feeding_walks.specs.declared.Walk.{Walk}
use Rattle.feeding_sets.specs.Sets.{but_not}
use Rattle.feeding_start.specs.declared.Start.{Start}
use Rattle.plan_problem.specs.Sets.{passing, sets_from, set_in}
use Rattle.plan_stops.specs.Candidates.{candidate?, opened_by}
use Rattle.plan_stops.proofs.Carried.{CarriedParts}
use Rattle.plan_switches.specs.declared.Switches.{Switches}
use Rattle.plan_switches.specs.Switches.{with_set}
use Rattle.plan_stops.specs.Supply.{own_ask, supplied?}
use Rattle.plan_stops.proofs.Weighed.{Weighed}
use Rattle.plan_supply.specs.Supply.{Light}
use Rattle.plan_candidates.specs.declared.Origin.{Origin}

-- what an element asks of its source: its own load, or 2 ^ 32, which no source bears, where it is too small for that
abbrev pub asks_of : Net → ℕ → ℕ
asks_of net = own_ask net.grid 4294967296

-- the set that a number writes is a candidate, and every source bears its part in its last configuration; sets are of the switches that pass a test
unfoldable pub supplied_candidate? : Net → (ℕ → Bool) → ℕ → Bool
supplied_candidate? net op s =
    candidate? net (set_in (operables_by net op) s) && supplied? net.grid (asks_of net) (flip net.start_closed (set_in (operables_by net op) s))

-- all of these, in the set order
unfoldable pub candidates_of : Net → (ℕ → Bool) → List ℕ
candidates_of net op = passing (supplied_candidate? net op) (sets_from (length (operables_by net op)) 0)

-- ---- as arrays

-- the links that are closed at the start, without the operable switches
unfoldable pub opened_in : Start → List ℕ
opened_in s = bits 96 s.net.links (but_not s.closed s.operable)

-- the configuration that they are
abbrev pub based_on : Start → Config
based_on s = opened_by (net_of s.net) (is_in s.operable)

-- the loads stay within capacity in the states that the set s leaves of `left`
unfoldable pub fitting_in : Start → Switches → (left : List ℕ) → Walk → ℕ → Bool
fitting_in start sw left walk s =
    not (ltb (over_place (grid_of_walk walk) (closed_in (with_set (at sw.link) (at sw.closed) sw.count s left)) start.sound) walk.elements)

-- every switch is open in `left`, and the walk, over as many elements and links, serves the states that any set leaves of it
pub record Walked (n : Network) (sw : Switches) (left : List ℕ) (walk : Walk) : Type 0 where
  pub long : length left ≡ 96
  pub opened : (i : ℕ) → i < sw.count → at left (at sw.link i) ≡ 0
  pub lent : (s : ℕ) → WalkLent walk (with_set (at sw.link) (at sw.closed) sw.count s left)
  pub elements_are : walk.elements ≡ n.elements
  pub links_are : walk.links ≡ n.links

-- labels, holdings and numbers stand for the parts of the configuration whose operable switches are open
pub record Founded (s : Start) (r : Origin) : Type 0 where
  pub carried : CarriedParts (net_of s.net) (based_on s) r.waiting 0 r.label r.holds
  pub weighed : Weighed (net_of s.net) (asks_of (net_of s.net)) (based_on s) r.spare
  pub light : Light r.spare 0
  pub few : r.waiting ≤ 64
