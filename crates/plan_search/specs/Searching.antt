-- What the search computes over arrays, in the words of `plan_stops`. Internal: what the arrays hold.
-- Assumes nothing.
use Rattle.std.specs.Prelude.{◌≡◌, Bool, List, ℕ, ◌+◌, ◌-◌, ◌%◌, ◌^◌, ◌<◌, ◌≤◌, eqb, length}
use Rattle.feeding.specs.Below.{all_to}
use Rattle.feeding.specs.Loads.{within_from?}
use Rattle.feeding.specs.Networks.{at}
use Rattle.feeding.specs.Parts.{closed_in}
use Rattle.feeding_loads.specs.Walks.{WalkLent, grid_of_walk}
use Rattle.feeding_parts.specs.Labelling.{Falls, root_of}
use Rattle.plan_problem.specs.declared.Best.{Best}
use Rattle.plan_stops.specs.Searching.{Switching, deciding, joining, visited, dearer}
use Rattle.plan_problem.specs.Sets.{keep, price_of}
use Rattle.plan_switches.specs.Switches.{with_set}
use Rattle.plan_setting.specs.declared.Setting.{Setting}
use Rattle.plan_setting.specs.Packed.{adds_in}
use Rattle.plan_search.specs.declared.Search.{Search}

-- the walk from source j meets no element above its capacity
abbrev pub source_fits : Setting → (states : List ℕ) → ℕ → Bool
source_fits B states j =
    within_from? (grid_of_walk B.walk) (closed_in states) (at B.sources.element j)

-- the loads stay within capacity in these states
unfoldable pub fits_in : Setting → (states : List ℕ) → Bool
fits_in B states = all_to B.sources.count (source_fits B states)

-- the states after the first n switches are put as the set s says
abbrev pub states_by : Setting → (n s : ℕ) → List ℕ → List ℕ
states_by B n s states = with_set (at B.switches.link) (at B.switches.closed) n s states

-- a whole set in the place of the best one, where it is cheaper and fits
unfoldable pub visit_in : Setting → (states : List ℕ) → Best → ℕ → Best
visit_in B states = keep (price_of (adds_in B) B.switches.count) (λ s. fits_in B (states_by B B.switches.count s states))

abbrev pub switching_in : Setting → Switching
switching_in B = record { end_a = at B.switches.from; end_b = at B.switches.to; closed = λ i. eqb (at B.switches.closed i) 1 }

-- the search with n switches left, from switch i on
abbrev pub sought_from : Setting → (states : List ℕ) (n i served s : ℕ) (parent holds spare : List ℕ) → Best → Best
sought_from B states n i served s parent holds spare =
    visited (dearer (price_of (adds_in B))) (visit_in B states) (switching_in B) B.want n i served s parent holds spare

unfoldable pub sought_in : Setting → (states : List ℕ) (i served s : ℕ) (parent holds spare : List ℕ) → Best → Best
sought_in B states i served s parent holds spare = sought_from B states (B.switches.count - i) i served s parent holds spare

-- with switch i as the last choice of s says, and with it closed
unfoldable pub decided_in : Setting → (states : List ℕ) (i served s : ℕ) (parent holds spare : List ℕ) → Best → Best
decided_in B states i served s parent holds spare =
    deciding (switching_in B) (sought_from B states (B.switches.count - (i + 1)) (i + 1)) i (eqb (s % 2) 1) served s parent holds spare

unfoldable pub joined_in : Setting → (states : List ℕ) (i served s : ℕ) (parent holds spare : List ℕ) → Best → Best
joined_in B states i served s parent holds spare =
    joining (sought_from B states (B.switches.count - (i + 1)) (i + 1)) (root_of parent (at B.switches.from i)) (root_of parent (at B.switches.to i))
    served s parent holds spare

-- the same, from what a search carries
abbrev pub sought : Setting → Search → (i served s : ℕ) → Best
sought B x i served s = sought_in B x.states i served s x.parent x.holds x.spare x.best

abbrev pub decided : Setting → Search → (i served s : ℕ) → Best
decided B x i served s = decided_in B x.states i served s x.parent x.holds x.spare x.best

abbrev pub joined : Setting → Search → (i served s : ℕ) → Best
joined B x i served s = joined_in B x.states i served s x.parent x.holds x.spare x.best

-- a search stands at switch i: parents fall, the numbers fit, and the cost is that of the choices so far
pub record Seeks (B : Setting) (x : Search) (i served s cost : ℕ) : Type 0 where
  pub reached : i ≤ B.switches.count
  pub parent_long : length x.parent ≡ 64
  pub holds_long : length x.holds ≡ 64
  pub falls : Falls x.parent
  pub served_few : served ≤ i
  pub set_in_lem : s < 2 ^ i
  pub cost_is : cost ≡ price_of (adds_in B) i s

-- the states are those that the choices s for the first i switches leave, and the switches ahead are open; the walk serves the states of any set
pub record Placed (B : Setting) (states : List ℕ) (i s : ℕ) : Type 0 where
  pub long : length states ≡ 96
  pub chosen : states_by B i s states ≡ states
  pub ahead : (j : ℕ) → i ≤ j → j < B.switches.count → at states (at B.switches.link j) ≡ 0
  pub lent : (t : ℕ) → WalkLent B.walk (states_by B B.switches.count t states)
