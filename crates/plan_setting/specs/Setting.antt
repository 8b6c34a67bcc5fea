-- What a search over sets of switches does not change: what its parts hold. Internal: what the arrays hold.
-- Assumes nothing.
use Rattle.std.specs.Prelude.{◌≡◌, List, ℕ, ◌<◌, ◌≤◌, length}
use Rattle.feeding.specs.Networks.{at}
use Rattle.feeding_walks.specs.declared.Walk.{Walk}
use Rattle.plan_problem.specs.Sets.{charge_of, fellows_of}
use Rattle.plan_switches.specs.declared.Switches.{Switches}
use Rattle.plan_switches.specs.Switches.{SwitchReach}
use Rattle.plan_setting.specs.declared.Guards.{Guards}
use Rattle.plan_setting.specs.declared.Sources.{Sources}

-- the numbers of the switches are small
pub record Columns (sw : Switches) : Type 0 where
  pub reach : SwitchReach sw.link sw.count
  pub from_in : (i : ℕ) → i < sw.count → at sw.from i < 64
  pub to_in : (i : ℕ) → i < sw.count → at sw.to i < 64
  pub closed_bit : (i : ℕ) → i < sw.count → at sw.closed i ≤ 1
  pub price_in : (i : ℕ) → i < sw.count → at sw.price i < 65536

-- the array holds the sources of the list
pub record Listed (r : Sources) (sources : List ℕ) : Type 0 where
  pub element_at : (j : ℕ) → j < length sources → at r.element j ≡ at sources j
  pub count_is : r.count ≡ length sources

-- the charges of the guards and the fellows of the switches that are these links
pub record Charging (guard cost : List ℕ) (K : ℕ) (link : List ℕ) (count : ℕ) (r : Guards) : Type 0 where
  pub charge_at : (i : ℕ) → i < count → at r.charge i ≡ charge_of (at guard) (at cost) K (at link i)
  pub fellows_at : (i : ℕ) → i < count → at r.fellows i ≡ fellows_of (λ j. at guard (at link j)) K i

-- what a search asks of its setting: the numbers fit, and the switches differ
pub record Settled (sw : Switches) (guards : Guards) (sources : Sources) (want : ℕ) (walk : Walk) : Type 0 where
  pub columns : Columns sw
  pub charge_in_lem : (i : ℕ) → i < sw.count → at guards.charge i < 131072
  pub want_in : want ≤ 64
  pub sources_fit : sources.count ≤ 64
  pub source_in : (j : ℕ) → j < sources.count → at sources.element j < walk.elements
  pub elements_fit : walk.elements ≤ 64
  pub links_fit : walk.links ≤ 96
