-- What is known of a network at the start, in one value, and what acceptance promises of it.
-- Internal: what computes; `AcceptedNetwork` of `feeding_acceptance` says which networks the paper accepts.
-- Assumes nothing.
use Rattle.std.specs.Prelude.{◌≡◌, Bool, true, false, List, ℕ, ◌<◌, ◌≤◌, length, replicate}
use Rattle.network.specs.declared.Network.{Network}
use Rattle.network.specs.Accepted.{WellFormed}
use Rattle.feeding.specs.Acceptance.{Starts}
use Rattle.feeding.specs.Below.{bits}
use Rattle.feeding.specs.Networks.{net_of, at, is_in}
use Rattle.feeding.specs.Parts.{sound?, live?}
use Rattle.feeding.specs.Restoration.{restorable?, operable?, operables_by}
use Rattle.feeding.specs.Safety.{Safe}
use Rattle.feeding_ends.specs.declared.OwnEnds.{OwnEnds}
use Rattle.feeding_ends.specs.Ends.{own_ends}
use Rattle.feeding_start.specs.declared.Start.{Start}

-- the ends of all links
abbrev pub all_ends : Network → OwnEnds
all_ends n = own_ends (at n.from) (at n.to) (is_in (replicate 96 1)) n.links

-- where the switches that pass a test may be operated
unfoldable pub start_with : Network → (ℕ → Bool) → Start
start_with n op =
    record {
      net = n;
      own = all_ends n;
      closed = bits 96 n.links (net_of n).start_closed;
      sound = bits 96 n.elements (sound? (net_of n).grid);
      faulty = bits 96 n.elements (net_of n).grid.faulty;
      live = bits 96 n.elements (live? (net_of n).grid (net_of n).start_closed);
      restorable = bits 96 n.elements (restorable? (net_of n));
      operable = bits 96 n.links op;
    }

-- document 01's
abbrev pub start_of : Network → Start
start_of n = start_with n (operable? (net_of n))

-- the switches that may be operated in it, by rising number
abbrev pub operable_in : Start → List ℕ
operable_in s = operables_by (net_of s.net) (is_in s.operable)

-- what a search asks of a start: a well-formed network that starts safe, and at most 16 switches, of whatever choice, that may be operated
pub record Searchable (s : Start) : Type 0 where
  pub formed : WellFormed s.net
  pub safe : Safe (net_of s.net).grid (net_of s.net).start_closed
  pub made : s ≡ start_with s.net (is_in s.operable)
  pub inside : (l : ℕ) → is_in s.operable l ≡ true → l < s.net.links
  pub switches : (l : ℕ) → is_in s.operable l ≡ true → (net_of s.net).fixed l ≡ false
  pub few : length (operable_in s) ≤ 16

-- the start of a well-formed network that acceptance lets through
pub record Begun (s : Start) : Type 0 where
  pub formed : WellFormed s.net
  pub starts : Starts (net_of s.net)
  pub made : s ≡ start_of s.net
