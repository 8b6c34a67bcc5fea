-- What the rules of each stage's records may ask of what was read before them.
-- Internal: what computes; `Demand1` of `theorems` says of the readers what the paper says.
-- Assumes nothing.
use Rattle.std.specs.Prelude.{List, ℕ, replicate}
use Rattle.network.specs.declared.Network.{Network}
use Rattle.file_fields.specs.declared.Seen as lent

-- what was read before: how many elements and links the network has so far, and the links' forms
pub record Seen : Type 0 where
  pub elements : ℕ
  pub links : ℕ
  pub form : List ℕ

-- what was read before, in its parts
abbrev pub seen_of : ℕ → ℕ → List ℕ → Seen
seen_of elements links form = record { elements = elements; links = links; form = form }

-- what the code's `Seen` lends
abbrev pub seen_in : lent.Seen → Seen
seen_in seen = seen_of seen.elements seen.links seen.form.now

-- heads, elements and ends: nothing is asked
unfoldable pub nothing_seen : Seen
nothing_seen = record { elements = 0; links = 0; form = replicate 96 0 }

-- links: the network read so far
unfoldable pub network_seen : Network → Seen
network_seen n = record { elements = n.elements; links = n.links; form = n.form }

-- the records of a plan file: a network of so many links
unfoldable pub links_seen : ℕ → Seen
links_seen links = record { elements = 0; links = links; form = replicate 96 0 }
