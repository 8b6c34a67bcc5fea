-- Document 01, "Files": the network file, with document 02's kinds of element and link.
-- Internal: what computes; `Demand1` of `theorems` says of the readers what the paper says.
-- Assumes nothing.
use Rattle.std.specs.Prelude.{◌≡◌, Bool, List, ℕ, ◌+◌, ◌≤◌, eqb, length}
use Rattle.network.specs.declared.Element.{Element}
use Rattle.network.specs.declared.Link.{Link}
use Rattle.network.specs.declared.Network.{Network}
use Rattle.file_stages.specs.declared.Stage.{Stage}
use Rattle.file_stages.specs.declared.Stage.TheVariants.{Head}
use Rattle.network.specs.Networks.{no_guard, empty_network, element_added, link_added}
use Rattle.network.specs.Refusals.{pick}
use Rattle.file_fields.specs.Fields.{word, wide_word}
use Rattle.file_fields.specs.Views.{nothing_seen, network_seen}
use Rattle.file_stages.specs.Stages.{every_kind, after_last}
use Rattle.file_records.specs.Records.{kind_field}
use Rattle.file_network.specs.Runs.{Reading, read_on, records_by, always, as_is}

-- Kind 2: own load, capacity, flags
unfoldable pub narrow_element : List ℕ → ℕ → Element
narrow_element s at = record { load = word s (at + 4); capacity = word s (at + 6); flags = word s (at + 8) }

-- Kind 7: own load and capacity of four bytes, flags
unfoldable pub wide_element : List ℕ → ℕ → Element
wide_element s at = record { load = wide_word s (at + 4); capacity = wide_word s (at + 8); flags = word s (at + 12) }

-- the element that a record of either kind states
unfoldable pub element_of : List ℕ → ℕ → Element
element_of s at = pick (eqb (kind_field s at) 7) (wide_element s at) (narrow_element s at)

-- a record of either kind stands at an offset, as long as its kind's records
pub record ElementThere (s : List ℕ) (at kind : ℕ) : Type 0 where
  pub kind_is : kind ≡ kind_field s at
  pub narrow_fits : at + 10 ≤ length s
  pub wide_fits : kind ≡ 7 → at + 14 ≤ length s

-- the guard that a record of either kind states: none for kind 3
unfoldable pub guard_of : List ℕ → ℕ → ℕ
guard_of s at = pick (eqb (kind_field s at) 8) (word s (at + 12)) no_guard

-- a record of a link stands at an offset, as long as its kind's records
pub record LinkThere (s : List ℕ) (at kind : ℕ) : Type 0 where
  pub kind_is : kind ≡ kind_field s at
  pub plain_fits : at + 12 ≤ length s
  pub guarded_fits : kind ≡ 8 → at + 14 ≤ length s

-- Kind 3: two different elements, form, cost; kind 8: its guard behind them
unfoldable pub link_of : List ℕ → ℕ → Link
link_of s at = record { from = word s (at + 4); to = word s (at + 6); form = word s (at + 8); cost = word s (at + 10); guard = guard_of s at }

unfoldable pub with_element : List ℕ → ℕ → Network → Network
with_element s at n = element_added n (element_of s at)

unfoldable pub with_link : List ℕ → ℕ → Network → Network
with_link s at n = link_added n (link_of s at)

-- "A network file is one head, E elements, K links, one end." The head stands at offset 0: E is the number at 4, K the one at 6.
-- Each by the kinds that are known, and where every kind is.
unfoldable pub end_on_by : (ℕ → Bool) → List ℕ → ℕ → Stage → Network → Reading Network
end_on_by known s at stage n = records_by known s (always nothing_seen) as_is 1 at stage n

unfoldable pub links_on_by : (ℕ → Bool) → List ℕ → ℕ → Stage → Network → Reading Network
links_on_by known s at stage n =
    read_on (records_by known s network_seen (with_link s) (word s 6) at stage n)
    (λ after next net. end_on_by known s after (after_last next) net)

unfoldable pub elements_on_by : (ℕ → Bool) → List ℕ → ℕ → Stage → Network → Reading Network
elements_on_by known s at stage n =
    read_on (records_by known s (always nothing_seen) (with_element s) (word s 4) at stage n)
    (λ after next net. links_on_by known s after (after_last next) net)

unfoldable pub network_file_by : (ℕ → Bool) → List ℕ → Reading Network
network_file_by known s = read_on (records_by known s (always nothing_seen) as_is 1 0 Head empty_network) (elements_on_by known s)

abbrev pub end_on : List ℕ → ℕ → Stage → Network → Reading Network
end_on = end_on_by every_kind

abbrev pub links_on : List ℕ → ℕ → Stage → Network → Reading Network
links_on = links_on_by every_kind

abbrev pub elements_on : List ℕ → ℕ → Stage → Network → Reading Network
elements_on = elements_on_by every_kind

abbrev pub network_file : List ℕ → Reading Network
network_file = network_file_by every_kind
