-- Documents 01 and 02, the network file as bytes: the file of a list of elements and a list of links with the network that they make, and the file of a network.
-- Internal but for the records of elements, by which `Rewriting` says what is rewritten. Elements are written as kind 7, which has room for each.
-- Assumes nothing.
use mathlib.Core.List.{List, [], ◌∷◌, ◌++◌, flat_map, foldl}
use Rattle.std.specs.Prelude.{ℕ, zero, suc, ◌/◌, ◌%◌, ◌≤◌, eqb, length, get_or}
use Rattle.network.specs.declared.Element.{Element}
use Rattle.network.specs.declared.Link.{Link}
use Rattle.network.specs.declared.Network.{Network}
use Rattle.network.specs.Networks.{no_guard, empty_network, element_added, link_added}
use Rattle.network.specs.Refusals.{pick}
use Rattle.file_writer.specs.Writing.{number, end_bytes}
use Rattle.file_refusals.specs.Stated.{ElementIs, LinkIs}

-- ---- the file of elements and links

-- "Kind 1, network head, length 8: element count E (1 to 64), link count K (0 to 96)."
unfoldable pub head_bytes : ℕ → ℕ → List ℕ
head_bytes elements links = number 8 ++ number 1 ++ number elements ++ number links

-- document 02: "four bytes", low byte first
abbrev pub wide_number : ℕ → List ℕ
wide_number n = number (n % 65536) ++ number (n / 65536)

-- document 02: "Kind 7 is an element with load and capacity of four bytes each, then flags, length 14"
unfoldable pub element_bytes : Element → List ℕ
element_bytes e = number 14 ++ number 7 ++ wide_number e.load ++ wide_number e.capacity ++ number e.flags

-- "Kind 3, link, length 12: two different elements, form .., cost"
unfoldable pub plain_bytes : Link → List ℕ
plain_bytes l = number 12 ++ number 3 ++ number l.from ++ number l.to ++ number l.form ++ number l.cost

-- document 02: "Kind 8 is a switch laid out as kind 3 .. with one more field, the number of its guard ..; length 14"
unfoldable pub guarded_bytes : Link → List ℕ
guarded_bytes l =
    number 14 ++ number 8 ++ number l.from ++ number l.to ++ number l.form ++ number l.cost ++ number l.guard

-- a link that has a guard is of kind 8
unfoldable pub link_bytes : Link → List ℕ
link_bytes l = pick (eqb l.guard no_guard) (plain_bytes l) (guarded_bytes l)

-- "A network file is one head, E elements, K links, one end."
unfoldable pub network_bytes : List Element → List Link → List ℕ
network_bytes es ls = head_bytes (length es) (length ls) ++ flat_map element_bytes es ++ flat_map link_bytes ls ++ end_bytes

-- "Elements and links are numbered from 0 in file order"
unfoldable pub network_of : List Element → List Link → Network
network_of es ls = foldl link_added (foldl element_added empty_network es) ls

-- ---- the file of a network

-- its element and its link of a number
abbrev pub element_in : Network → ℕ → Element
element_in n i = record { load = get_or n.load i 0; capacity = get_or n.capacity i 0; flags = get_or n.flags i 0 }

abbrev pub link_in : Network → ℕ → Link
link_in n l =
    record { from = get_or n.from l 0; to = get_or n.to l 0; form = get_or n.form l 0; cost = get_or n.cost l 0; guard = get_or n.guard l 0 }

-- so many of what is numbered, from a number on
unfoldable pub numbered : {A : Type 0} → (ℕ → A) → ℕ → ℕ → List A
numbered f from zero = []
numbered f from (suc count) = f from ∷ numbered f (suc from) count

unfoldable pub network_file_of : Network → List ℕ
network_file_of n = network_bytes (numbered (element_in n) 0 n.elements) (numbered (link_in n) 0 n.links)

-- ---- the networks that files state

-- zeros stand behind the last element and the last link, and no guards
pub record Tidy (n : Network) : Type 0 where
  pub no_element : (i : ℕ) → n.elements ≤ i → ElementIs n i 0 0 0
  pub no_link : (l : ℕ) → n.links ≤ l → LinkIs n l 0 0 0 0 no_guard
