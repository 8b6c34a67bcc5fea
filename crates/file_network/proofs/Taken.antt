-- What the loops over elements and links store is what the definitions take in: the record that was read, added to the network.
-- Assumes nothing.
use mathlib.Core.List.{List}
use mathlib.Core.Path.{◌≡◌, ap, subst}
use Prim.Native.Nat.{ℕ, ◌+◌}
use lib.ListN.{set}
use Rattle.network.specs.declared.Element.{Element}
use Rattle.network.specs.declared.Link.{Link}
use Rattle.network.specs.declared.Network.{Network}
use Rattle.network.specs.Networks.{element_added, link_added}
use Rattle.file_network.specs.NetworkFiles.{element_of, link_of, with_element, with_link}

-- an element and a link stored at an index
abbrev pub element_put : Network → ℕ → Element → Network
element_put n i e =
    record {
      load = set n.load i e.load;
      capacity = set n.capacity i e.capacity;
      flags = set n.flags i e.flags;
      from = n.from;
      to = n.to;
      form = n.form;
      cost = n.cost;
      guard = n.guard;
      elements = i + 1;
      links = n.links;
    }

abbrev pub link_put : Network → ℕ → Link → Network
link_put n i l =
    record {
      load = n.load;
      capacity = n.capacity;
      flags = n.flags;
      from = set n.from i l.from;
      to = set n.to i l.to;
      form = set n.form i l.form;
      cost = set n.cost i l.cost;
      guard = set n.guard i l.guard;
      elements = n.elements;
      links = i + 1;
    }

pub element_taken :
    (s : List ℕ) (at i : ℕ) (n : Network) (e : Element) →
    n.elements ≡ i →
    e ≡ element_of s at →
    element_put n i e ≡ with_element s at n
unfolding with_element
element_taken s at i n e same h = subst (λ (k : ℕ). element_put n k e ≡ element_added n (element_of s at)) same (ap (element_added n) h)

pub link_taken :
    (s : List ℕ) (at i : ℕ) (n : Network) (l : Link) →
    n.links ≡ i →
    l ≡ link_of s at →
    link_put n i l ≡ with_link s at n
unfolding with_link
link_taken s at i n l same h = subst (λ (k : ℕ). link_put n k l ≡ link_added n (link_of s at)) same (ap (link_added n) h)
