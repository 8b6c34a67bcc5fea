-- Document 01, "Files": the empty network, 64 elements and 96 links wide, and a network with one element or one link more. "Elements and
-- links are numbered from 0 in file order, steps from 1."
-- Assumes nothing.
use Rattle.std.specs.Prelude.{ℕ, ◌+◌, replicate, set}
use Rattle.network.specs.declared.Element.{Element}
use Rattle.network.specs.declared.Link.{Link}
use Rattle.network.specs.declared.Network.{Network}

-- the guard of a link that has none: a number that is no link's
abbrev pub no_guard : ℕ
no_guard = 96

unfoldable pub empty_network : Network
empty_network =
    record {
      load = replicate 64 0;
      capacity = replicate 64 0;
      flags = replicate 64 0;
      from = replicate 96 0;
      to = replicate 96 0;
      form = replicate 96 0;
      cost = replicate 96 0;
      guard = replicate 96 no_guard;
      elements = 0;
      links = 0;
    }

abbrev pub element_added : Network → Element → Network
element_added n e =
    record {
      load = set n.load n.elements e.load;
      capacity = set n.capacity n.elements e.capacity;
      flags = set n.flags n.elements e.flags;
      from = n.from;
      to = n.to;
      form = n.form;
      cost = n.cost;
      guard = n.guard;
      elements = n.elements + 1;
      links = n.links;
    }

abbrev pub link_added : Network → Link → Network
link_added n l =
    record {
      load = n.load;
      capacity = n.capacity;
      flags = n.flags;
      from = set n.from n.links l.from;
      to = set n.to n.links l.to;
      form = set n.form n.links l.form;
      cost = set n.cost n.links l.cost;
      guard = set n.guard n.links l.guard;
      elements = n.elements;
      links = n.links + 1;
    }
