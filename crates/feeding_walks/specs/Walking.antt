-- The walk over a network: its loads and capacities, with chained ends of its links.
-- Internal: no promise to a user is said by it.
-- Assumes nothing.
use Rattle.network.specs.declared.Network.{Network}
use Rattle.feeding_ends.specs.declared.OwnEnds.{OwnEnds}
use Rattle.feeding_walks.specs.declared.Walk.{Walk}

unfoldable pub walk_of : Network → OwnEnds → Walk
walk_of net own = record { own = own; load = net.load; capacity = net.capacity; elements = net.elements; links = net.links }
