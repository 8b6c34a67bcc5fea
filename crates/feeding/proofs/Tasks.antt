-- Document 01's task is lawful: its tests tell what its words say, and the cost of a plan agrees with the cost of a set.
-- Assumes nothing.
use Rattle.feeding.specs.Networks.{Net, Formed}
use Rattle.feeding.specs.Tasks.{Lawful, restoration}
use Rattle.feeding.proofs.Prices.{pricing}
use Rattle.feeding.proofs.Tests.{operable?_in, operable?_out, restored?_in, restored?_out}

pub restoration_lawful : (net : Net) → Formed net.grid → Lawful net (restoration net)
restoration_lawful net formed = record {
  inside = λ l o. o.below;
  told = operable?_in net formed;
  tells = operable?_out net formed;
  met = restored?_in net formed;
  meets = restored?_out net formed;
  pricing = pricing net;
}
