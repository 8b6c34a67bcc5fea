-- `network::Network::empty` is the empty network, by computing.
use Rattle.std.proofs.Common.{refl}
use Rattle.network.specs.Networks.{empty_network}
use Rattle.network.proofs.Network.empty.Goals as goal

pub returns : goal.returns
unfolding empty_network
returns c = refl
