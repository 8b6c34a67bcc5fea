-- `file_network::reader::read_links` reads so many links: at each turn what is left to read gives the whole outcome.
use mathlib.Core.Path.{◌≡◌}
use Prim.Native.Nat.{◌-◌}
use Rattle.file_stages.specs.declared.Stage.TheVariants.{Links}
use Rattle.file_fields.specs.Views.{network_seen}
use Rattle.file_network.specs.Runs.{records}
use Rattle.file_network.specs.NetworkFiles.{with_link}
use Rattle.file_network.proofs.reader.read_links.Given as goal

abbrev pub invariant-loop-i : goal.invariant-loop-i
invariant-loop-i l =
    (l.stage ≡ Links) × (l.net.links ≡ l.i) × (records l.s network_seen (with_link l.s) (l.count - l.i) l.at l.stage l.net ≡ records l.s network_seen
    (with_link l.s) l.count l.initial.at l.initial.stage l.initial.net)
