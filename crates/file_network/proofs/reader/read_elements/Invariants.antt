-- `file_network::reader::read_elements` reads so many elements: at each turn what is left to read gives the whole outcome.
use mathlib.Core.Path.{◌≡◌}
use Prim.Native.Nat.{◌-◌}
use Rattle.file_stages.specs.declared.Stage.TheVariants.{Elements}
use Rattle.file_fields.specs.Views.{nothing_seen}
use Rattle.file_network.specs.Runs.{records, always}
use Rattle.file_network.specs.NetworkFiles.{with_element}
use Rattle.file_network.proofs.reader.read_elements.Given as goal

abbrev pub invariant-loop-i : goal.invariant-loop-i
invariant-loop-i l =
    (l.stage ≡ Elements) × (l.net.elements ≡ l.i) × (records l.s (always nothing_seen) (with_element l.s) (l.count - l.i) l.at l.stage l.net ≡ records l.s (always nothing_seen) (with_element l.s) l.count l.initial.at
    l.initial.stage l.initial.net)
