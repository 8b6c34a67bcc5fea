-- `file_network::reader::narrow_element` reads the fields of an element record of kind 2.
use Rattle.file_network.specs.NetworkFiles.{narrow_element}
use Rattle.file_network.proofs.reader.narrow_element.Goals as goal

pub returns : goal.returns
unfolding narrow_element
returns c = simp (← c.word_at-load.ensures, ← c.word_at-capacity.ensures, ← c.word_at-flags.ensures)
