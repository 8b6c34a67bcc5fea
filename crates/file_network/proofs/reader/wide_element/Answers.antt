-- `file_network::reader::wide_element` reads the fields of an element record of kind 7.
use Rattle.file_network.specs.NetworkFiles.{wide_element}
use Rattle.file_network.proofs.reader.wide_element.Goals as goal

pub returns : goal.returns
unfolding wide_element
returns c = simp (← c.wide_word_at-load.ensures, ← c.wide_word_at-capacity.ensures, ← c.word_at-flags.ensures)
