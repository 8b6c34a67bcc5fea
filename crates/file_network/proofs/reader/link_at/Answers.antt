-- `file_network::reader::link_at` reads the fields of a link record.
use Rattle.file_network.specs.NetworkFiles.{link_of}
use Rattle.file_network.proofs.reader.link_at.Goals as goal

pub guard_at-guard-requires : goal.guard_at-guard-requires
guard_at-guard-requires c = c.requires

pub returns : goal.returns
unfolding link_of
returns c = simp (
  ← c.word_at-from.ensures,
  ← c.word_at-to.ensures,
  ← c.word_at-form.ensures,
  ← c.word_at-cost.ensures,
  ← c.guard_at-guard.ensures,
)
