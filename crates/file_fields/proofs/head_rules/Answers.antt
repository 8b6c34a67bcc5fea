-- `file_fields::head_rules` finds rule 5: each return by the tests that led there.
use Rattle.file_fields.specs.Fields.{head_rules}
use Rattle.file_fields.proofs.head_rules.Goals as goal

pub returns-then-out_of_range : goal.returns-then-out_of_range
unfolding head_rules
returns-then-out_of_range c = simp (
  ← c.word_at-elements.ensures,
  ← c.word_at-links.ensures,
  ← c.out_of_range.ensures,
  c.if-out_of_range.true,
)

pub returns : goal.returns
unfolding head_rules
returns c = simp (
  ← c.word_at-elements.ensures,
  ← c.word_at-links.ensures,
  ← c.out_of_range.ensures,
  c.if-out_of_range.false,
)
