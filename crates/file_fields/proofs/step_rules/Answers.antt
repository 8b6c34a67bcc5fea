-- `file_fields::step_rules` finds rule 11 before rule 12: each return by the tests that led there.
use borrow.Author.Tests.{le-leb, lt-leb}
use Rattle.file_fields.specs.Fields.{step_rules}
use Rattle.file_fields.proofs.step_rules.Goals as goal

pub returns-then-links-link : goal.returns-then-links-link
unfolding step_rules
returns-then-links-link c = simp (← c.word_at-link.ensures, ← c.word_at-state.ensures, le-leb _ _ c.if-links-link.true)

pub returns-then-state-ge2 : goal.returns-then-state-ge2
unfolding step_rules
returns-then-state-ge2 c = simp (
  ← c.word_at-link.ensures,
  ← c.word_at-state.ensures,
  lt-leb _ _ c.if-links-link.false,
  le-leb _
      _ c.if-state-ge2.true,
)

pub returns : goal.returns
unfolding step_rules
returns c = simp (
  ← c.word_at-link.ensures,
  ← c.word_at-state.ensures,
  lt-leb _ _ c.if-links-link.false,
  lt-leb _
      _ c.if-state-ge2.false,
)
