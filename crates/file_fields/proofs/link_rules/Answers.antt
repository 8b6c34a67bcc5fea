-- `file_fields::link_rules` finds rules 7 to 9 in their order: each return by the tests that led there.
use Rattle.file_fields.specs.Fields.{plain_link_rules}
use Rattle.file_fields.proofs.link_rules.Goals as goal

pub returns-then-bad_ends : goal.returns-then-bad_ends
unfolding plain_link_rules
returns-then-bad_ends c = simp (
  ← c.word_at-from.ensures,
  ← c.word_at-to.ensures,
  ← c.bad_ends.ensures,
  c.if-bad_ends.true,
)

pub returns-then-unknown_form : goal.returns-then-unknown_form
unfolding plain_link_rules
returns-then-unknown_form c = simp (
  ← c.word_at-from.ensures,
  ← c.word_at-to.ensures,
  ← c.bad_ends.ensures,
  c.if-bad_ends.false,
  ← c.word_at-form.ensures,
  ← c.unknown_form.ensures,
  c.if-unknown_form.true,
)

pub returns-then-not-cost_suits : goal.returns-then-not-cost_suits
unfolding plain_link_rules
returns-then-not-cost_suits c = simp (
  ← c.word_at-from.ensures,
  ← c.word_at-to.ensures,
  ← c.bad_ends.ensures,
  c.if-bad_ends.false,
  ← c.word_at-form.ensures,
  ← c.unknown_form.ensures,
  c.if-unknown_form.false,
  ← c.word_at.ensures,
  ← c.cost_suits.ensures,
  c.if-not-cost_suits.true,
)

pub returns : goal.returns
unfolding plain_link_rules
returns c = simp (
  ← c.word_at-from.ensures,
  ← c.word_at-to.ensures,
  ← c.bad_ends.ensures,
  c.if-bad_ends.false,
  ← c.word_at-form.ensures,
  ← c.unknown_form.ensures,
  c.if-unknown_form.false,
  ← c.word_at.ensures,
  ← c.cost_suits.ensures,
  c.if-not-cost_suits.false,
)
