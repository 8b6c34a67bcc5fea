-- `file_fields::plan_head_rules` finds its rule: each return by the test that led there.
use borrow.Author.Tests.{lt-ltb, le-ltb}
use Rattle.file_fields.specs.Fields.{plan_head_rules}
use Rattle.file_fields.proofs.plan_head_rules.Goals as goal

pub returns-then-word_at-gt255 : goal.returns-then-word_at-gt255
unfolding plan_head_rules
returns-then-word_at-gt255 c = simp (← c.word_at.ensures, lt-ltb _ _ c.if-word_at-gt255.true)

pub returns : goal.returns
unfolding plan_head_rules
returns c = simp (← c.word_at.ensures, le-ltb _ _ c.if-word_at-gt255.false)
