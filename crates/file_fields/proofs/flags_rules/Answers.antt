-- `file_fields::flags_rules` finds its rule: each return by the test that led there.
use borrow.Author.Tests.{lt-ltb, le-ltb}
use Rattle.file_fields.specs.Fields.{flags_rules}
use Rattle.file_fields.proofs.flags_rules.Goals as goal

pub returns-then-word_at-gt3 : goal.returns-then-word_at-gt3
unfolding flags_rules
returns-then-word_at-gt3 c = simp (← c.word_at.ensures, lt-ltb _ _ c.if-word_at-gt3.true)

pub returns : goal.returns
unfolding flags_rules
returns c = simp (← c.word_at.ensures, le-ltb _ _ c.if-word_at-gt3.false)
