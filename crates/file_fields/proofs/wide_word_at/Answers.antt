-- `file_fields::wide_word_at` reads a number of four bytes as two of two, the high one times 65,536.
use Rattle.file_fields.specs.Fields.{wide_word}
use Rattle.file_fields.proofs.wide_word_at.Goals as goal

pub returns : goal.returns
unfolding wide_word
returns c = simp (← c.word_at-low.ensures, ← c.word_at-high.ensures)
