-- Document 01, "Printed lines" of the judge; this is also what the document says of each case of the mark.
-- Assumes nothing.
use Rattle.std.specs.Prelude.{List, [], ◌∷◌, ◌++◌, ℕ}
use Rattle.texts.specs.Texts.{field, feed, line_of, refused_line}
use Rattle.judge_marks.specs.declared.Mark.{Mark}
use Rattle.judge_marks.specs.declared.Mark.TheVariants.{Broken, Short, Valid, Refused}
use Rattle.judge_marks.specs.Marks.{reason_number}

-- the words BROKEN, SHORT and VALID
abbrev pub broken_word : List ℕ
broken_word = 66 ∷ 82 ∷ 79 ∷ 75 ∷ 69 ∷ 78 ∷ []

abbrev pub short_word : List ℕ
short_word = 83 ∷ 72 ∷ 79 ∷ 82 ∷ 84 ∷ []

abbrev pub valid_word : List ℕ
valid_word = 86 ∷ 65 ∷ 76 ∷ 73 ∷ 68 ∷ []

-- "Judge, one line: BROKEN step reason .. SHORT element .. VALID cost excess"; a refusal has its own
unfoldable pub mark_line : Mark → List ℕ
mark_line (Broken b) = line_of broken_word b.step (reason_number b.reason)
mark_line (Short e) = short_word ++ field e ++ feed
mark_line (Valid v) = line_of valid_word v.cost v.excess
mark_line (Refused f) = refused_line f
