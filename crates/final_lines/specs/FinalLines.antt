-- Document 02, item 4: the printed lines of a trial final, each as document 01 has it.
-- Assumes nothing.
use Rattle.std.specs.Prelude.{List, ◌++◌, ℕ, Result, Ok, Err}
use Rattle.network.specs.declared.refusal.Refusal.{Refusal}
use Rattle.texts.specs.Texts.{refused_line}
use Rattle.judge_marks.specs.declared.BothMarks.{BothMarks}
use Rattle.judge_line.specs.MarkLines.{mark_line}

-- "The judge prints both marks in file order"
unfoldable pub mark_lines : BothMarks → List ℕ
mark_lines m = mark_line m.first ++ mark_line m.second

-- a refusal is the only line
unfoldable pub final_lines : Result BothMarks Refusal → List ℕ
final_lines (Ok m) = mark_lines m
final_lines (Err f) = refused_line f
