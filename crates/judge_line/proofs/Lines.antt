-- Each case of the mark has its line at an offset. By the laws of `texts`, case by case.
-- Assumes nothing.
use mathlib.Core.Path.{◌≡◌, sym, subst}
use mathlib.Core.List.{List}
use Prim.Native.Nat.{ℕ}
use Rattle.network.specs.declared.refusal.Refusal.{Refusal}
use Rattle.texts.specs.Texts.{field, feed, line_of, refused_line}
use Rattle.texts.proofs.Pieces.{Put, line_one, line_same}
use Rattle.judge_marks.specs.declared.BadStep.{BadStep}
use Rattle.judge_marks.specs.declared.Score.{Score}
use Rattle.judge_marks.specs.declared.Mark.{Mark}
use Rattle.judge_marks.specs.declared.Mark.TheVariants.{Broken, Short, Valid, Refused}
use Rattle.judge_marks.specs.Marks.{reason_number}
use Rattle.judge_line.specs.MarkLines.{broken_word, short_word, valid_word, mark_line}

module _ (l l' : List ℕ) (at k : ℕ) (m : Mark) where
  -- what is promised of the line: the place behind it, and the buffer
  abbrev Stands : Mark → Type 0
  Stands x = Put l at l' k (mark_line x)

  pub broken_put : (x y : ℕ) (b : BadStep) → m ≡ Broken b → Put l at l' k (line_of broken_word x y) → x ≡ b.step → y ≡ reason_number b.reason → Stands m
  unfolding mark_line
  broken_put x y b e put step reason = subst Stands (sym e) (line_same l l' at k x y b.step (reason_number b.reason) broken_word put step reason)

  pub short_put : (l₁ l₂ : List ℕ) (i j x e : ℕ) → m ≡ Short e → Put l at l₁ i short_word → Put l₁ i l₂ j (field x) → Put l₂ j l' k feed → x ≡ e → Stands m
  unfolding mark_line
  short_put l₁ l₂ i j x e same put first end is = subst Stands (sym same) (line_one l l₁ l₂ l' at i j k x e short_word put first end is)

  pub valid_put : (x y : ℕ) (v : Score) → m ≡ Valid v → Put l at l' k (line_of valid_word x y) → x ≡ v.cost → y ≡ v.excess → Stands m
  unfolding mark_line
  valid_put x y v e put cost excess = subst Stands (sym e) (line_same l l' at k x y v.cost v.excess valid_word put cost excess)

  pub refused_put : (f : Refusal) → m ≡ Refused f → Put l at l' k (refused_line f) → Stands m
  unfolding mark_line
  refused_put f e put = subst Stands (sym e) put
