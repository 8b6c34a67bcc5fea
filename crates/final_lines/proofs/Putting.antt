-- Two marks' lines put one behind the other are the lines of a final, and stand in front of the buffer. By the laws of `texts`.
-- Assumes nothing.
use mathlib.Core.Path.{◌≡◌}
use mathlib.Core.List.{List}
use Prim.Native.Nat.{ℕ, ◌≤◌}
use lib.ListN.{length}
use Rattle.network.specs.declared.refusal.Refusal.{Refusal}
use Rattle.std.specs.Prelude.{Result, Ok, Err}
use Rattle.texts.specs.Texts.{refused_line, in_front, Counted}
use Rattle.texts.proofs.Pieces.{Put, put_behind, put_front, front_counted}
use Rattle.judge_marks.specs.declared.Mark.{Mark}
use Rattle.judge_marks.specs.declared.BothMarks.{BothMarks}
use Rattle.judge_line.specs.MarkLines.{mark_line}
use Rattle.final_lines.specs.FinalLines.{mark_lines, final_lines}

pub marks_put : (l l₁ l₂ : List ℕ) (at i j k : ℕ) (m : BothMarks) (x y : Mark) → Put l at l₁ i (mark_line x) → Put l₁ j l₂ k (mark_line y) → j ≡ i
    → x ≡ m.first → y ≡ m.second → Put l at l₂ k (mark_lines m)
unfolding mark_lines
marks_put l l₁ l₂ at i j k m x y p q same e h =
    put_behind l l₁ l₂ at i k (mark_line m.first) (mark_line m.second) (rw e at p) (rw (same, h) at q)

module _ (a : Result BothMarks Refusal) (l l' : List ℕ) (k : ℕ) where
  -- the lines in front of a buffer, counted
  abbrev InLines : Type 0
  InLines = (k ≡ length (final_lines a)) × ((l' ≡ in_front (final_lines a) l) × Counted k l')

  counted : (k ≡ length (final_lines a)) × (l' ≡ in_front (final_lines a) l) → InLines
  counted h = (h.0, (h.1, rw (h.0, h.1) (front_counted (final_lines a) l)))

  pub refused_final_lem : (f : Refusal) → a ≡ Err f → (k ≡ length (refused_line f)) × (l' ≡ in_front (refused_line f) l) → InLines
  unfolding final_lines
  refused_final_lem f e h = counted (rw e h)

  pub marked_final_lem : (m : BothMarks) → a ≡ Ok m → k ≤ length l → Put l 0 l' k (mark_lines m) → InLines
  unfolding final_lines
  marked_final_lem m e h p = counted (rw e (put_front l l' k (mark_lines m) h p))
