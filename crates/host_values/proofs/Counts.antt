-- A reply has five values, a mark has two and a final has nine, whatever they are: `TAMCHUWE_PLAN_VALUES`, `TAMCHUWE_MARK_VALUES` and
-- `TAMCHUWE_FINAL_VALUES` of the C header. Case by case.
-- Assumes nothing.
use mathlib.Core.Path.{◌≡◌, refl}
use mathlib.Core.List.{List, [], ◌∷◌}
use Prim.Native.Nat.{ℕ}
use lib.ListN.{length, get_or}
use Rattle.std.specs.Prelude.{Result, Ok, Err}
use Rattle.network.specs.declared.refusal.Refusal.{Refusal}
use Rattle.plan_outcome.specs.declared.Reply.{Reply}
use Rattle.plan_outcome.specs.declared.Reply.TheVariants as Reply·
use Rattle.judge_marks.specs.declared.Mark.{Mark}
use Rattle.judge_marks.specs.declared.Mark.TheVariants.{Broken, Short, Valid, Refused}
use Rattle.judge_marks.specs.declared.BothMarks.{BothMarks}
use Rattle.final_better.specs.declared.Part.{Part}
use Rattle.final_better.specs.Better.{better_number}
use Rattle.final_judge.specs.declared.Decided.{Decided}
use Rattle.host_values.specs.Values.{reply_values, mark_kind, mark_values, marked_values, final_values}

pub reply_count : (r : Reply) → length (reply_values r) ≡ 5
unfolding reply_values
reply_count (Reply·.Refused f) = refl
reply_count (Reply·.Plan p) = refl
reply_count (Reply·.NoPlan l) = refl

pub mark_count : (m : Mark) → length (mark_values m) ≡ 2
unfolding mark_values
mark_count (Refused f) = refl
mark_count (Broken b) = refl
mark_count (Short e) = refl
mark_count (Valid v) = refl

-- the two values of a mark, one by one
mark_two : (m : Mark) → mark_values m ≡ get_or (mark_values m) 0 0 ∷ get_or (mark_values m) 1 0 ∷ []
unfolding mark_values
mark_two (Refused f) = refl
mark_two (Broken b) = refl
mark_two (Short e) = refl
mark_two (Valid v) = refl

-- those of a final, one by one
pub marked_nine : (m : BothMarks) (p : Part) (a b : List ℕ) (k j n x y : ℕ) → k ≡ mark_kind m.first → a ≡ mark_values m.first → j ≡ mark_kind m.second
    → b ≡ mark_values m.second → n ≡ better_number p.better → x ≡ p.offset → y ≡ p.length
    → k ∷ get_or a 0 0 ∷ get_or a 1 0 ∷ j ∷ get_or b 0 0 ∷ get_or b 1 0 ∷ n ∷ x ∷ y ∷ [] ≡ marked_values m p
unfolding marked_values
marked_nine m p a b k j n x y e h e' h' better f g = rw (e, h, e', h', better, f, g, mark_two m.first, mark_two m.second) refl

marked_count : (m : BothMarks) (p : Part) → length (marked_values m p) ≡ 9
unfolding marked_values
marked_count m p = rw (mark_two m.first, mark_two m.second) refl

pub final_count : (d : Result Decided Refusal) → length (final_values d) ≡ 9
unfolding final_values
final_count (Err f) = refl
final_count (Ok d) = marked_count d.marks d.part
