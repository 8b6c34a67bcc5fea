-- The planner's reply, the judge's mark and the marks of a final as numbers, for programs in other languages, and such numbers in what a host lends.
-- Assumes nothing.
use Rattle.std.specs.Prelude.{List, [], ◌∷◌, ◌++◌, ℕ, length, take, drop, Result, Ok, Err}
use Rattle.network.specs.declared.refusal.Refusal.{Refusal}
use Rattle.network.specs.Refusals.{rule_number}
use Rattle.plan_outcome.specs.declared.Reply.{Reply}
use Rattle.plan_outcome.specs.declared.Reply.TheVariants as Reply·
use Rattle.judge_marks.specs.declared.Mark.{Mark}
use Rattle.judge_marks.specs.declared.Mark.TheVariants.{Broken, Short, Valid, Refused}
use Rattle.judge_marks.specs.declared.BothMarks.{BothMarks}
use Rattle.judge_marks.specs.Marks.{reason_number}
use Rattle.final_better.specs.declared.Part.{Part}
use Rattle.final_better.specs.Better.{better_number}
use Rattle.final_judge.specs.declared.Decided.{Decided}

-- refused, plan, none
unfoldable pub reply_kind : Reply → ℕ
reply_kind (Reply·.Refused f) = 0
reply_kind (Reply·.Plan p) = 1
reply_kind (Reply·.NoPlan l) = 2

-- refused: number and place; plan: steps, cost, and the loads of the LOAD line; none: these loads
unfoldable pub reply_values : Reply → List ℕ
reply_values (Reply·.Refused f) = rule_number f.rule ∷ f.place ∷ 0 ∷ 0 ∷ 0 ∷ []
reply_values (Reply·.Plan p) = p.steps ∷ p.cost ∷ p.sums.fed ∷ p.sums.dark ∷ p.sums.lost ∷ []
reply_values (Reply·.NoPlan l) = 0 ∷ 0 ∷ l.fed ∷ l.dark ∷ l.lost ∷ []

-- refused, BROKEN, SHORT, VALID
unfoldable pub mark_kind : Mark → ℕ
mark_kind (Refused f) = 0
mark_kind (Broken b) = 1
mark_kind (Short e) = 2
mark_kind (Valid v) = 3

-- the two numbers of the mark's line; SHORT has one
unfoldable pub mark_values : Mark → List ℕ
mark_values (Refused f) = rule_number f.rule ∷ f.place ∷ []
mark_values (Broken b) = b.step ∷ reason_number b.reason ∷ []
mark_values (Short e) = e ∷ 0 ∷ []
mark_values (Valid v) = v.cost ∷ v.excess ∷ []

-- both marks in file order, each as its kind and its two numbers; the better file, and offset and length of its step records
unfoldable pub marked_values : BothMarks → Part → List ℕ
marked_values m p =
    (mark_kind m.first ∷ mark_values m.first) ++ (mark_kind m.second ∷ mark_values m.second) ++ (better_number p.better ∷ p.offset ∷ p.length ∷ [])

-- a final: refused, or marked
unfoldable pub final_kind : Result Decided Refusal → ℕ
final_kind (Err f) = 0
final_kind (Ok d) = 1

-- refused: number and place; else the marks and the part
unfoldable pub final_values : Result Decided Refusal → List ℕ
final_values (Err f) = rule_number f.rule ∷ f.place ∷ 0 ∷ 0 ∷ 0 ∷ 0 ∷ 0 ∷ 0 ∷ 0 ∷ []
final_values (Ok d) = marked_values d.marks d.part

-- values in front of what a host lends, as many as there is room for; later entries keep their values
unfoldable pub values_in : List ℕ → List ℕ → List ℕ
values_in values lent = take (length lent) values ++ drop (length values) lent
