-- Document 01, "Printed lines" of the planner; the line of a refusal is in `texts`.
-- Assumes nothing.
use Rattle.std.specs.Prelude.{Bool, true, false, ℕ, zero, suc, get_or, Option, Some, None}
use mathlib.Core.List.{List, [], ◌∷◌, ◌++◌, foldr}
use Rattle.texts.specs.Texts.{field, signed_field, feed, line_of}
use Rattle.feeding_margins.specs.declared.Spot.{Spot}
use Rattle.file_plan.specs.declared.plan.Plan.{Plan}
use Rattle.plan_sums.specs.declared.Sums.{Sums}

-- the words PLAN, NONE, LOAD, MARGIN, OPEN and CLOSE
abbrev pub plan_word : List ℕ
plan_word = 80 ∷ 76 ∷ 65 ∷ 78 ∷ []

abbrev pub none_word : List ℕ
none_word = 78 ∷ 79 ∷ 78 ∷ 69 ∷ []

abbrev pub load_word : List ℕ
load_word = 76 ∷ 79 ∷ 65 ∷ 68 ∷ []

abbrev pub margin_word : List ℕ
margin_word = 77 ∷ 65 ∷ 82 ∷ 71 ∷ 73 ∷ 78 ∷ []

-- a blank and a minus sign
abbrev pub none_mark : List ℕ
none_mark = 32 ∷ 45 ∷ []

abbrev pub step_word : Bool → List ℕ
step_word true = 67 ∷ 76 ∷ 79 ∷ 83 ∷ 69 ∷ []
step_word false = 79 ∷ 80 ∷ 69 ∷ 78 ∷ []

-- "PLAN steps cost"
unfoldable pub plan_line : ℕ → ℕ → List ℕ
plan_line steps cost = line_of plan_word steps cost

-- "a line OPEN link or CLOSE link for each step"
unfoldable pub step_line : ℕ → Bool → List ℕ
step_line link close = step_word close ++ field link ++ feed

-- the lines of the first n steps
unfoldable pub step_lines : Plan → ℕ → List ℕ
step_lines p zero = []
step_lines p (suc n) = step_lines p n ++ step_line (get_or p.link n 0) (get_or p.close n false)

-- "LOAD fed dark lost"
unfoldable pub load_line : Sums → List ℕ
load_line s = load_word ++ field s.fed ++ field s.dark ++ field s.lost ++ feed

-- "MARGIN element number for the live element with the least margin .., or MARGIN - if none is live"
unfoldable pub margin_line : Option Spot → List ℕ
margin_line (Some spot) = margin_word ++ field spot.element ++ signed_field spot.margin ++ feed
margin_line None = margin_word ++ none_mark ++ feed

-- ---- the lines of a reply

-- lines one behind the other
unfoldable pub text_of : List (List ℕ) → List ℕ
text_of lines = foldr ◌++◌ [] lines

-- a reply with its lines: its head line, those of its steps, and its tail
unfoldable pub reply_text : List ℕ → List ℕ → List (List ℕ) → List ℕ
reply_text head steps tail = head ++ steps ++ text_of tail

-- the tail, after PLAN and its steps and after NONE: "then LOAD fed dark lost"
unfoldable pub tail_lines : Sums → List (List ℕ)
tail_lines s = load_line s ∷ []

-- bytes that suffice for the tail
abbrev pub tail_room : ℕ
tail_room = 68

unfoldable pub plan_lines : Plan → ℕ → Sums → List ℕ
plan_lines p cost s = reply_text (plan_line p.steps cost) (step_lines p p.steps) (tail_lines s)

-- "a line that is the four bytes NONE, then LOAD"
unfoldable pub none_lines : Sums → List ℕ
none_lines s = reply_text (none_word ++ feed) [] (tail_lines s)
