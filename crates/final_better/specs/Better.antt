-- Document 02, item 4: which of two plan files is the better one, and the step records of it that are handed back.
-- Assumes nothing.
use Rattle.std.specs.Prelude.{◌≡◌, List, [], ℕ, ◌+◌, ◌-◌, ◌*◌, ◌≤◌, ◌<◌, ltb, length, take, drop}
use Rattle.network.specs.Refusals.{pick}
use Rattle.file_plan.specs.declared.plan.Plan.{Plan}
use Rattle.file_writer.specs.Writing.{steps_bytes}
use Rattle.judge_marks.specs.declared.Score.{Score}
use Rattle.judge_marks.specs.declared.Mark.{Mark}
use Rattle.judge_marks.specs.declared.Mark.TheVariants as Mark·
use Rattle.final_better.specs.declared.Better.{Better}
use Rattle.final_better.specs.declared.Better.TheVariants.{First, Second, Neither}
use Rattle.final_better.specs.declared.Part.{Part}

-- ---- what the paper asks for

-- the mark is VALID, with this cost
pub record ValidAt (m : Mark) (cost : ℕ) : Type 0 where
  pub score : Score
  pub valid : m ≡ Mark·.Valid score
  pub cost_is : score.cost ≡ cost

-- the mark is any other
abbrev pub NotValid : Mark → Type 0
NotValid m = (cost : ℕ) → ValidAt m cost → ⊥

-- "VALID beats the rest, then the lower cost; an equal cost goes to the first file."
pub data BetterBy (first second : Mark) : Better → Type 0 where
  first_alone : {a : ℕ} → ValidAt first a → NotValid second → BetterBy first second First
  second_alone : {b : ℕ} → NotValid first → ValidAt second b → BetterBy first second Second
  first_no_dearer : {a b : ℕ} → ValidAt first a → ValidAt second b → a ≤ b → BetterBy first second First
  second_cheaper : {a b : ℕ} → ValidAt first a → ValidAt second b → b < a → BetterBy first second Second
  neither : NotValid first → NotValid second → BetterBy first second Neither

-- "the step records of the better file": the records of the steps of the plan that it states
unfoldable pub better_steps : Plan → Plan → Better → List ℕ
better_steps p q First = steps_bytes p p.steps
better_steps p q Second = steps_bytes q q.steps
better_steps p q Neither = []

-- where they stand, with the two files at these places of what was lent: behind the 6 bytes of the plan head, 8 for each step; "If neither is valid,
-- the part is the first file's, empty."
pub data StandsAt (first second : ℕ) (p q : Plan) : Part → Type 0 where
  of_first : StandsAt first second p q (record { better = First; offset = first + 6; length = 8 * p.steps })
  of_second : StandsAt first second p q (record { better = Second; offset = second + 6; length = 8 * q.steps })
  of_neither : StandsAt first second p q (record { better = Neither; offset = first + 6; length = 0 })

-- ---- what computes: the better file

unfoldable pub second_or_neither : Mark → Better
second_or_neither (Mark·.Broken b) = Neither
second_or_neither (Mark·.Short e) = Neither
second_or_neither (Mark·.Valid v) = Second
second_or_neither (Mark·.Refused f) = Neither

-- against a first file that is valid with this cost
unfoldable pub against_first : ℕ → Mark → Better
against_first a (Mark·.Broken b) = First
against_first a (Mark·.Short e) = First
against_first a (Mark·.Valid v) = pick (ltb v.cost a) Second First
against_first a (Mark·.Refused f) = First

unfoldable pub better_of : Mark → Mark → Better
better_of (Mark·.Broken b) second = second_or_neither second
better_of (Mark·.Short e) second = second_or_neither second
better_of (Mark·.Valid v) second = against_first v.cost second
better_of (Mark·.Refused f) second = second_or_neither second

-- as a number: the first file, the second, neither
abbrev pub better_number : Better → ℕ
better_number First = 0
better_number Second = 1
better_number Neither = 2

-- ---- the part as bytes

-- the step records of a plan file: its bytes but the 6 of the plan head and the 4 of the end
unfoldable pub step_records : List ℕ → List ℕ
step_records file = take (length file - 10) (drop 6 file)

-- "hands back the step records of the better file, a part of the lent bytes"; "If neither is valid, the part is the first file's, empty."
unfoldable pub better_part : List ℕ → List ℕ → Better → List ℕ
better_part first second First = step_records first
better_part first second Second = step_records second
better_part first second Neither = []

-- ---- the part as which file, offset and length, since equal bytes don't say which file they are of

-- the file that the part is of
unfoldable pub file_of : List ℕ → List ℕ → Better → List ℕ
file_of first second First = first
file_of first second Second = second
file_of first second Neither = first

-- where the first step of a file of so many bytes stands: behind the 6 of the plan head
unfoldable pub first_step : ℕ → ℕ
first_step bytes = pick (ltb bytes 6) 0 6

-- in the file itself
unfoldable pub part_of : ℕ → ℕ → Better → Part
part_of first second First = record { better = First; offset = first_step first; length = first - 10 }
part_of first second Second = record { better = Second; offset = first_step second; length = second - 10 }
part_of first second Neither = record { better = Neither; offset = first_step first; length = 0 }

-- in one input, in which the two files stand at start and middle
unfoldable pub start_of : ℕ → ℕ → Better → ℕ
start_of start middle First = start
start_of start middle Second = middle
start_of start middle Neither = start

unfoldable pub part_in : ℕ → ℕ → Part → Part
part_in start middle p = record { better = p.better; offset = start_of start middle p.better + p.offset; length = p.length }
