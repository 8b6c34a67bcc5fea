-- Document 02, item 4, "Two controllers head to head": what a trial final is decided, of one input and of files lent apart. `States n p q` says what
-- the files state, `Broken f` the first of rules 1 to 13 and 20 that they break.
-- Assumes nothing.
use Rattle.std.specs.Prelude.{◌≡◌, List, ℕ, ◌-◌, ◌≤◌, Result, Ok, Err}
use Rattle.network.specs.declared.Network.{Network}
use Rattle.network.specs.declared.refusal.Refusal.{Refusal}
use Rattle.network.specs.Accepted.{WellFormed}
use Rattle.file_plan.specs.declared.plan.Plan.{Plan}
use Rattle.file_plan.specs.Accepted.{WellFormedPlan}
use Rattle.file_final.specs.declared.FinalRead.{FinalRead}
use Rattle.file_final.specs.Inputs.{final_input, files_input, final_read}
use Rattle.file_final.specs.Finals.{FirstBrokenFinal, FinalOf, FirstBrokenFiles, FilesOf}
use Rattle.feeding.specs.Networks.{net_of}
use Rattle.feeding.specs.Acceptance.{Answered, answer_to}
use Rattle.plan_form.specs.Printing.{steps_of}
use Rattle.judge_marks.specs.declared.BothMarks.{BothMarks}
use Rattle.judge_marks.specs.Marks.{Marked, mark_of}
use Rattle.final_better.specs.Better.{BetterBy, better_of, part_of, part_in}
use Rattle.final_lines.specs.FinalLines.{final_lines}
use Rattle.final_judge.specs.declared.Decided.{Decided}

-- ---- what the paper asks for

-- the files keep rules 1 to 18 and 20
pub record AcceptedFinal (States : Network → Plan → Plan → Type 0) (n : Network) (p q : Plan) : Type 0 where
  pub stated : States n p q
  pub kept : Answered (net_of n) (Ok tt)

-- "Both files keep their own refusals", and "Rules 14 to 18 come after both"
pub data FirstRuleFinal (States : Network → Plan → Plan → Type 0) (Broken : Refusal → Type 0) : Refusal → Type 0 where
  in_files : {f : Refusal} → Broken f → FirstRuleFinal States Broken f
  in_network : {f : Refusal} (n : Network) (p q : Plan) → States n p q → Answered (net_of n) (Err f) → FirstRuleFinal States Broken f

-- "The judge prints both marks in file order", by which the better file is found; "A refusal hands out no plan, mark or partial network."
pub data DecidedBy (States : Network → Plan → Plan → Type 0) (Broken : Refusal → Type 0) : Result Decided Refusal → Type 0 where
  marked : (n : Network) (p q : Plan) {d : Decided} → AcceptedFinal States n p q
      → Marked (net_of n) (steps_of p) d.marks.first → Marked (net_of n) (steps_of q) d.marks.second
      → BetterBy d.marks.first d.marks.second d.part.better → DecidedBy States Broken (Ok d)
  refused : {f : Refusal} → FirstRuleFinal States Broken f → DecidedBy States Broken (Err f)

-- one input: the plan files start somewhere in it
abbrev pub StatesFinal : List ℕ → Network → Plan → Plan → Type 0
StatesFinal s n p q = (start : ℕ) × (middle : ℕ) × FinalOf s n p q start middle

abbrev pub FinalDecided : List ℕ → Result Decided Refusal → Type 0
FinalDecided s = DecidedBy (StatesFinal s) (FirstBrokenFinal s)

-- files lent apart
abbrev pub FilesDecided : (network first second : List ℕ) → Result Decided Refusal → Type 0
FilesDecided network first second = DecidedBy (FilesOf network first second) (FirstBrokenFiles network first second)

-- the marks of what is decided, and its lines
abbrev pub marks_of : Result Decided Refusal → Result BothMarks Refusal
marks_of (Ok d) = Ok d.marks
marks_of (Err f) = Err f

abbrev pub decided_lines : Result Decided Refusal → List ℕ
decided_lines d = final_lines (marks_of d)

-- what is printed of it
pub record PrintedBy (States : Network → Plan → Plan → Type 0) (Broken : Refusal → Type 0) (text : List ℕ) : Type 0 where
  pub reply : Result Decided Refusal
  pub decided : DecidedBy States Broken reply
  pub lines : text ≡ decided_lines reply

abbrev pub FinalReply : List ℕ → List ℕ → Type 0
FinalReply s = PrintedBy (StatesFinal s) (FirstBrokenFinal s)

abbrev pub FilesReply : (network first second : List ℕ) → List ℕ → Type 0
FilesReply network first second = PrintedBy (FilesOf network first second) (FirstBrokenFiles network first second)

-- ---- what computes

-- both marks, and the part of the better file by its offset in that file
unfoldable pub marked_final : FinalRead → BothMarks → Decided
marked_final r m = record { marks = m; part = part_of (r.middle - r.start) (r.end - r.middle) (better_of m.first m.second) }

unfoldable pub both_marks : FinalRead → BothMarks
both_marks r = record { first = mark_of (net_of r.net) (steps_of r.first); second = mark_of (net_of r.net) (steps_of r.second) }

-- rules 14 to 18
unfoldable pub final_accepted : FinalRead → Result Unit Refusal → Result Decided Refusal
final_accepted r (Ok u) = Ok (marked_final r (both_marks r))
final_accepted r (Err f) = Err f

-- rules 1 to 13 and 20
unfoldable pub decided_read : Result FinalRead Refusal → Result Decided Refusal
decided_read (Ok r) = final_accepted r (answer_to r.net)
decided_read (Err f) = Err f

-- the part by its offset in the one input
unfoldable pub in_input : FinalRead → Result Decided Refusal → Result Decided Refusal
in_input r (Ok d) = Ok (record { marks = d.marks; part = part_in r.start r.middle d.part })
in_input r (Err f) = Err f

unfoldable pub decided_in_input : Result FinalRead Refusal → Result Decided Refusal
decided_in_input (Ok r) = in_input r (decided_read (Ok r))
decided_in_input (Err f) = Err f

unfoldable pub final_for : List ℕ → Result Decided Refusal
final_for s = decided_in_input (final_read (final_input s))

unfoldable pub files_for : (network first second : List ℕ) → Result Decided Refusal
files_for network first second = decided_read (final_read (files_input network first second))

-- what was read is well formed, and the files stand behind one another
pub record ReadFormed (r : FinalRead) : Type 0 where
  pub net : WellFormed r.net
  pub first : WellFormedPlan r.net.links r.first
  pub second : WellFormedPlan r.net.links r.second
  pub first_behind : r.start ≤ r.middle
  pub second_behind_lem : r.middle ≤ r.end
  pub short : r.end ≤ 6352
