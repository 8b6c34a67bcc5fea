-- Document 01, the planner's reply to any sequence of bytes: which texts are its replies, what the library answers and leaves in a lent buffer, and what
-- computes both.
-- Assumes nothing.
use Rattle.std.specs.Prelude.{List, [], ◌∷◌, ◌++◌, ℕ, ◌<◌, ◌≤◌, length, drop, Result, Ok, Err}
use Rattle.network.specs.declared.Network.{Network}
use Rattle.network.specs.declared.refusal.Refusal.{Refusal}
use Rattle.network.specs.declared.refusal.Rule.TheVariants.{BufferTooShort}
use Rattle.feeding.specs.Networks.{net_of}
use Rattle.feeding.specs.Plans.{Step, run}
use Rattle.feeding_acceptance.specs.Reading.{AcceptedNetwork, FirstRule}
use Rattle.plan_problem.specs.Choosing.{Promised, NoPlan}
use Rattle.plan_sums.specs.declared.Sums.{Sums}
use Rattle.plan_sums.specs.Sums.{LoadsIn}
use Rattle.file_plan.specs.declared.plan.Plan.{Plan}
use Rattle.file_writer.specs.Writing.{plan_head_bytes, step_bytes, end_bytes, written, buffer_after}
use Rattle.texts.specs.Texts.{refused_line}
use Rattle.plan_lines.specs.Lines.{plan_line, step_line, reply_text, tail_lines, plan_lines, none_lines}
use Rattle.plan_outcome.specs.declared.Planned.{Planned}
use Rattle.plan_outcome.specs.declared.Reply.{Reply}
use Rattle.plan_outcome.specs.declared.Reply.TheVariants as Reply·
use Rattle.plan_outcome.specs.declared.Outcome.{Outcome}

-- ---- what the paper asks for

-- "a line OPEN link or CLOSE link for each step"
unfoldable pub step_texts : List Step → List ℕ
step_texts [] = []
step_texts (s ∷ q) = step_line s.link s.want ++ step_texts q

-- "PLAN steps cost, then a line .. for each step, then LOAD fed dark lost"
unfoldable pub plan_text_of : List Step → ℕ → Sums → List ℕ
plan_text_of q cost l = reply_text (plan_line (length q) cost) (step_texts q) (tail_lines l)

-- "A plan file is one plan head, its steps, one end."
unfoldable pub step_files : List Step → List ℕ
step_files [] = []
step_files (s ∷ q) = step_bytes s.link s.want ++ step_files q

unfoldable pub plan_file_of : List Step → List ℕ
plan_file_of q = plan_head_bytes (length q) ++ step_files q ++ end_bytes

-- the planner's reply to s
pub data PlannerReply (s : List ℕ) : List ℕ → Type 0 where
  plan : (n : Network) (q : List Step) (cost : ℕ) (l : Sums) → AcceptedNetwork s n → Promised (net_of n) q cost
      → LoadsIn (net_of n) (run (net_of n).start_closed q) l → PlannerReply s (plan_text_of q cost l)
  none : (n : Network) (l : Sums) → AcceptedNetwork s n → NoPlan (net_of n) → LoadsIn (net_of n) (net_of n).start_closed l → PlannerReply s (none_lines l)
  refused : {f : Refusal} → FirstRule s f → PlannerReply s (refused_line f)

-- the reply of the library, with the buffer before and after
pub data LibraryReply (s before : List ℕ) : Reply → List ℕ → Type 0 where
  -- "If it fits, the file fills the buffer's front and later bytes keep their values."
  plan : (n : Network) (q : List Step) (cost : ℕ) (l : Sums) → AcceptedNetwork s n → Promised (net_of n) q cost
      → LoadsIn (net_of n) (run (net_of n).start_closed q) l → length (plan_file_of q) ≤ length before
      → LibraryReply s before (Reply·.Plan (record { steps = length q; cost = cost; sums = l })) (plan_file_of q ++ drop (length (plan_file_of q)) before)
  -- "19. The buffer lent for the plan file is shorter than that file (the length needed); only library callers meet it."
  short : (n : Network) (q : List Step) (cost : ℕ) → AcceptedNetwork s n → Promised (net_of n) q cost → length before < length (plan_file_of q)
      → LibraryReply s before (Reply·.Refused (record { rule = BufferTooShort; place = length (plan_file_of q) })) before
  -- "NONE has no plan file and writes nothing."
  none : (n : Network) (l : Sums) → AcceptedNetwork s n → NoPlan (net_of n) → LoadsIn (net_of n) (net_of n).start_closed l
      → LibraryReply s before (Reply·.NoPlan l) before
  refused : {f : Refusal} → FirstRule s f → LibraryReply s before (Reply·.Refused f) before

-- ---- what computes: the plan file in a lent buffer

-- rule 19 comes last
unfoldable pub reply_written : Planned → Result ℕ Refusal → Reply
reply_written p (Ok n) = Reply·.Plan p
reply_written p (Err f) = Reply·.Refused f

unfoldable pub reply_with : Reply → Plan → List ℕ → Reply
reply_with (Reply·.Plan p) found buffer = reply_written p (written found buffer)
reply_with (Reply·.NoPlan l) found buffer = Reply·.NoPlan l
reply_with (Reply·.Refused f) found buffer = Reply·.Refused f

unfoldable pub reply_for : Outcome → List ℕ → Reply
reply_for o buffer = reply_with o.reply o.plan buffer

-- "If it fits, the file fills the buffer's front and later bytes keep their values. NONE has no plan file and writes nothing."
unfoldable pub buffer_with : Reply → Plan → List ℕ → List ℕ
buffer_with (Reply·.Plan p) found buffer = buffer_after found buffer
buffer_with (Reply·.NoPlan l) found buffer = buffer
buffer_with (Reply·.Refused f) found buffer = buffer

unfoldable pub buffer_for : Outcome → List ℕ → List ℕ
buffer_for o buffer = buffer_with o.reply o.plan buffer

-- and the printed lines; this is also what document 01 says of each case of the reply

unfoldable pub lines_with : Reply → Plan → List ℕ
lines_with (Reply·.Plan p) found = plan_lines found p.cost p.sums
lines_with (Reply·.NoPlan l) found = none_lines l
lines_with (Reply·.Refused f) found = refused_line f

unfoldable pub lines_of : Outcome → List ℕ
lines_of o = lines_with o.reply o.plan
