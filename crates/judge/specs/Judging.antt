-- Document 01, the judge's reply to any sequence of bytes: the line of the mark of a network file with a plan file directly behind it.
-- Assumes nothing.
use Rattle.std.specs.Prelude.{◌≡◌, Bool, List, ℕ, Result, Ok, Err}
use Rattle.network.specs.declared.Network.{Network}
use Rattle.network.specs.declared.refusal.Refusal.{Refusal}
use Rattle.file_plan.specs.declared.plan.Plan.{Plan}
use Rattle.file_both.specs.declared.Both.{Both}
use Rattle.file_stages.specs.Stages.{every_kind}
use Rattle.file_both.specs.Inputs.{both_input_by, both_read}
use Rattle.file_refusals.specs.Files.{FirstBrokenBoth}
use Rattle.file_refusals.specs.Stated.{BothOf}
use Rattle.feeding.specs.Networks.{net_of}
use Rattle.feeding.specs.Acceptance.{Answered, answer_to}
use Rattle.feeding.specs.Plans.{Step}
use Rattle.plan_form.specs.Printing.{steps_of}
use Rattle.texts.specs.Texts.{refused_line}
use Rattle.judge_marks.specs.declared.Mark.{Mark}
use Rattle.judge_marks.specs.declared.Mark.TheVariants as Mark·
use Rattle.judge_marks.specs.Marks.{Marked, mark_of}
use Rattle.judge_line.specs.MarkLines.{mark_line}

-- ---- what the paper asks for

-- an accepted submitted plan: s is a network file that states n, with a plan file of the steps q directly behind it, and
-- keeps rules 1 to 18 and 20
pub record AcceptedPlan (s : List ℕ) (n : Network) (q : List Step) : Type 0 where
  pub plan : Plan
  pub files : BothOf s n plan
  pub steps : q ≡ steps_of plan
  pub kept : Answered (net_of n) (Ok tt)

-- the first rule that the judge's input breaks: of 1 to 13 and 20 over both files, then of 14 to 18
pub data FirstRuleBoth (s : List ℕ) : Refusal → Type 0 where
  in_bytes : {f : Refusal} → FirstBrokenBoth s f → FirstRuleBoth s f
  in_network : {f : Refusal} (n : Network) (p : Plan) → BothOf s n p → Answered (net_of n) (Err f) → FirstRuleBoth s f

-- the judge's reply to s
pub data JudgeReply (s : List ℕ) : List ℕ → Type 0 where
  marked : (n : Network) (q : List Step) {m : Mark} → AcceptedPlan s n q → Marked (net_of n) q m → JudgeReply s (mark_line m)
  refused : {f : Refusal} → FirstRuleBoth s f → JudgeReply s (refused_line f)

-- ---- what computes

-- rules 14 to 18
unfoldable pub mark_accepted : Network → Plan → Result Unit Refusal → Mark
mark_accepted n p (Ok u) = mark_of (net_of n) (steps_of p)
mark_accepted n p (Err f) = Mark·.Refused f

-- rules 1 to 13 and 20
unfoldable pub mark_of_read : Result Both Refusal → Mark
mark_of_read (Ok b) = mark_accepted b.net b.plan (answer_to b.net)
mark_of_read (Err f) = Mark·.Refused f

-- what the bytes s are marked, by the kinds that are known, and where every kind is
unfoldable pub mark_for_by : (ℕ → Bool) → List ℕ → Mark
mark_for_by known s = mark_of_read (both_read (both_input_by known s))

abbrev pub mark_for : List ℕ → Mark
mark_for = mark_for_by every_kind
