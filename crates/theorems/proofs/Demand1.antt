-- Demand 1, sentence by sentence, for every sequence of bytes s. By the contracts of `plan_text` and `mark_text` they leave `plan_text s` and `mark_text s` in front
-- of the lent array and answer its length, which `plan` and `mark` hand to standard output (README.md says what is proved of that and what is read); `plan_into` answers `reply_for (outcome s) before` and leaves
-- `buffer_for (outcome s) before` in the buffer that held `before`.
-- Assumes nothing.
use mathlib.Core.Path.{◌≡◌, sym, ap, ◌∙◌}
use mathlib.Core.List.{List}
use mathlib.Core.Logic.{◌↔◌, ◌⊎◌}
use Prim.Native.Nat.{ℕ, ◌≤◌}
use lib.ListN.{length, take, drop}
use lib.Seq.{take_at}
use Rattle.network.specs.declared.Network.{Network}
use Rattle.network.specs.declared.refusal.Refusal.{Refusal}
use Rattle.std.specs.Prelude.{Ok, Err}
use Rattle.file_stages.specs.declared.Stage.{Stage}
use Rattle.file_stages.specs.declared.Stage.TheVariants.{Links}
use Rattle.file_fields.specs.Views.{Seen}
use Rattle.file_records.specs.Records.{recorded, kind_field, length_field, due_at}
use Rattle.file_network.specs.Inputs.{network_input, network_read}
use Rattle.file_plan.specs.declared.plan.Plan.{Plan}
use Rattle.file_both.specs.Inputs.{both_input, both_read}
use Rattle.feeding.specs.Plans.{Step}
use Rattle.texts.specs.Texts.{refused_line, in_front}
use Rattle.plan_outcome.specs.declared.Reply.{Reply}
use Rattle.plan_outcome.specs.declared.Reply.TheVariants as Reply·
use Rattle.plan_outcome.specs.Outcomes.{outcome}
use Rattle.planner.specs.Replies.{reply_for, buffer_for}
use Rattle.planner.proofs.Promises as Promises
use Rattle.judge.proofs.Marking.{judge_replies}
use Rattle.feeding_acceptance.proofs.Promises.{network_once, first_rule_once, accepted_unrefused}
use Rattle.file_refusals.specs.Breaking.{BreaksFirst, Keeps, ComesNext}
use Rattle.file_refusals.specs.Files.{FirstBroken, FirstBrokenBoth}
use Rattle.file_refusals.specs.Seeing.{SeesSwitches}
use Rattle.file_refusals.specs.Stated.{NetworkOf, BothOf}
use Rattle.file_refusals.proofs.Record.{own_told, record_refused}
use Rattle.file_refusals.proofs.Record as Record
use Rattle.file_refusals.proofs.Reading.{network_unread, network_read_lem, both_unread, both_read_lem}
use Rattle.theorems.proofs.Answers as Answers
use Rattle.theorems.proofs.Exactly as Exactly
use Rattle.theorems.proofs.Lengths as Lengths
use Rattle.theorems.proofs.Buffers as Buffers
use Rattle.feeding_acceptance.specs.Reading.{Bytes, AcceptedNetwork, FirstRule}
use Rattle.planner.specs.Replies.{PlannerReply, LibraryReply}
use Rattle.judge.specs.Judging.{AcceptedPlan, FirstRuleBoth, JudgeReply}
use Rattle.theorems.specs.Words.{plan_text, mark_text}

-- ---- "The program as a whole, planner, judge and record reader together, gives one defined reply to every sequence of input bytes."

module _ (s : List ℕ) (bytes : Bytes s) where
  -- what is printed is the reply that document 01 asks for, and no other text is
  pub planner_reply : PlannerReply s (plan_text s)
  planner_reply = Promises.planner_replies s bytes

  pub planner_one : (t : List ℕ) → PlannerReply s t → t ≡ plan_text s
  planner_one = Answers.planner_once s bytes

  pub judge_reply : JudgeReply s (mark_text s)
  judge_reply = judge_replies s bytes

  pub judge_one : (t : List ℕ) → JudgeReply s t → t ≡ mark_text s
  judge_one = Answers.judge_once s bytes

  -- an accepted input states one network
  pub one_network : (n m : Network) → AcceptedNetwork s n → AcceptedNetwork s m → n ≡ m
  one_network = network_once s bytes

module _ (s : List ℕ) where
  -- and one plan

  pub one_plan : (n m : Network) (q r : List Step) → AcceptedPlan s n q → AcceptedPlan s m r → (n ≡ m) × (q ≡ r)
  one_plan = Exactly.plan_once s

  -- the readers, by the contracts of `read_network` and `read_network_and_plan`: what the files state, or the first of
  -- rules 1 to 13 and 20 that is broken. "A refusal hands out no plan, mark or partial network."
  pub network_stated : (n : Network) → (network_read (network_input s) ≡ Ok n) ↔ NetworkOf s n
  network_stated = network_read_lem s

  pub network_broken : (f : Refusal) → (network_read (network_input s) ≡ Err f) ↔ FirstBroken s f
  network_broken = network_unread s

  pub both_stated : (n : Network) (p : Plan) → (both_read (both_input s) ≡ Ok (record { net = n; plan = p })) ↔ BothOf s n p
  both_stated = both_read_lem s

  pub both_broken : (f : Refusal) → (both_read (both_input s) ≡ Err f) ↔ FirstBrokenBoth s f
  both_broken = both_unread s

  -- and the record reader, by the contracts of `due_at` and `Reader::due`: at an offset where a record is due, the first rule that it breaks, with the offset as its
  -- place, or its kind and length, and the stage that follows; where links stand, what is seen tells which switches stand before it
  pub record_broken : (seen : Seen) (at : ℕ) (stage : Stage) → (stage ≡ Links → SeesSwitches s seen.elements at seen) → (f : Refusal)
      → (due_at s seen at stage ≡ Err f) ↔ (BreaksFirst s seen.elements seen.links at stage f.rule × (f.place ≡ at))
  record_broken seen at stage sees = record_refused s seen.elements seen.links at stage seen (own_told s seen at stage sees)

  pub record_found : (seen : Seen) (at : ℕ) (stage : Stage) → (stage ≡ Links → SeesSwitches s seen.elements at seen)
      → (kind long : ℕ) (next : Stage) → (due_at s seen at stage ≡ recorded kind long next)
      ↔ (Keeps s seen.elements seen.links at stage × (kind ≡ kind_field s at) × (long ≡ length_field s at) × ComesNext stage kind next)
  record_found seen at stage sees = Record.record_found s seen.elements seen.links at stage seen (own_told s seen at stage sees)

-- ---- "Faulty input is refused by the first rule of document 01 that it breaks, with number and place."

module _ (s : List ℕ) (bytes : Bytes s) where
  -- `REFUSED number place` is printed exactly for the first rule that is broken
  pub planner_refuses : (f : Refusal) → (plan_text s ≡ refused_line f) ↔ FirstRule s f
  planner_refuses = Exactly.refused_printed s bytes

  pub judge_refuses : (f : Refusal) → (mark_text s ≡ refused_line f) ↔ FirstRuleBoth s f
  judge_refuses = Exactly.refused_marked s bytes

  -- there is one first rule, with one place, or the input is accepted
  pub one_first_rule : (f g : Refusal) → FirstRule s f → FirstRule s g → f ≡ g
  one_first_rule = first_rule_once s bytes

  pub accepted_or_refused : ((n : Network) × AcceptedNetwork s n) ⊎ ((f : Refusal) × FirstRule s f)
  accepted_or_refused = Exactly.accepted_or_refused s bytes

  pub not_both : (n : Network) (f : Refusal) → AcceptedNetwork s n → ¬ FirstRule s f
  not_both = accepted_unrefused s bytes

  pub judge_one_first_rule : (f g : Refusal) → FirstRuleBoth s f → FirstRuleBoth s g → f ≡ g
  judge_one_first_rule = Exactly.first_both_once s bytes

  pub judge_accepted_or_refused : ((n : Network) × (q : List Step) × AcceptedPlan s n q) ⊎ ((f : Refusal) × FirstRuleBoth s f)
  judge_accepted_or_refused = Exactly.both_accepted_or_refused s bytes

  pub judge_not_both : (n : Network) (q : List Step) (f : Refusal) → AcceptedPlan s n q → ¬ FirstRuleBoth s f
  judge_not_both = Exactly.both_accepted_unrefused s bytes

-- ---- "A refusal writes nothing to a lent buffer.": the buffer that is lent for the plan file. (An array that carries the reply itself carries the refusal
-- too, since that is a reply: docs/DECISIONS.md, 5.)

module _ (s : List ℕ) (bytes : Bytes s) (before : List ℕ) where
  pub refusal_unwritten : (f : Refusal) → reply_for (outcome s) before ≡ Reply·.Refused f → buffer_for (outcome s) before ≡ before
  refusal_unwritten = Buffers.refusal_unwritten s bytes before

  -- and what the library answers and leaves in the buffer is what document 01 asks for, and nothing else is
  pub library_reply : LibraryReply s before (reply_for (outcome s) before) (buffer_for (outcome s) before)
  library_reply = Promises.library_replies s bytes before

  pub library_one : (r : Reply) (after : List ℕ) → LibraryReply s before r after → (r ≡ reply_for (outcome s) before) × (after ≡ buffer_for (outcome s) before)
  library_one = Buffers.library_once s bytes before

-- ---- the lengths of include/tamchuwe.h: TAMCHUWE_PLAN_TEXT_LENGTH, TAMCHUWE_MARK_TEXT_LENGTH; the plan file's is in Demand3

module _ (s : List ℕ) (bytes : Bytes s) where
  pub plan_text_length : length (plan_text s) ≤ 512
  plan_text_length = Lengths.plan_text_short s bytes

  pub mark_text_length : length (mark_text s) ≤ 64
  mark_text_length = Lengths.mark_text_short s bytes

-- what the two clauses of `plan_text` and of `mark_text` say of the array `after`: its first r bytes are the text
pub text_in_front : (text before after : List ℕ) (r : ℕ) → r ≡ length text → after ≡ in_front text before → take r after ≡ text
unfolding in_front
text_in_front text before after r count put = ap (take r) put ∙ take_at text (drop (length text) before) r (sym count)
