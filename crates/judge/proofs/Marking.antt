-- Demands 1 and 2 for the judge, from the bytes: each way of reading and of marking ends in one case of `JudgeReply`, and a case has one mark.
-- Assumes nothing.
use mathlib.Core.Path.{◌≡◌, refl, sym, ap, ◌∙◌, subst}
use mathlib.Core.List.{List}
use mathlib.Core.Logic.{◌↔◌}
use Prim.Native.Nat.{ℕ}
use native.Mathlib.Omega.{arith}
use lib.ListN.{take}
use Rattle.network.specs.declared.Network.{Network}
use Rattle.network.specs.declared.refusal.Refusal.{Refusal}
use Rattle.std.specs.Prelude.{Result, Ok, Err}
use Rattle.network.specs.Accepted.{WellFormed}
use Rattle.file_network.specs.Runs.{Reading}
use Rattle.file_network.specs.Deciding.{decides}
use Rattle.file_plan.specs.declared.plan.Plan.{Plan}
use Rattle.file_both.specs.declared.Both.{Both}
use Rattle.file_both.specs.Inputs.{both_of, both_input, both_read}
use Rattle.file_both.proofs.Alike.{both_decided}
use Rattle.file_refusals.specs.Stated.{BothOf}
use Rattle.file_refusals.proofs.Reading.{both_unread, both_read_lem}
use Rattle.feeding.specs.Networks.{net_of}
use Rattle.feeding.specs.Acceptance.{Answered, Starts, answer_to}
use Rattle.feeding.specs.Plans.{Step, ValidPlan}
use Rattle.feeding.proofs.Views.{formed_net, network_answered, answered_network, accepted_starts}
use Rattle.feeding_acceptance.specs.Reading.{Bytes}
use Rattle.plan_problem.specs.Choosing.{NoneCheaper}
use Rattle.plan_form.specs.Printing.{steps_of}
use Rattle.judge_marks.specs.declared.Score.{Score}
use Rattle.judge_marks.specs.declared.Mark.{Mark}
use Rattle.judge_marks.specs.declared.Mark.TheVariants as Mark·
use Rattle.judge_marks.specs.Marks.{Marked, mark_of}
use Rattle.judge_marks.proofs.Marking.{mark_marked, marked_mark}
use Rattle.judge_marks.proofs.Marking as Marking
use Rattle.judge_marks.specs.Marks as Marks·
use Rattle.judge_line.specs.MarkLines.{mark_line}
use Rattle.judge.specs.Judging.{AcceptedPlan, FirstRuleBoth, in_bytes, in_network, JudgeReply, mark_accepted, mark_of_read, mark_for, mark_for_by}
use Rattle.judge.specs.Judging as Judging
use Rattle.judge.proofs.Read.{BothFormed, both_formed}

-- the mark that `JudgeReply` speaks of, before it is a line
data Judged (s : List ℕ) : Mark → Type 0 where
  marked : (n : Network) (q : List Step) {m : Mark} → AcceptedPlan s n q → Marked (net_of n) q m → Judged s m
  refused : {f : Refusal} → FirstRuleBoth s f → Judged s (Mark·.Refused f)

module _ (s : List ℕ) (bytes : Bytes s) where
  -- files that state a network and a plan state well-formed ones
  pub files_formed : (n : Network) (p : Plan) → BothOf s n p → BothFormed (both_of (n, p))
  files_formed n p files = both_formed s bytes (both_of (n, p)) ((both_read_lem s n p).1 files)

  module _ (n : Network) (q : List Step) (a : AcceptedPlan s n q) where
    pub plan_network : WellFormed n
    plan_network = (files_formed n a.plan a.files).net

    pub plan_starts : Starts (net_of n)
    plan_starts = accepted_starts n plan_network (sym (answered_network n plan_network (Ok tt) a.kept))

    -- an accepted input is marked by its plan
    pub accepted_mark : mark_for s ≡ mark_of (net_of n) q
    unfolding mark_for_by mark_of_read mark_accepted
    accepted_mark =
        ap mark_of_read ((both_read_lem s n a.plan).1 a.files)
        ∙ ap (mark_accepted n a.plan) (sym (answered_network n plan_network (Ok tt) a.kept))
        ∙ ap (mark_of (net_of n)) (sym a.steps)

    -- what it is marked is the paper's mark of its steps, and no other mark is
    pub accepted_marked : Marked (net_of n) q (mark_for s)
    accepted_marked =
        subst (Marked (net_of n) q) (sym accepted_mark) (mark_marked (net_of n) (formed_net n plan_network) plan_starts.safe q)

    pub marked_is : (m : Mark) → Marked (net_of n) q m → m ≡ mark_for s
    marked_is m h = marked_mark (net_of n) (formed_net n plan_network) plan_starts.safe q m h ∙ sym accepted_mark

    -- demand 2: "The judge calls an accepted submitted plan valid if and only if it is one."
    pub valid_exactly : ((v : Score) × (mark_for s ≡ Mark·.Valid v)) ↔ ValidPlan (net_of n) q
    valid_exactly =
        subst (λ (m : Mark). ((v : Score) × (m ≡ Mark·.Valid v)) ↔ ValidPlan (net_of n) q)
        (sym accepted_mark)
        (Marking.valid_exactly (net_of n) (formed_net n plan_network) plan_starts.safe q)

    -- an excess of 0 exactly where no valid plan costs less
    pub excess_exactly : (v : Score) → mark_for s ≡ Mark·.Valid v → (v.excess ≡ 0) ↔ NoneCheaper (net_of n) q
    excess_exactly v e =
        Marking.excess_exactly (net_of n) (formed_net n plan_network) plan_starts.safe q v (sym accepted_mark ∙ e)

  -- what breaks a rule is refused by its first broken rule, with its place
  pub first_is : (f : Refusal) → FirstRuleBoth s f → Mark·.Refused f ≡ mark_for s
  unfolding mark_for_by mark_of_read mark_accepted
  first_is f (in_bytes b) = ap mark_of_read (sym ((both_unread s f).1 b))
  first_is f (in_network n p files h) =
      ap (mark_accepted n p) (answered_network n (files_formed n p files).net (Err f) h) ∙ sym (ap mark_of_read ((both_read_lem s n p).1 files))

  -- rules 14 to 18
  judged_accepted : (n : Network) (p : Plan) → BothOf s n p → (a : Result Unit Refusal) → answer_to n ≡ a → Judged s (mark_accepted n p a)
  unfolding mark_accepted
  judged_accepted n p files a h = go (files_formed n p files).net a h
    where
      go : WellFormed n → (a : Result Unit Refusal) → answer_to n ≡ a → Judged s (mark_accepted n p a)
      go w (Ok u) h =
          marked n (steps_of p)
          (record { plan = p; files = files; steps = refl; kept = subst (Answered (net_of n)) h (network_answered n w) })
          (mark_marked (net_of n) (formed_net n w) (accepted_starts n w h).safe (steps_of p))
      go w (Err f) h = refused (in_network n p files (subst (Answered (net_of n)) h (network_answered n w)))

  -- rules 1 to 13 and 20
  judged_read : (r : Result Both Refusal) → both_read (both_input s) ≡ r → Judged s (mark_of_read r)
  unfolding mark_of_read
  judged_read (Ok b) e = judged_accepted b.net b.plan ((both_read_lem s b.net b.plan).0 e) (answer_to b.net) refl
  judged_read (Err f) e = refused (in_bytes ((both_unread s f).0 e))

  -- what `mark_of` answers
  judged : Judged s (mark_for s)
  unfolding mark_for_by
  judged = judged_read (both_read (both_input s)) refl

  -- the theorem, for its line
  pub judge_replies : JudgeReply s (mark_line (mark_for s))
  unfolding mark_line
  judge_replies = go (mark_for s) judged
    where
      go : (m : Mark) → Judged s m → JudgeReply s (mark_line m)
      go m (marked n q a h) = Judging.marked n q a h
      go _ (refused r) = Judging.refused r

  -- demand 1: nothing else is refused
  pub refused_exactly : (f : Refusal) → (mark_for s ≡ Mark·.Refused f) ↔ FirstRuleBoth s f
  refused_exactly f = (λ e. go (mark_for s) judged e, λ r. sym (first_is f r))
    where
      unmarked : (n : Network) (q : List Step) (m : Mark) → Marked (net_of n) q m → m ≡ Mark·.Refused f → ⊥
      unmarked n q _ (Marks·.broken b) e = let z : ◌≡◌ {A = ℕ} 0 1 = cc in absurd (omega arith)
      unmarked n q _ (Marks·.short b) e = let z : ◌≡◌ {A = ℕ} 0 1 = cc in absurd (omega arith)
      unmarked n q _ (Marks·.valid b) e = let z : ◌≡◌ {A = ℕ} 0 1 = cc in absurd (omega arith)

      go : (m : Mark) → Judged s m → m ≡ Mark·.Refused f → FirstRuleBoth s f
      go m (marked n q a h) e = absurd (unmarked n q m h e)
      go _ (refused {f = f'} r) e = subst (FirstRuleBoth s) same r
        where
          same : f' ≡ f
          same = cc

-- "the first 8,192 bytes decide"
pub mark_decided : (s : List ℕ) → mark_for (take decides s) ≡ mark_for s
unfolding mark_for_by
mark_decided s = ap (λ (o : Reading (Network × Plan)). mark_of_read (both_read o)) (both_decided decides (omega arith) s)
