-- Each way through the judge's functions ends in the mark that the definition gives.
-- Assumes nothing.
use mathlib.Core.Path.{◌≡◌, sym, ap, ◌∙◌, subst}
use mathlib.Core.List.{List}
use Prim.Native.Nat.{ℕ}
use lib.ListN.{length, take}
use Rattle.network.specs.declared.refusal.Refusal.{Refusal}
use Rattle.std.specs.Prelude.{Result, Ok, Err}
use Rattle.network.specs.Accepted.{WellFormed}
use Rattle.file_both.specs.declared.Both.{Both}
use Rattle.file_plan.specs.Accepted.{WellFormedPlan}
use Rattle.file_both.specs.Inputs.{both_input, both_read}
use Rattle.feeding.specs.Networks.{net_of}
use Rattle.feeding.specs.Acceptance.{answer_to}
use Rattle.feeding.proofs.Views.{accepted_starts}
use Rattle.feeding_acceptance.specs.Reading.{Bytes, handed_out}
use Rattle.feeding_acceptance.proofs.Reading.{handed_accepted, handed_refused}
use Rattle.feeding_start.specs.declared.Start.{Start}
use Rattle.feeding_start.specs.Starting.{start_of, start_with, Begun}
use Rattle.feeding_start.proofs.Starts.{begun_network}
use Rattle.plan_form.specs.Printing.{steps_of}
use Rattle.judge_marks.specs.declared.Mark.{Mark}
use Rattle.judge_marks.specs.declared.Mark.TheVariants as Mark·
use Rattle.judge_marks.specs.Marks.{mark_of}
use Rattle.texts.specs.Texts.{in_front, Counted}
use Rattle.texts.proofs.Pieces.{front_counted, text_in_front}
use Rattle.judge_line.specs.MarkLines.{mark_line}
use Rattle.judge.specs.Judging.{JudgeReply, mark_accepted, mark_of_read, mark_for, mark_for_by}
use Rattle.judge.proofs.Marking.{judge_replies}
use Rattle.judge.proofs.Read.{BothFormed, both_formed}

-- ---- what was read

module _ (s : List ℕ) (bytes : Bytes s) (read : Result Both Refusal) (is : read ≡ both_read (both_input s)) where
  -- the mark, and what it keeps
  pub returned : (m : Mark) → m ≡ mark_for s → (m ≡ mark_for s) × JudgeReply s (mark_line m)
  returned m e = (e, subst (λ (x : Mark). JudgeReply s (mark_line x)) (sym e) (judge_replies s bytes))

  pub unread_mark : (f : Refusal) → read ≡ Err f → Mark·.Refused f ≡ mark_for s
  unfolding mark_for_by mark_of_read
  unread_mark f e = ap mark_of_read (sym e ∙ is)

  module _ (b : Both) (ok : read ≡ Ok b) where
    formed : BothFormed b
    formed = both_formed s bytes b (sym is ∙ ok)

    pub read_network : WellFormed b.net
    read_network = formed.net

    module _ (a : Result Start Refusal) (start : a ≡ handed_out b.net (answer_to b.net)) where
      accepted_mark : mark_accepted b.net b.plan (answer_to b.net) ≡ mark_for s
      unfolding mark_for_by mark_of_read
      accepted_mark = ap mark_of_read (sym ok ∙ is)

      pub unaccepted_mark : (f : Refusal) → a ≡ Err f → Mark·.Refused f ≡ mark_for s
      unfolding mark_accepted
      unaccepted_mark f e = ap (mark_accepted b.net b.plan) (sym (handed_refused b.net (answer_to b.net) f (sym start ∙ e))) ∙ accepted_mark

      module _ (st : Start) (e : a ≡ Ok st) where
        answer_is : answer_to b.net ≡ Ok tt
        answer_is = (handed_accepted b.net (answer_to b.net) st (sym start ∙ e)).0

        -- the start is the network's own
        start_is : st ≡ start_of b.net
        start_is = (handed_accepted b.net (answer_to b.net) st (sym start ∙ e)).1

        pub plan_mark : (m : Mark) → m ≡ mark_of (net_of st.net) (steps_of b.plan) → m ≡ mark_for s
        unfolding mark_accepted start_with
        plan_mark m h =
            h ∙ ap (λ (x : Start). mark_of (net_of x.net) (steps_of b.plan)) start_is
            ∙ ap (mark_accepted b.net b.plan) (sym answer_is) ∙ accepted_mark

        pub read_begun : Begun st
        read_begun = subst Begun (sym start_is) (begun_network b.net formed.net (accepted_starts b.net formed.net answer_is))

        pub read_plan : WellFormedPlan st.net.links b.plan
        unfolding start_with
        read_plan = subst (λ (x : Start). WellFormedPlan x.net.links b.plan) (sym start_is) formed.plan

-- ---- the mark's line

pub printed_mark : (s : List ℕ) (m : Mark) (buffer : List ℕ) {r : ℕ} {after : List ℕ} → (m ≡ mark_for s) × JudgeReply s (mark_line m)
    → (r ≡ length (mark_line m)) × (after ≡ in_front (mark_line m) buffer)
    → (r ≡ length (mark_line (mark_for s))) × ((after ≡ in_front (mark_line (mark_for s)) buffer) × (Counted r after × JudgeReply s (take r after)))
printed_mark s m buffer {r} {after} h put = (
  put.0 ∙ ap (λ (x : Mark). length (mark_line x)) h.0,
  (
    put.1 ∙ ap (λ (x : Mark). in_front (mark_line x) buffer) h.0,
    (
      rw (put.0, put.1) (front_counted (mark_line m) buffer),
      subst (JudgeReply s) (sym (text_in_front (mark_line m) buffer after r put.0 put.1)) h.1,
    ),
  ),
)
