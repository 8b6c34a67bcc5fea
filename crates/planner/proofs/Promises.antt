-- Demands 1, 2 and 3 for the planner: each case of an outcome is a case of the replies that document 01 asks for, whether the plan's file fits or not.
-- Assumes nothing.
use mathlib.Core.Path.{◌≡◌, refl, sym, ap, ◌∙◌, subst}
use mathlib.Core.Bool.{Bool, true, false}
use mathlib.Core.List.{List, ◌++◌}
use Prim.Native.Nat.{ℕ}
use native.Mathlib.Omega.{arith}
use lib.Dec.{ltb}
use lib.ListN.{length, take, drop}
use borrow.Author.Tests.{ltb-true, ltb-false}
use Rattle.network.specs.declared.refusal.Rule.TheVariants.{BufferTooShort}
use Rattle.network.specs.Refusals.{pick}
use Rattle.file_plan.specs.declared.plan.Plan.{Plan}
use Rattle.std.specs.Prelude.{Result, Ok, Err}
use Rattle.network.specs.declared.refusal.Refusal.{Refusal}
use Rattle.file_writer.specs.Writing.{plan_bytes, plan_length, written, buffer_after}
use Rattle.plan_form.specs.Printing.{steps_of}
use Rattle.feeding_acceptance.specs.Reading.{Bytes}
use Rattle.texts.specs.Texts.{in_front, Counted}
use Rattle.texts.proofs.Pieces.{front_counted, text_in_front}
use Rattle.plan_outcome.specs.declared.Planned.{Planned}
use Rattle.plan_outcome.specs.declared.Reply.{Reply}
use Rattle.plan_outcome.specs.declared.Reply.TheVariants as Reply·
use Rattle.plan_outcome.specs.declared.Outcome.{Outcome}
use Rattle.plan_outcome.specs.Outcomes.{outcome}
use Rattle.plan_outcome.proofs.Promises.{PlanKept, OutcomeKept, outcome_kept}
use Rattle.planner.specs.Replies.{plan_file_of, PlannerReply, LibraryReply, reply_written, reply_with, reply_for, buffer_with, buffer_for, lines_with, lines_of}
use Rattle.planner.specs.Replies as Replies
use Rattle.planner.proofs.Steps.{plan_lines_text, plan_bytes_file, plan_length_lem}

-- ---- the reply with a lent buffer

module _ (s buffer : List ℕ) where
  -- a plan's file that fits, or does not
  file_replied : (p : Planned) (plan : Plan) → PlanKept s p plan → LibraryReply s buffer (reply_written p (written plan buffer)) (buffer_after plan buffer)
  unfolding reply_written written buffer_after
  file_replied p plan kept = go (ltb (length buffer) (plan_length plan)) refl
    where
      long : plan_length plan ≡ length (plan_file_of (steps_of plan))
      long = plan_length_lem plan

      same : record { steps = length (steps_of plan); cost = p.cost; sums = p.sums } ≡ p
      same = ap (λ (n : ℕ). record { steps = n; cost = p.cost; sums = p.sums }) (sym kept.steps)

      left : plan_file_of (steps_of plan) ++ drop (length (plan_file_of (steps_of plan))) buffer ≡ plan_bytes plan ++ drop (plan_length plan) buffer
      left = ap (λ (t : List ℕ). t ++ drop (length (plan_file_of (steps_of plan))) buffer) (sym (plan_bytes_file plan))
          ∙ ap (λ (n : ℕ). plan_bytes plan ++ drop n buffer) (sym long)

      go : (t : Bool) → ltb (length buffer) (plan_length plan) ≡ t
          → LibraryReply s buffer
          (reply_written p (pick {A = Result ℕ Refusal} t (Err (record { rule = BufferTooShort; place = plan_length plan })) (Ok (plan_length plan))))
          (pick t buffer (plan_bytes plan ++ drop (plan_length plan) buffer))
      go true t =
          subst (λ (n : ℕ). LibraryReply s buffer (Reply·.Refused (record { rule = BufferTooShort; place = n })) buffer) (sym long)
          (Replies.LibraryReply.short kept.net (steps_of plan) p.cost kept.accepted kept.promised
          (omega (arith, ltb-true (length buffer) (plan_length plan) t, long)))
      go false t =
          subst (λ (x : Planned). LibraryReply s buffer (Reply·.Plan x) (plan_bytes plan ++ drop (plan_length plan) buffer)) same
          (subst (LibraryReply s buffer (Reply·.Plan (record { steps = length (steps_of plan); cost = p.cost; sums = p.sums }))) left
          (Replies.LibraryReply.plan kept.net (steps_of plan) p.cost p.sums kept.accepted kept.promised kept.loads
          (omega (arith, ltb-false (length buffer) (plan_length plan) t, long))))

  -- any outcome that is kept
  kept_replied : (o : Outcome) → OutcomeKept s o → LibraryReply s buffer (reply_for o buffer) (buffer_for o buffer)
  unfolding reply_for reply_with buffer_for buffer_with
  kept_replied o kept = go o.reply refl
    where
      go : (r : Reply) → o.reply ≡ r → LibraryReply s buffer (reply_with r o.plan buffer) (buffer_with r o.plan buffer)
      go (Reply·.Plan p) e = file_replied p o.plan (kept.plan p e)
      go (Reply·.NoPlan l) e =
          let none = kept.none l e in
          Replies.LibraryReply.none none.net l none.accepted none.no_plan none.loads
      go (Reply·.Refused f) e = Replies.LibraryReply.refused (kept.refused f e)

-- ---- the text

text_replied : (s : List ℕ) (o : Outcome) → OutcomeKept s o → PlannerReply s (lines_of o)
unfolding lines_of lines_with
text_replied s o kept = go o.reply refl
  where
    go : (r : Reply) → o.reply ≡ r → PlannerReply s (lines_with r o.plan)
    go (Reply·.Plan p) e =
        let plan = kept.plan p e in
        subst (PlannerReply s) (sym (plan_lines_text o.plan p.cost p.sums))
        (Replies.PlannerReply.plan plan.net (steps_of o.plan) p.cost p.sums plan.accepted plan.promised plan.loads)
    go (Reply·.NoPlan l) e =
        let none = kept.none l e in
        Replies.PlannerReply.none none.net l none.accepted none.no_plan none.loads
    go (Reply·.Refused f) e = Replies.PlannerReply.refused (kept.refused f e)

-- ---- for the code

module _ (s : List ℕ) (bytes : Bytes s) (buffer : List ℕ) where
  pub library_replies : LibraryReply s buffer (reply_for (outcome s) buffer) (buffer_for (outcome s) buffer)
  library_replies = kept_replied s buffer (outcome s) (outcome_kept s bytes)

  -- the three clauses of `plan_into`, from the first two
  pub returned_kept : {r : Reply} {after : List ℕ} → r ≡ reply_for (outcome s) buffer → after ≡ buffer_for (outcome s) buffer
      → (r ≡ reply_for (outcome s) buffer) × ((after ≡ buffer_for (outcome s) buffer) × LibraryReply s buffer r after)
  returned_kept p q = (p, (q, rw (p, q) library_replies))

pub planner_replies : (s : List ℕ) → Bytes s → PlannerReply s (lines_of (outcome s))
planner_replies s bytes = text_replied s (outcome s) (outcome_kept s bytes)

-- the clauses of `plan_text`, from the text that was put
pub printed_kept : (s : List ℕ) → Bytes s → (buffer text : List ℕ) {r : ℕ} {after : List ℕ} → text ≡ lines_of (outcome s)
    → (r ≡ length text) × (after ≡ in_front text buffer)
    → (r ≡ length (lines_of (outcome s))) × ((after ≡ in_front (lines_of (outcome s)) buffer) × (Counted r after × PlannerReply s (take r after)))
printed_kept s bytes buffer text {r} {after} e put = (
  put.0 ∙ ap length e,
  (
    put.1 ∙ ap (λ (t : List ℕ). in_front t buffer) e,
    (
      rw (put.0, put.1) (front_counted text buffer),
      subst (PlannerReply s) (sym (text_in_front text buffer after r put.0 put.1 ∙ e)) (planner_replies s bytes),
    ),
  ),
)
