-- What the code returns in each case of an outcome's reply is the reply, the buffer and the lines of that outcome: each computes from its case.
-- Assumes nothing.
use mathlib.Core.Path.{◌≡◌, sym, ap, ◌∙◌}
use mathlib.Core.List.{List}
use Prim.Native.Nat.{ℕ}
use Rattle.network.specs.declared.refusal.Refusal.{Refusal}
use Rattle.file_plan.specs.declared.plan.Plan.{Plan}
use Rattle.std.specs.Prelude.{Result, Ok, Err}
use Rattle.file_writer.specs.Writing.{written, buffer_after}
use Rattle.plan_sums.specs.declared.Sums.{Sums}
use Rattle.texts.specs.Texts.{refused_line}
use Rattle.plan_lines.specs.Lines.{plan_lines, none_lines}
use Rattle.plan_outcome.specs.declared.Planned.{Planned}
use Rattle.plan_outcome.specs.declared.Reply.{Reply}
use Rattle.plan_outcome.specs.declared.Reply.TheVariants as Reply·
use Rattle.plan_outcome.specs.declared.Outcome.{Outcome}
use Rattle.planner.specs.Replies.{reply_written, reply_with, reply_for, buffer_with, buffer_for, lines_with, lines_of}

-- what `write_plan` answers is the reply: the file fits, or it does not
module _ (p : Planned) (plan : Plan) (buffer : List ℕ) (w : Result ℕ Refusal) (made : w ≡ written plan buffer) where
  pub plan_fits : (k : ℕ) → w ≡ Ok k → Reply·.Plan p ≡ reply_written p (written plan buffer)
  unfolding reply_written
  plan_fits k fits = ap (reply_written p) (sym fits ∙ made)

  pub plan_short : (f : Refusal) → w ≡ Err f → Reply·.Refused f ≡ reply_written p (written plan buffer)
  unfolding reply_written
  plan_short f short = ap (reply_written p) (sym short ∙ made)

module _ (o found : Outcome) (is : found ≡ o) where
  module _ (buffer : List ℕ) where
    with_reply : (r : Reply) → found.reply ≡ r → reply_with r found.plan buffer ≡ reply_for o buffer
    unfolding reply_for
    with_reply r e = ap (λ (x : Reply). reply_with x found.plan buffer) (sym e) ∙ ap (λ (x : Outcome). reply_for x buffer) is

    with_buffer : (r : Reply) → found.reply ≡ r → buffer_with r found.plan buffer ≡ buffer_for o buffer
    unfolding buffer_for
    with_buffer r e = ap (λ (x : Reply). buffer_with x found.plan buffer) (sym e) ∙ ap (λ (x : Outcome). buffer_for x buffer) is

    pub plan_reply : (p : Planned) (r : Reply) → found.reply ≡ Reply·.Plan p → r ≡ reply_written p (written found.plan buffer) → r ≡ reply_for o buffer
    unfolding reply_with
    plan_reply p r e made = made ∙ with_reply (Reply·.Plan p) e

    pub plan_buffer : (p : Planned) (after : List ℕ) → found.reply ≡ Reply·.Plan p → after ≡ buffer_after found.plan buffer
        → after ≡ buffer_for o buffer
    unfolding buffer_with
    plan_buffer p after e made = made ∙ with_buffer (Reply·.Plan p) e

    pub none_reply : (l : Sums) → found.reply ≡ Reply·.NoPlan l → found.reply ≡ reply_for o buffer
    unfolding reply_with
    none_reply l e = e ∙ with_reply (Reply·.NoPlan l) e

    pub none_buffer : (l : Sums) → found.reply ≡ Reply·.NoPlan l → buffer ≡ buffer_for o buffer
    unfolding buffer_with
    none_buffer l e = with_buffer (Reply·.NoPlan l) e

    pub refused_reply : (f : Refusal) → found.reply ≡ Reply·.Refused f → found.reply ≡ reply_for o buffer
    unfolding reply_with
    refused_reply f e = e ∙ with_reply (Reply·.Refused f) e

    pub refused_buffer : (f : Refusal) → found.reply ≡ Reply·.Refused f → buffer ≡ buffer_for o buffer
    unfolding buffer_with
    refused_buffer f e = with_buffer (Reply·.Refused f) e

  with_lines : (r : Reply) → found.reply ≡ r → lines_with r found.plan ≡ lines_of o
  unfolding lines_of
  with_lines r e = ap (λ (x : Reply). lines_with x found.plan) (sym e) ∙ ap lines_of is

  pub plan_printed : (p : Planned) → found.reply ≡ Reply·.Plan p → plan_lines found.plan p.cost p.sums ≡ lines_of o
  unfolding lines_with
  plan_printed p e = with_lines (Reply·.Plan p) e

  pub none_printed : (l : Sums) → found.reply ≡ Reply·.NoPlan l → none_lines l ≡ lines_of o
  unfolding lines_with
  none_printed l e = with_lines (Reply·.NoPlan l) e

  pub refused_printed : (f : Refusal) → found.reply ≡ Reply·.Refused f → refused_line f ≡ lines_of o
  unfolding lines_with
  refused_printed f e = with_lines (Reply·.Refused f) e
