-- The lent buffer: by cases on the outcome and on whether the plan's file fits. The file in its front, behind the network file, is marked VALID.
-- Assumes nothing.
use mathlib.Core.Path.{◌≡◌, refl, sym, ap, ◌∙◌, subst}
use mathlib.Core.List.{List, ◌++◌}
use mathlib.Core.Logic.{◌↔◌}
use Prim.Native.Nat.{ℕ, ◌<◌, ◌≤◌}
use native.Mathlib.Omega.{arith}
use lib.Dec.{ltb}
use lib.ListN.{length, take, drop}
use lib.Seq.{take_at}
use borrow.Author.Tests.{lt-ltb, le-ltb}
use Rattle.network.specs.declared.Network.{Network}
use Rattle.network.specs.declared.refusal.Refusal.{Refusal}
use Rattle.network.specs.declared.refusal.Rule.TheVariants.{BufferTooShort}
use Rattle.feeding.specs.Plans.{Step}
use Rattle.file_plan.specs.declared.plan.Plan.{Plan}
use Rattle.plan_form.specs.Printing.{steps_of}
use Rattle.network.specs.Refusals.{pick}
use Rattle.std.specs.Prelude.{Result, Ok, Err}
use Rattle.file_writer.specs.Writing.{plan_bytes, plan_length, written, buffer_after}
use Rattle.file_writer.proofs.Files.{plan_bytes_length}
use Rattle.plan_sums.specs.declared.Sums.{Sums}
use Rattle.texts.specs.Texts.{line_of, refused_line}
use Rattle.plan_lines.specs.Lines.{none_lines}
use Rattle.plan_outcome.proofs.Promises.{outcome_kept}
use Rattle.planner.proofs.Promises.{library_replies}
use Rattle.planner.proofs.Steps.{plan_bytes_file, plan_length_lem}
use Rattle.planner.specs.Replies as Replies
use Rattle.judge_line.specs.MarkLines.{valid_word}
use Rattle.plan_outcome.specs.declared.Planned.{Planned}
use Rattle.plan_outcome.specs.declared.Reply.{Reply}
use Rattle.plan_outcome.specs.declared.Reply.TheVariants as Reply·
use Rattle.plan_outcome.specs.Outcomes.{outcome}
use Rattle.planner.specs.Replies.{reply_written, reply_with, reply_for, buffer_with, buffer_for}
use Rattle.theorems.proofs.Texts.{plan_text_same, none_text_same, refused_same}
use Rattle.theorems.proofs.Answers.{plan_text_is, none_text_is, refused_text_is, promised_text, promised_printed, first_text, planner_once}
use Rattle.theorems.proofs.Submitted.{found_submitted, found_marked}
use Rattle.theorems.proofs.Words.{reply_printed, none_printed_by, refused_printed_by, valid_word_lem}
use Rattle.feeding_acceptance.specs.Reading.{Bytes, AcceptedNetwork, FirstRule}
use Rattle.planner.specs.Replies.{plan_text_of, plan_file_of, PlannerReply, LibraryReply}
use Rattle.judge.specs.Judging.{AcceptedPlan}
use Rattle.theorems.specs.Words.{plan_text, mark_text}

module _ (s : List ℕ) (bytes : Bytes s) (q : List Step) (cost : ℕ) (l : Sums) (printed : plan_text s ≡ plan_text_of q cost l) where
  -- what was found for a printed plan
  abbrev planned : Planned
  planned = record { steps = length q; cost = cost; sums = l }

  record FoundFor : Type 0 where
    pub is : (outcome s).reply ≡ Reply·.Plan planned
    pub steps : steps_of (outcome s).plan ≡ q
    pub long : plan_length (outcome s).plan ≡ length (plan_file_of q)

  found_for : FoundFor
  found_for = go (reply_printed s q cost l printed)
    where
      go : ((p : Planned) × ((outcome s).reply ≡ Reply·.Plan p)) → FoundFor
      go (p, is) =
          let same = plan_text_same (steps_of (outcome s).plan) q p.cost cost p.sums l (sym (plan_text_is s p is) ∙ printed) in
          let count : p.steps ≡ length q = ((outcome_kept s bytes).plan p is).steps ∙ ap length same.0 in
          record {
            is = is ∙ (λ i. Reply·.Plan (record { steps = count i; cost = same.1 i; sums = same.2 i }));
            steps = same.0;
            long = plan_length_lem (outcome s).plan ∙ ap (λ (r : List Step). length (plan_file_of r)) same.0;
          }

  file_is : plan_bytes (outcome s).plan ≡ plan_file_of q
  file_is = plan_bytes_file (outcome s).plan ∙ ap plan_file_of found_for.steps

  module _ (before : List ℕ) where
    -- it fits
    front_is : length (plan_file_of q) ≤ length before → buffer_for (outcome s) before ≡ plan_bytes (outcome s).plan ++ drop (length (plan_file_of q)) before
    unfolding buffer_for buffer_with buffer_after
    front_is room =
        ap (λ (r : Reply). buffer_with r (outcome s).plan before) found_for.is
        ∙ fits (plan_length (outcome s).plan) found_for.long
      where
        fits : (n : ℕ) → n ≡ length (plan_file_of q)
            → pick (ltb (length before) n) before (plan_bytes (outcome s).plan ++ drop n before) ≡ plan_bytes (outcome s).plan ++ drop (length (plan_file_of q)) before
        fits n e = rw (e, le-ltb (length before) (length (plan_file_of q)) room)

    pub buffer_is : length (plan_file_of q) ≤ length before → buffer_for (outcome s) before ≡ plan_file_of q ++ drop (length (plan_file_of q)) before
    buffer_is room = front_is room ∙ ap (λ (b : List ℕ). b ++ drop (length (plan_file_of q)) before) file_is

    pub reply_fits : length (plan_file_of q) ≤ length before → reply_for (outcome s) before ≡ Reply·.Plan (record { steps = length q; cost = cost; sums = l })
    unfolding reply_for reply_with written reply_written
    reply_fits room =
        ap (λ (r : Reply). reply_with r (outcome s).plan before) found_for.is
        ∙ fits (plan_length (outcome s).plan) found_for.long
      where
        fits : (n : ℕ) → n ≡ length (plan_file_of q)
            → reply_written planned (pick {A = Result ℕ Refusal} (ltb (length before) n) (Err (record { rule = BufferTooShort; place = n })) (Ok n)) ≡ Reply·.Plan planned
        fits n e = rw (e, le-ltb (length before) (length (plan_file_of q)) room)

    -- rule 19
    reply_short : length before < length (plan_file_of q) → reply_for (outcome s) before ≡ Reply·.Refused (record { rule = BufferTooShort; place = length (plan_file_of q) })
    unfolding reply_for reply_with written reply_written
    reply_short short =
        ap (λ (r : Reply). reply_with r (outcome s).plan before) found_for.is
        ∙ fails (plan_length (outcome s).plan) found_for.long
      where
        fails : (n : ℕ) → n ≡ length (plan_file_of q)
            → reply_written planned (pick {A = Result ℕ Refusal} (ltb (length before) n) (Err (record { rule = BufferTooShort; place = n })) (Ok n))
            ≡ Reply·.Refused (record { rule = BufferTooShort; place = length (plan_file_of q) })
        fails n e = rw (e, lt-ltb (length before) (length (plan_file_of q)) short)

    front : length (plan_file_of q) ≤ length before → take (length (plan_file_of q)) (buffer_for (outcome s) before) ≡ plan_bytes (outcome s).plan
    front room =
        ap (take (length (plan_file_of q))) (front_is room)
        ∙ take_at (plan_bytes (outcome s).plan) (drop (length (plan_file_of q)) before) (length (plan_file_of q))
        (plan_bytes_length (outcome s).plan ∙ found_for.long)

    -- the plan file that is left in the buffer, behind the network file: VALID
    pub file_valid : length (plan_file_of q) ≤ length before
        → mark_text (s ++ take (length (plan_file_of q)) (buffer_for (outcome s) before)) ≡ line_of valid_word cost 0
    file_valid room =
        ap (λ (b : List ℕ). mark_text (s ++ b)) (front room)
        ∙ valid_word_lem (s ++ plan_bytes (outcome s).plan) (record { cost = cost; excess = 0 }) (found_marked s bytes planned found_for.is)

    -- an accepted submitted plan of the same steps
    pub file_submitted : (n : Network) → AcceptedNetwork s n → length (plan_file_of q) ≤ length before
        → AcceptedPlan (s ++ take (length (plan_file_of q)) (buffer_for (outcome s) before)) n q
    file_submitted n a room =
        subst (λ (b : List ℕ). AcceptedPlan (s ++ b) n q) (sym (front room))
        (subst (AcceptedPlan (s ++ plan_bytes (outcome s).plan) n) found_for.steps (found_submitted s bytes n a planned found_for.is))

-- ---- the other replies, whatever the buffer

module _ (s before : List ℕ) where
  pub reply_none : (l : Sums) → plan_text s ≡ none_lines l → reply_for (outcome s) before ≡ Reply·.NoPlan l
  unfolding reply_for reply_with
  reply_none l e = go (none_printed_by s l e)
    where
      go : ((m : Sums) × ((outcome s).reply ≡ Reply·.NoPlan m)) → reply_for (outcome s) before ≡ Reply·.NoPlan l
      go (m, is) = ap (λ (r : Reply). reply_with r (outcome s).plan before) is ∙ ap Reply·.NoPlan (none_text_same m l (sym (none_text_is s m is) ∙ e))

  reply_refused : (f : Refusal) → plan_text s ≡ refused_line f → reply_for (outcome s) before ≡ Reply·.Refused f
  unfolding reply_for reply_with
  reply_refused f e = go (refused_printed_by s f e)
    where
      go : ((g : Refusal) × ((outcome s).reply ≡ Reply·.Refused g)) → reply_for (outcome s) before ≡ Reply·.Refused f
      go (g, is) = ap (λ (r : Reply). reply_with r (outcome s).plan before) is ∙ ap Reply·.Refused (refused_same g f (sym (refused_text_is s g is) ∙ e))

-- ---- the library's reply, and no other

module _ (s : List ℕ) (bytes : Bytes s) (before : List ℕ) where
  -- a refusal and NONE leave the buffer as it was
  pub refusal_unwritten : (f : Refusal) → reply_for (outcome s) before ≡ Reply·.Refused f → buffer_for (outcome s) before ≡ before
  refusal_unwritten f e = go _ _ (library_replies s bytes before) e
    where
      go : (r : Reply) (after : List ℕ) → LibraryReply s before r after → r ≡ Reply·.Refused f → after ≡ before
      go _ _ (Replies.LibraryReply.plan n q cost l a p h room) e = let z : ◌≡◌ {A = ℕ} 0 1 = cc in absurd (omega arith)
      go _ _ (Replies.LibraryReply.short n q cost a p few) e = refl
      go _ _ (Replies.LibraryReply.none n l a p h) e = refl
      go _ _ (Replies.LibraryReply.refused b) e = refl

  none_unwritten : (l : Sums) → reply_for (outcome s) before ≡ Reply·.NoPlan l → buffer_for (outcome s) before ≡ before
  none_unwritten l e = go _ _ (library_replies s bytes before) e
    where
      go : (r : Reply) (after : List ℕ) → LibraryReply s before r after → r ≡ Reply·.NoPlan l → after ≡ before
      go _ _ (Replies.LibraryReply.plan n q cost m a p h room) e = let z : ◌≡◌ {A = ℕ} 0 1 = cc in absurd (omega arith)
      go _ _ (Replies.LibraryReply.short n q cost a p few) e = refl
      go _ _ (Replies.LibraryReply.none n m a p h) e = refl
      go _ _ (Replies.LibraryReply.refused b) e = refl

  pub library_once : (r : Reply) (after : List ℕ) → LibraryReply s before r after → (r ≡ reply_for (outcome s) before) × (after ≡ buffer_for (outcome s) before)
  library_once _ _ (Replies.LibraryReply.plan n q cost l a p h room) =
      let printed = sym (promised_text s bytes n q cost l a p h) in
      (sym (reply_fits s bytes q cost l printed before room), sym (buffer_is s bytes q cost l printed before room))
  library_once _ _ (Replies.LibraryReply.short n q cost a p few) =
      let printed = promised_printed s bytes n q cost a p in
      let is = reply_short s bytes q cost printed.0 printed.1 before few in
      (sym is, sym (refusal_unwritten (record { rule = BufferTooShort; place = length (plan_file_of q) }) is))
  library_once _ _ (Replies.LibraryReply.none n l a p h) =
      let is = reply_none s before l (sym (planner_once s bytes (none_lines l) (Replies.PlannerReply.none n l a p h))) in
      (sym is, sym (none_unwritten l is))
  library_once _ _ (Replies.LibraryReply.refused {f = f} b) =
      let is = reply_refused s before f (sym (first_text s bytes f b)) in
      (sym is, sym (refusal_unwritten f is))

  -- a refusal by any rule but 19 is the first rule broken
  pub library_refused : (f : Refusal) → ¬ (f.rule ≡ BufferTooShort)
      → (reply_for (outcome s) before ≡ Reply·.Refused f) ↔ FirstRule s f
  library_refused f other = (
    λ e. go _ _ (library_replies s bytes before) e,
    λ b. sym (library_once (Reply·.Refused f) before (Replies.LibraryReply.refused b)).0,
  )
    where
      go : (r : Reply) (after : List ℕ) → LibraryReply s before r after → r ≡ Reply·.Refused f → FirstRule s f
      go _ _ (Replies.LibraryReply.plan n q cost l a p h room) e = let z : ◌≡◌ {A = ℕ} 0 1 = cc in absurd (omega arith)
      go _ _ (Replies.LibraryReply.short n q cost a p few) e =
          let same : record { rule = BufferTooShort; place = length (plan_file_of q) } ≡ f = cc in
          absurd (other (sym (ap (λ (x : Refusal). x.rule) same)))
      go _ _ (Replies.LibraryReply.none n l a p h) e = let z : ◌≡◌ {A = ℕ} 0 1 = cc in absurd (omega arith)
      go _ _ (Replies.LibraryReply.refused {f = g} b) e = let same : g ≡ f = cc in subst (FirstRule s) same b
