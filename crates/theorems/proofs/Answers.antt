-- The texts that are printed are the paper's replies, and there is one for each input: from what an outcome and a mark promise, case by case.
-- Assumes nothing.
use mathlib.Core.Path.{◌≡◌, sym, ap, ap₂, subst, ◌∙◌}
use mathlib.Core.List.{List}
use Prim.Native.Nat.{ℕ}
use Rattle.network.specs.declared.Network.{Network}
use Rattle.network.specs.declared.refusal.Refusal.{Refusal}
use Rattle.feeding.specs.Networks.{net_of}
use Rattle.feeding.specs.Plans.{Step, run}
use Rattle.plan_problem.specs.Choosing.{Promised, NoPlan}
use Rattle.file_plan.specs.declared.plan.Plan.{Plan}
use Rattle.plan_form.specs.Printing.{steps_of}
use Rattle.plan_sums.specs.declared.Sums.{Sums}
use Rattle.texts.specs.Texts.{refused_line}
use Rattle.plan_lines.specs.Lines.{none_lines}
use Rattle.plan_outcome.specs.declared.Planned.{Planned}
use Rattle.plan_outcome.specs.declared.Reply.{Reply}
use Rattle.plan_outcome.specs.declared.Reply.TheVariants as Reply·
use Rattle.plan_outcome.specs.Outcomes.{outcome}
use Rattle.plan_sums.specs.Sums.{LoadsIn}
use Rattle.plan_outcome.proofs.Promises.{outcome_kept}
use Rattle.plan_outcome.proofs.Exactly.{none_exactly, plan_exactly, refused_exactly, promised_unique}
use Rattle.planner.specs.Replies.{lines_with, lines_of}
use Rattle.judge_marks.specs.declared.Mark.TheVariants as Mark·
use Rattle.judge_line.specs.MarkLines.{mark_line}
use Rattle.judge.specs.Judging as Judging
use Rattle.judge.proofs.Marking.{marked_is, first_is}
use Rattle.plan_sums.proofs.Loads.{sums_same}
use Rattle.feeding_acceptance.proofs.Promises.{network_once}
use Rattle.planner.proofs.Steps.{plan_lines_text}
use Rattle.planner.specs.Replies as Replies
use Rattle.feeding_acceptance.specs.Reading.{Bytes, AcceptedNetwork, FirstRule}
use Rattle.planner.specs.Replies.{plan_text_of, PlannerReply}
use Rattle.judge.specs.Judging.{JudgeReply}
use Rattle.theorems.specs.Words.{plan_text, mark_text}

-- ---- the planner

module _ (s : List ℕ) where
  -- the text by the reply
  pub text_is : (r : Reply) → (outcome s).reply ≡ r → plan_text s ≡ lines_with r (outcome s).plan
  unfolding lines_of
  text_is r e = ap (λ (x : Reply). lines_with x (outcome s).plan) e

  pub plan_text_is : (p : Planned) → (outcome s).reply ≡ Reply·.Plan p → plan_text s ≡ plan_text_of (steps_of (outcome s).plan) p.cost p.sums
  unfolding lines_with
  plan_text_is p e = text_is (Reply·.Plan p) e ∙ plan_lines_text (outcome s).plan p.cost p.sums

  pub none_text_is : (l : Sums) → (outcome s).reply ≡ Reply·.NoPlan l → plan_text s ≡ none_lines l
  unfolding lines_with
  none_text_is l e = text_is (Reply·.NoPlan l) e

  pub refused_text_is : (f : Refusal) → (outcome s).reply ≡ Reply·.Refused f → plan_text s ≡ refused_line f
  unfolding lines_with
  refused_text_is f e = text_is (Reply·.Refused f) e

module _ (s : List ℕ) (bytes : Bytes s) where
  -- a promised plan is the printed one
  pub promised_text : (n : Network) (q : List Step) (cost : ℕ) (l : Sums) → AcceptedNetwork s n → Promised (net_of n) q cost
      → LoadsIn (net_of n) (run (net_of n).start_closed q) l → plan_text_of q cost l ≡ plan_text s
  promised_text n q cost l a promised loads = go (plan_exactly s bytes n a q promised.valid)
    where
      go : ((p : Planned) × ((outcome s).reply ≡ Reply·.Plan p)) → plan_text_of q cost l ≡ plan_text s
      go (p, e) =
          let kept = (outcome_kept s bytes).plan p e in
          let net : kept.net ≡ n = network_once s bytes kept.net n kept.accepted a in
          let other : Promised (net_of n) (steps_of (outcome s).plan) p.cost =
          subst (λ (m : Network). Promised (net_of m) (steps_of (outcome s).plan) p.cost) net kept.promised in
          let same = promised_unique (net_of n) q (steps_of (outcome s).plan) cost p.cost promised other in
          let other-loads : LoadsIn (net_of n) (run (net_of n).start_closed q) p.sums =
          subst (λ (r : List Step). LoadsIn (net_of n) (run (net_of n).start_closed r) p.sums) (sym same.1)
          (subst (λ (m : Network). LoadsIn (net_of m) (run (net_of m).start_closed (steps_of (outcome s).plan)) p.sums) net kept.loads) in
          ap₂ (λ (r : List Step) (c : ℕ). plan_text_of r c l) same.1 same.0
          ∙ ap (plan_text_of (steps_of (outcome s).plan) p.cost) (sums_same loads other-loads)
          ∙ sym (plan_text_is s p e)

  -- with the sums that are printed
  pub promised_printed : (n : Network) (q : List Step) (cost : ℕ) → AcceptedNetwork s n → Promised (net_of n) q cost → (l : Sums) × (plan_text s ≡ plan_text_of q cost l)
  promised_printed n q cost a promised = go (plan_exactly s bytes n a q promised.valid)
    where
      go : ((p : Planned) × ((outcome s).reply ≡ Reply·.Plan p)) → (l : Sums) × (plan_text s ≡ plan_text_of q cost l)
      go (p, e) =
          let kept = (outcome_kept s bytes).plan p e in
          let other : Promised (net_of n) (steps_of (outcome s).plan) p.cost =
          subst (λ (m : Network). Promised (net_of m) (steps_of (outcome s).plan) p.cost)
          (network_once s bytes kept.net n kept.accepted a) kept.promised in
          let same = promised_unique (net_of n) (steps_of (outcome s).plan) q p.cost cost other promised in
          (p.sums, plan_text_is s p e ∙ ap₂ (λ (r : List Step) (c : ℕ). plan_text_of r c p.sums) same.1 same.0)

  none_text : (n : Network) (l : Sums) → AcceptedNetwork s n → NoPlan (net_of n) → LoadsIn (net_of n) (net_of n).start_closed l → none_lines l ≡ plan_text s
  none_text n l a none loads = go ((none_exactly s bytes n a).1 none)
    where
      go : ((m : Sums) × ((outcome s).reply ≡ Reply·.NoPlan m)) → none_lines l ≡ plan_text s
      go (m, e) =
          let kept = (outcome_kept s bytes).none m e in
          let net : kept.net ≡ n = network_once s bytes kept.net n kept.accepted a in
          let other : LoadsIn (net_of n) (net_of n).start_closed m = subst (λ (x : Network). LoadsIn (net_of x) (net_of x).start_closed m) net kept.loads in
          ap none_lines (sums_same loads other) ∙ sym (none_text_is s m e)

  pub first_text : (f : Refusal) → FirstRule s f → refused_line f ≡ plan_text s
  first_text f b = sym (refused_text_is s f ((refused_exactly s bytes f).0 b))

  pub planner_once : (t : List ℕ) → PlannerReply s t → t ≡ plan_text s
  planner_once _ (Replies.PlannerReply.plan n q cost l a promised loads) = promised_text n q cost l a promised loads
  planner_once _ (Replies.PlannerReply.none n l a none loads) = none_text n l a none loads
  planner_once _ (Replies.PlannerReply.refused {f = f} b) = first_text f b

-- ---- the judge

module _ (s : List ℕ) (bytes : Bytes s) where
  pub judge_once : (t : List ℕ) → JudgeReply s t → t ≡ mark_text s
  unfolding mark_line
  judge_once _ (Judging.marked n q {m = m} a h) = ap mark_line (marked_is s bytes n q a m h)
  judge_once _ (Judging.JudgeReply.refused {f = f} b) = ap mark_line (first_is s bytes f b)
