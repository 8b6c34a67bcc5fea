-- Refusals, NONE, PLAN and VALID exactly, as texts: from the words that begin them, and from what an outcome and a mark are exactly.
-- Assumes nothing.
use mathlib.Core.Path.{◌≡◌, refl, sym, ap, subst, ◌∙◌}
use mathlib.Core.List.{List, ◌++◌, append_assoc}
use mathlib.Core.Logic.{◌↔◌, ◌⊎◌, inl, inr}
use Prim.Native.Nat.{ℕ, ◌≤◌}
use native.Mathlib.Omega.{arith}
use lib.ListN.{length}
use Rattle.network.specs.declared.Network.{Network}
use Rattle.network.specs.declared.refusal.Refusal.{Refusal}
use Rattle.std.specs.Prelude.{Ok, Err}
use Rattle.file_network.specs.Runs.{Reading, refused, reached}
use Rattle.file_network.specs.Inputs.{network_input, network_read}
use Rattle.file_network.proofs.Sizes.{network_most}
use Rattle.file_plan.specs.declared.plan.Plan.{Plan}
use Rattle.file_both.specs.declared.Both.{Both}
use Rattle.file_both.specs.Inputs.{both_of, both_input, both_read}
use Rattle.file_both.proofs.Sizes.{both_most}
use Rattle.feeding.specs.Networks.{net_of}
use Rattle.feeding.specs.Plans.{Step, ValidPlan}
use Rattle.feeding_acceptance.proofs.Promises.{network_once}
use Rattle.feeding_acceptance.proofs.Promises as Promises
use Rattle.plan_problem.specs.Choosing.{NoPlan, NoneCheaper}
use Rattle.plan_form.specs.Printing.{steps_of}
use Rattle.plan_sums.specs.declared.Sums.{Sums}
use Rattle.texts.specs.Texts.{feed, line_of, refused_word, refused_line}
use Rattle.plan_lines.specs.Lines.{plan_word, none_word, text_of, reply_text, tail_lines, none_lines}
use Rattle.plan_outcome.specs.declared.Planned.{Planned}
use Rattle.plan_outcome.specs.declared.Reply.{Reply}
use Rattle.plan_outcome.specs.declared.Reply.TheVariants as Reply·
use Rattle.plan_outcome.specs.Outcomes.{outcome}
use Rattle.plan_sums.specs.Sums.{LoadsIn}
use Rattle.plan_outcome.proofs.Promises.{outcome_kept}
use Rattle.plan_outcome.proofs.Exactly.{none_exactly, plan_exactly, refused_exactly}
use Rattle.judge_marks.specs.declared.Score.{Score}
use Rattle.judge_marks.specs.declared.Mark.{Mark}
use Rattle.judge_marks.specs.declared.Mark.TheVariants as Mark·
use Rattle.judge_marks.specs.Marks.{Marked}
use Rattle.judge_marks.specs.Marks as Marks
use Rattle.judge_line.specs.MarkLines.{mark_line, valid_word}
use Rattle.judge.specs.Judging.{mark_for}
use Rattle.judge.specs.Judging as Judging
use Rattle.judge.proofs.Marking.{accepted_marked, marked_is, first_is, valid_exactly, excess_exactly, judge_replies}
use Rattle.judge.proofs.Marking as Marking
use Rattle.file_refusals.proofs.Reading.{network_read_lem, both_read_lem}
use Rattle.theorems.proofs.Texts.{refused_same, none_text_same, mark_line_same}
use Rattle.theorems.proofs.Answers.{plan_text_is, none_text_is, refused_text_is, first_text}
use Rattle.theorems.proofs.Words.{none_printed_by, refused_begins, line_begins, plan_by_word, none_by_word, refused_by_word, begins_plan, valid_by_word, refused_mark_by_word, valid_word_lem, refused_mark_word, valid_printed_is}
use Rattle.feeding_acceptance.specs.Reading.{Bytes, AcceptedNetwork, FirstRule}
use Rattle.planner.specs.Replies.{plan_text_of}
use Rattle.judge.specs.Judging.{AcceptedPlan, FirstRuleBoth, JudgeReply}
use Rattle.theorems.specs.Words.{plan_text, mark_text, Begins}

module _ (s : List ℕ) (bytes : Bytes s) where
  -- ---- the planner's refusals

  pub refused_printed : (f : Refusal) → (plan_text s ≡ refused_line f) ↔ FirstRule s f
  refused_printed f = (λ e. go e (refused_by_word s (subst (Begins refused_word) (sym e) (refused_begins f))), λ b. sym (first_text s bytes f b))
    where
      go : plan_text s ≡ refused_line f → ((g : Refusal) × ((outcome s).reply ≡ Reply·.Refused g)) → FirstRule s f
      go e (g, is) = subst (FirstRule s) (refused_same g f (sym (refused_text_is s g is) ∙ e)) ((outcome_kept s bytes).refused g is)

  pub accepted_or_refused : ((n : Network) × AcceptedNetwork s n) ⊎ ((f : Refusal) × FirstRule s f)
  accepted_or_refused = go (outcome s).reply refl
    where
      go : (r : Reply) → (outcome s).reply ≡ r → ((n : Network) × AcceptedNetwork s n) ⊎ ((f : Refusal) × FirstRule s f)
      go (Reply·.Plan p) e = let kept = (outcome_kept s bytes).plan p e in inl (kept.net, kept.accepted)
      go (Reply·.NoPlan l) e = let kept = (outcome_kept s bytes).none l e in inl (kept.net, kept.accepted)
      go (Reply·.Refused f) e = inr (f, ((outcome_kept s bytes).refused f e))

  -- ---- NONE and PLAN

  -- "a line that is the four bytes NONE"
  pub none_printed : (n : Network) → AcceptedNetwork s n → Begins (none_word ++ feed) (plan_text s) ↔ NoPlan (net_of n)
  unfolding none_lines reply_text
  none_printed n a = (
    λ b. (none_exactly s bytes n a).0 (none_by_word s (feed ++ b.0, b.1 ∙ append_assoc none_word feed b.0)),
    λ no_plan. let r = (none_exactly s bytes n a).1 no_plan in (text_of (tail_lines r.0), none_text_is s r.0 r.1),
  )

  pub plan_printed : (n : Network) → AcceptedNetwork s n → Begins plan_word (plan_text s) ↔ ((q : List Step) × ValidPlan (net_of n) q)
  plan_printed n a = (
    λ b. go (plan_by_word s b),
    λ v. let r = plan_exactly s bytes n a v.0 v.1 in begins_plan s r.0 r.1,
  )
    where
      go : ((p : Planned) × ((outcome s).reply ≡ Reply·.Plan p)) → (q : List Step) × ValidPlan (net_of n) q
      go (p, e) =
          let kept = (outcome_kept s bytes).plan p e in
          subst (λ (m : Network). (q : List Step) × ValidPlan (net_of m) q) (network_once s bytes kept.net n kept.accepted a)
          (steps_of (outcome s).plan, kept.promised.valid)

  pub none_loads : (n : Network) → AcceptedNetwork s n → (l : Sums) → plan_text s ≡ none_lines l → LoadsIn (net_of n) (net_of n).start_closed l
  none_loads n a l e = go (none_printed_by s l e)
    where
      go : ((m : Sums) × ((outcome s).reply ≡ Reply·.NoPlan m)) → LoadsIn (net_of n) (net_of n).start_closed l
      go (m, is) =
          let kept = (outcome_kept s bytes).none m is in
          subst (λ (x : Network). LoadsIn (net_of x) (net_of x).start_closed l) (network_once s bytes kept.net n kept.accepted a)
          (subst (LoadsIn (net_of kept.net) (net_of kept.net).start_closed) (none_text_same m l (sym (none_text_is s m is) ∙ e)) kept.loads)

  -- ---- the judge

  pub refused_marked : (f : Refusal) → (mark_text s ≡ refused_line f) ↔ FirstRuleBoth s f
  refused_marked f = (
    λ e. go e (refused_mark_by_word s (subst (Begins refused_word) (sym e) (refused_begins f))),
    λ b. refused_mark_word s f (sym (first_is s bytes f b)),
  )
    where
      go : mark_text s ≡ refused_line f → ((g : Refusal) × (mark_for s ≡ Mark·.Refused g)) → FirstRuleBoth s f
      go e (g, is) =
          subst (FirstRuleBoth s) (refused_same g f (sym (refused_mark_word s g is) ∙ e)) ((Marking.refused_exactly s bytes g).0 is)

  pub first_both_once : (f g : Refusal) → FirstRuleBoth s f → FirstRuleBoth s g → f ≡ g
  first_both_once f g a b = let same = first_is s bytes f a ∙ sym (first_is s bytes g b) in cc

  pub both_accepted_or_refused : ((n : Network) × (q : List Step) × AcceptedPlan s n q) ⊎ ((f : Refusal) × FirstRuleBoth s f)
  both_accepted_or_refused = go _ (judge_replies s bytes)
    where
      go : (t : List ℕ) → JudgeReply s t → ((n : Network) × (q : List Step) × AcceptedPlan s n q) ⊎ ((f : Refusal) × FirstRuleBoth s f)
      go _ (Judging.marked n q a h) = inl (n, q, a)
      go _ (Judging.JudgeReply.refused {f = f} r) = inr (f, r)

  pub both_accepted_unrefused : (n : Network) (q : List Step) (f : Refusal) → AcceptedPlan s n q → ¬ FirstRuleBoth s f
  both_accepted_unrefused n q f a b = go (mark_for s) (accepted_marked s bytes n q a) (first_is s bytes f b)
    where
      go : (m : Mark) → Marked (net_of n) q m → Mark·.Refused f ≡ m → ⊥
      go _ (Marks.broken x) e = let z : ◌≡◌ {A = ℕ} 0 1 = cc in omega arith
      go _ (Marks.short x) e = let z : ◌≡◌ {A = ℕ} 0 1 = cc in omega arith
      go _ (Marks.valid x) e = let z : ◌≡◌ {A = ℕ} 0 1 = cc in omega arith

  pub valid_printed : (n : Network) (q : List Step) → AcceptedPlan s n q → Begins valid_word (mark_text s) ↔ ValidPlan (net_of n) q
  valid_printed n q a = (λ b. (valid_exactly s bytes n q a).0 (valid_by_word s b), λ v. begins ((valid_exactly s bytes n q a).1 v))
    where
      begins : ((v : Score) × (mark_for s ≡ Mark·.Valid v)) → Begins valid_word (mark_text s)
      begins (v, e) = subst (Begins valid_word) (sym (valid_word_lem s v e)) (line_begins valid_word v.cost v.excess)

  pub excess_printed : (n : Network) (q : List Step) → AcceptedPlan s n q → (cost excess : ℕ) → mark_text s ≡ line_of valid_word cost excess
      → (excess ≡ 0) ↔ NoneCheaper (net_of n) q
  excess_printed n q a cost excess e =
      excess_exactly s bytes n q a (record { cost = cost; excess = excess }) (valid_printed_is s cost excess e)

  -- the mark of an accepted plan
  pub mark_printed : (n : Network) (q : List Step) → AcceptedPlan s n q → (m : Mark) → (mark_text s ≡ mark_line m) ↔ Marked (net_of n) q m
  mark_printed n q a m = (
    λ e. subst (Marked (net_of n) q) (mark_line_same (mark_for s) m e) (accepted_marked s bytes n q a),
    λ h. ap mark_line (sym (marked_is s bytes n q a m h)),
  )

-- a text that begins with PLAN is a plan's
pub plan_form : (s : List ℕ) → Begins plan_word (plan_text s) → (q : List Step) × (cost : ℕ) × (l : Sums) × (plan_text s ≡ plan_text_of q cost l)
plan_form s b = let found = plan_by_word s b in (steps_of (outcome s).plan, found.0.cost, found.0.sums, plan_text_is s found.0 found.1)

-- ---- one network, one plan

module _ (s : List ℕ) where
  pub plan_once : (n m : Network) (q r : List Step) → AcceptedPlan s n q → AcceptedPlan s m r → (n ≡ m) × (q ≡ r)
  plan_once n m q r a b =
      let same = sym ((both_read_lem s n a.plan).1 a.files) ∙ (both_read_lem s m b.plan).1 b.files in
      let both : both_of (n, a.plan) ≡ both_of (m, b.plan) = cc in
      (ap (λ (x : Both). x.net) both, a.steps ∙ ap (λ (x : Both). steps_of x.plan) both ∙ sym b.steps)

-- ---- how long accepted input is

pub accepted_most : (s : List ℕ) (n : Network) → AcceptedNetwork s n → length s ≤ 2252
accepted_most s n a = go (network_input s) refl ((network_read_lem s n).1 a.file)
  where
    go : (o : Reading Network) → network_input s ≡ o → network_read o ≡ Ok n → length s ≤ 2252
    go (refused f) e k =
        let z : ◌≡◌ {A = ℕ} 0 1 = cc in
        absurd (omega arith)
    go (reached at stage m) e k = network_most s at stage m e

pub accepted_plan_most : (s : List ℕ) (n : Network) (q : List Step) → AcceptedPlan s n q → length s ≤ 4302
accepted_plan_most s n q a = go (both_input s) refl ((both_read_lem s n a.plan).1 a.files)
  where
    go : (o : Reading (Network × Plan)) → both_input s ≡ o → both_read o ≡ Ok (both_of (n, a.plan)) → length s ≤ 4302
    go (refused f) e k =
        let z : ◌≡◌ {A = ℕ} 0 1 = cc in
        absurd (omega arith)
    go (reached at stage x) e k = both_most s at stage x.0 x.1 e
