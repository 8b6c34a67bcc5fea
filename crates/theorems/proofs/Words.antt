-- Which reply a text is, by its first letter: P, N or R of the planner's, B, S, V or R of the judge's; and what a printed plan then promises.
-- Assumes nothing.
use mathlib.Core.Path.{◌≡◌, refl, sym, ap, subst, ◌∙◌}
use mathlib.Core.List.{List, [], ◌++◌, append_assoc}
use Prim.Native.Nat.{ℕ}
use native.Mathlib.Omega.{arith}
use lib.ListN.{length, get_or}
use Rattle.network.specs.declared.Network.{Network}
use Rattle.network.specs.declared.refusal.Refusal.{Refusal}
use Rattle.network.specs.Refusals.{rule_number}
use Rattle.feeding.specs.Networks.{net_of}
use Rattle.feeding.specs.Plans.{Step, run}
use Rattle.plan_problem.specs.Choosing.{Promised, NoPlan}
use Rattle.plan_form.specs.Printing.{steps_of}
use Rattle.plan_sums.specs.declared.Sums.{Sums}
use Rattle.texts.specs.Texts.{field, feed, line_of, refused_word, refused_line}
use Rattle.plan_lines.specs.Lines.{plan_word, none_word, plan_line, text_of, reply_text, tail_lines, none_lines}
use Rattle.plan_outcome.specs.declared.Planned.{Planned}
use Rattle.plan_outcome.specs.declared.Reply.{Reply}
use Rattle.plan_outcome.specs.declared.Reply.TheVariants as Reply·
use Rattle.plan_outcome.specs.Outcomes.{outcome}
use Rattle.plan_sums.specs.Sums.{LoadsIn}
use Rattle.plan_outcome.proofs.Promises.{PlanKept}
use Rattle.plan_outcome.proofs.Promises.{outcome_kept}
use Rattle.judge_marks.specs.declared.Mark.{Mark}
use Rattle.judge_marks.specs.declared.Mark.TheVariants as Mark·
use Rattle.judge_marks.specs.declared.Score.{Score}
use Rattle.judge_marks.specs.Marks.{reason_number}
use Rattle.judge_line.specs.MarkLines.{mark_line, broken_word, short_word, valid_word}
use Rattle.judge.specs.Judging.{mark_for}
use Rattle.feeding_acceptance.proofs.Promises.{network_once}
use Rattle.theorems.proofs.Texts.{line_split, plan_text_same}
use Rattle.theorems.proofs.Answers.{plan_text_is, none_text_is, refused_text_is}
use Rattle.feeding_acceptance.specs.Reading.{Bytes, AcceptedNetwork}
use Rattle.planner.specs.Replies.{plan_text_of, step_texts}
use Rattle.theorems.specs.Words.{plan_text, mark_text, Begins}

-- ---- first letters

pub line_begins : (w : List ℕ) (a b : ℕ) → Begins w (line_of w a b)
unfolding line_of
line_begins w a b = (field a ++ (field b ++ feed), simp append_assoc)

plan_begins : (q : List Step) (c : ℕ) (l : Sums) → Begins plan_word (plan_text_of q c l)
unfolding plan_text_of reply_text plan_line line_of
plan_begins q c l = (field (length q) ++ (field c ++ (feed ++ (step_texts q ++ text_of (tail_lines l)))), simp append_assoc)

none_begins : (l : Sums) → Begins none_word (none_lines l)
unfolding none_lines reply_text
none_begins l = (feed ++ text_of (tail_lines l), append_assoc none_word feed (text_of (tail_lines l)))

pub refused_begins : (f : Refusal) → Begins refused_word (refused_line f)
unfolding refused_line
refused_begins f = line_begins refused_word (rule_number f.rule) f.place

-- two words that begin one text have one first letter
letters : (v w t : List ℕ) (a : Begins v t) (b : Begins w t) → get_or (v ++ a.0) 0 0 ≡ get_or (w ++ b.0) 0 0
letters v w t a b = sym (ap (λ (l : List ℕ). get_or l 0 0) a.1) ∙ ap (λ (l : List ℕ). get_or l 0 0) b.1

-- ---- the planner's replies

module _ (s : List ℕ) where
  pub begins_plan : (p : Planned) → (outcome s).reply ≡ Reply·.Plan p → Begins plan_word (plan_text s)
  begins_plan p e = subst (Begins plan_word) (sym (plan_text_is s p e)) (plan_begins (steps_of (outcome s).plan) p.cost p.sums)

  begins_none : (l : Sums) → (outcome s).reply ≡ Reply·.NoPlan l → Begins none_word (plan_text s)
  begins_none l e = subst (Begins none_word) (sym (none_text_is s l e)) (none_begins l)

  begins_refused : (f : Refusal) → (outcome s).reply ≡ Reply·.Refused f → Begins refused_word (plan_text s)
  begins_refused f e = subst (Begins refused_word) (sym (refused_text_is s f e)) (refused_begins f)

  -- and back
  pub plan_by_word : Begins plan_word (plan_text s) → (p : Planned) × ((outcome s).reply ≡ Reply·.Plan p)
  plan_by_word b = go (outcome s).reply refl
    where
      go : (r : Reply) → (outcome s).reply ≡ r → (p : Planned) × ((outcome s).reply ≡ Reply·.Plan p)
      go (Reply·.Plan p) e = (p, e)
      go (Reply·.NoPlan l) e = let z : ◌≡◌ {A = ℕ} 80 78 = letters plan_word none_word (plan_text s) b (begins_none l e) in absurd (omega arith)
      go (Reply·.Refused f) e = let z : ◌≡◌ {A = ℕ} 80 82 = letters plan_word refused_word (plan_text s) b (begins_refused f e) in absurd (omega arith)

  pub none_by_word : Begins none_word (plan_text s) → (l : Sums) × ((outcome s).reply ≡ Reply·.NoPlan l)
  none_by_word b = go (outcome s).reply refl
    where
      go : (r : Reply) → (outcome s).reply ≡ r → (l : Sums) × ((outcome s).reply ≡ Reply·.NoPlan l)
      go (Reply·.Plan p) e = let z : ◌≡◌ {A = ℕ} 78 80 = letters none_word plan_word (plan_text s) b (begins_plan p e) in absurd (omega arith)
      go (Reply·.NoPlan l) e = (l, e)
      go (Reply·.Refused f) e = let z : ◌≡◌ {A = ℕ} 78 82 = letters none_word refused_word (plan_text s) b (begins_refused f e) in absurd (omega arith)

  pub refused_by_word : Begins refused_word (plan_text s) → (f : Refusal) × ((outcome s).reply ≡ Reply·.Refused f)
  refused_by_word b = go (outcome s).reply refl
    where
      go : (r : Reply) → (outcome s).reply ≡ r → (f : Refusal) × ((outcome s).reply ≡ Reply·.Refused f)
      go (Reply·.Plan p) e = let z : ◌≡◌ {A = ℕ} 82 80 = letters refused_word plan_word (plan_text s) b (begins_plan p e) in absurd (omega arith)
      go (Reply·.NoPlan l) e = let z : ◌≡◌ {A = ℕ} 82 78 = letters refused_word none_word (plan_text s) b (begins_none l e) in absurd (omega arith)
      go (Reply·.Refused f) e = (f, e)

  -- the reply of a text that is known
  pub reply_printed : (q : List Step) (cost : ℕ) (l : Sums) → plan_text s ≡ plan_text_of q cost l → (p : Planned) × ((outcome s).reply ≡ Reply·.Plan p)
  reply_printed q cost l e = plan_by_word (subst (Begins plan_word) (sym e) (plan_begins q cost l))

  pub none_printed_by : (l : Sums) → plan_text s ≡ none_lines l → (m : Sums) × ((outcome s).reply ≡ Reply·.NoPlan m)
  none_printed_by l e = none_by_word (subst (Begins none_word) (sym e) (none_begins l))

  pub refused_printed_by : (f : Refusal) → plan_text s ≡ refused_line f → (g : Refusal) × ((outcome s).reply ≡ Reply·.Refused g)
  refused_printed_by f e = refused_by_word (subst (Begins refused_word) (sym e) (refused_begins f))

-- a printed plan: what its bytes promise
pub record Promises (s : List ℕ) (n : Network) (q : List Step) (cost : ℕ) (l : Sums) : Type 0 where
  pub promised : Promised (net_of n) q cost
  pub loads : LoadsIn (net_of n) (run (net_of n).start_closed q) l

pub printed_promises : (s : List ℕ) → Bytes s → (n : Network) → AcceptedNetwork s n → (q : List Step) (cost : ℕ) (l : Sums)
    → plan_text s ≡ plan_text_of q cost l → Promises s n q cost l
printed_promises s bytes n a q cost l e = go (reply_printed s q cost l e)
  where
    of_plan : (p : Planned) (kept : PlanKept s p (outcome s).plan) → Promises s kept.net (steps_of (outcome s).plan) p.cost p.sums
    of_plan p kept = record { promised = kept.promised; loads = kept.loads }

    go : ((p : Planned) × ((outcome s).reply ≡ Reply·.Plan p)) → Promises s n q cost l
    go (p, is) =
        let kept = (outcome_kept s bytes).plan p is in
        let same = plan_text_same (steps_of (outcome s).plan) q p.cost cost p.sums l (sym (plan_text_is s p is) ∙ e) in
        subst (λ (m : Network). Promises s m q cost l) (network_once s bytes kept.net n kept.accepted a)
        (subst (Promises s kept.net q cost) same.2
        (subst (λ (c : ℕ). Promises s kept.net q c p.sums) same.1
        (subst (λ (r : List Step). Promises s kept.net r p.cost p.sums) same.0 (of_plan p kept))))

-- ---- the judge's

mark_letter : (m : Mark) → Begins valid_word (mark_line m) → (v : Score) × (m ≡ Mark·.Valid v)
unfolding mark_line refused_line
mark_letter (Mark·.Broken b) t = let z : ◌≡◌ {A = ℕ} 86 66 = letters valid_word broken_word (mark_line (Mark·.Broken b)) t (line_begins broken_word b.step (reason_number b.reason)) in absurd (omega arith)
mark_letter (Mark·.Short e) t = let z : ◌≡◌ {A = ℕ} 86 83 = letters valid_word short_word (mark_line (Mark·.Short e)) t (field e ++ feed, append_assoc short_word (field e) feed) in absurd (omega arith)
mark_letter (Mark·.Valid v) t = (v, refl)
mark_letter (Mark·.Refused f) t = let z : ◌≡◌ {A = ℕ} 86 82 = letters valid_word refused_word (mark_line (Mark·.Refused f)) t (line_begins refused_word (rule_number f.rule) f.place) in absurd (omega arith)

-- whatever stands behind the line
begins_on : (w t : List ℕ) → Begins w t → (rest : List ℕ) → Begins w (t ++ rest)
begins_on w t b rest = (b.0 ++ rest, ap (λ (l : List ℕ). l ++ rest) b.1 ∙ append_assoc w b.0 rest)

pub refused_letter : (m : Mark) (rest : List ℕ) → Begins refused_word (mark_line m ++ rest) → (f : Refusal) × (m ≡ Mark·.Refused f)
unfolding mark_line
refused_letter (Mark·.Broken b) rest t =
    let z : ◌≡◌ {A = ℕ} 82 66 = letters refused_word broken_word _ t (begins_on broken_word _ (line_begins broken_word b.step (reason_number b.reason)) rest) in
    absurd (omega arith)
refused_letter (Mark·.Short e) rest t =
    let z : ◌≡◌ {A = ℕ} 82 83 = letters refused_word short_word _ t (begins_on short_word _ (field e ++ feed, append_assoc short_word (field e) feed) rest) in
    absurd (omega arith)
refused_letter (Mark·.Valid v) rest t =
    let z : ◌≡◌ {A = ℕ} 82 86 = letters refused_word valid_word _ t (begins_on valid_word _ (line_begins valid_word v.cost v.excess) rest) in
    absurd (omega arith)
refused_letter (Mark·.Refused f) rest t = (f, refl)

module _ (s : List ℕ) where
  pub valid_by_word : Begins valid_word (mark_text s) → (v : Score) × (mark_for s ≡ Mark·.Valid v)
  valid_by_word b = mark_letter (mark_for s) b

  pub refused_mark_by_word : Begins refused_word (mark_text s) → (f : Refusal) × (mark_for s ≡ Mark·.Refused f)
  refused_mark_by_word b = refused_letter (mark_for s) [] (begins_on refused_word (mark_text s) b [])

  pub valid_word_lem : (v : Score) → mark_for s ≡ Mark·.Valid v → mark_text s ≡ line_of valid_word v.cost v.excess
  unfolding mark_line
  valid_word_lem v e = ap mark_line e

  pub refused_mark_word : (f : Refusal) → mark_for s ≡ Mark·.Refused f → mark_text s ≡ refused_line f
  unfolding mark_line
  refused_mark_word f e = ap mark_line e

  -- the mark of a line that is known
  pub valid_printed_is : (cost excess : ℕ) → mark_text s ≡ line_of valid_word cost excess → mark_for s ≡ Mark·.Valid (record { cost = cost; excess = excess })
  valid_printed_is cost excess e = go (valid_by_word (subst (Begins valid_word) (sym e) (line_begins valid_word cost excess)))
    where
      go : ((v : Score) × (mark_for s ≡ Mark·.Valid v)) → mark_for s ≡ Mark·.Valid (record { cost = cost; excess = excess })
      go (v, is) =
          let same = line_split valid_word v.cost v.excess cost excess [] [] (ap (λ (t : List ℕ). t ++ []) (sym (valid_word_lem v is) ∙ e)) in
          is ∙ (λ i. Mark·.Valid (record { cost = same.0 i; excess = same.1 i }))
