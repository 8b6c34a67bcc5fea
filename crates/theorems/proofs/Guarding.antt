-- Rules 8 and 20 at a record of kind 8 in a whole input: where one is the first broken, the records before stand; by the
-- first break of a run of records, and since kind 8 may come among links alone. And where each link's record stands.
-- Assumes nothing.
use mathlib.Core.Path.{◌≡◌, refl, sym, ap, subst}
use mathlib.Core.Bool.{Bool, true, false}
use mathlib.Core.List.{List, [], ◌∷◌, ◌++◌}
use mathlib.Core.Logic.{◌↔◌, ◌⊎◌, inl, inr}
use Prim.Native.Nat.{ℕ, zero, suc, ◌+◌, ◌<◌, ◌≤◌}
use native.Mathlib.Omega.{arith}
use lib.Dec.{eqb}
use lib.ListN.{replicate}
use borrow.Author.Tests.{eqb-true, eqb-false}
use Rattle.network.specs.declared.refusal.Rule.{Rule}
use Rattle.network.specs.declared.refusal.Rule.TheVariants.{KindOutOfPlace, UnknownForm, ByteAfterEnd, BadGuard}
use Rattle.network.specs.declared.refusal.Refusal.{Refusal}
use Rattle.std.specs.Prelude.{Result, Ok, Err}
use Rattle.network.specs.Refusals.{position, Sooner, rule_number}
use Rattle.file_stages.specs.declared.Stage.{Stage}
use Rattle.file_stages.specs.declared.Stage.TheVariants.{Head, Elements, Links, End, PlanHead, Steps, PlanEnd}
use Rattle.file_fields.specs.Fields.{word}
use Rattle.file_records.specs.Records.{kind_field}
use Rattle.file_refusals.specs.Breaking.{BreaksRule, BreaksFirst, Keeps, MayCome, behind_link, behind_guarded_link}
use Rattle.file_refusals.specs.Files.{KeepsNetwork, plan_stages, Stand, none, next, FirstBreak, here, later, NetworkBreaks, in_file, behind, in_network, in_plan, behind_plan}
use Rattle.file_refusals.proofs.Files.{stand_append, stand_split, break_behind}
use Rattle.file_refusals.proofs.Leads.{stand_links}
use Rattle.file_refusals.proofs.Record.{link_stage}
use Rattle.feeding.specs.Networks.{Net}
use Rattle.feeding.specs.Acceptance.{Answered}
use Rattle.feeding.specs.Acceptance as Acceptance
use Rattle.feeding_acceptance.specs.Reading.{FirstRule}
use Rattle.feeding_acceptance.specs.Reading as Reading
use Rattle.judge.specs.Judging.{FirstRuleBoth}
use Rattle.judge.specs.Judging as Judging
use Rattle.theorems.specs.Words.{StandsTo, FormRefused, GuardRefused}

-- where a run of records breaks: the records before stand, and this one breaks the rule first
record BreakAt (s : List ℕ) (E K : ℕ) (stages : List Stage) (at : ℕ) (f : Refusal) : Type 0 where
  front : List Stage
  stage : Stage
  rest : List Stage
  whole : stages ≡ front ++ (stage ∷ rest)
  before : Stand s E K front at f.place
  first : BreaksFirst s E K f.place stage f.rule

module _ (s : List ℕ) (E K : ℕ) where
  break_at : {stages : List Stage} {at : ℕ} {f : Refusal} → FirstBreak s E K stages at f → BreakAt s E K stages at f
  break_at (here {stage = stage} {rest = rest} b) = record { front = []; stage = stage; rest = rest; whole = refl; before = none; first = b }
  break_at (later {stage = stage} k x) =
      let r = break_at x in
      record { front = stage ∷ r.front; stage = r.stage; rest = r.rest; whole = ap (λ (xs : List Stage). stage ∷ xs) r.whole; before = next k r.before; first = r.first }

  -- kind 8 may come among links alone
  eight_among_links : (at : ℕ) (stage : Stage) (r : Rule) → kind_field s at ≡ 8 → Sooner KindOutOfPlace r
      → BreaksFirst s E K at stage r → (¬ (stage ≡ Links)) → ⊥
  eight_among_links at stage r eight after b other =
      b.sooner KindOutOfPlace after (λ m. other (link_stage m (inr eight)))

  -- so no record of a plan file that breaks a rule behind rule 2 is of kind 8
  steps_unguarded : (n : ℕ) {at : ℕ} {f : Refusal} → kind_field s f.place ≡ 8 → Sooner KindOutOfPlace f.rule
      → FirstBreak s E K (replicate n Steps ++ (PlanEnd ∷ [])) at f → ⊥
  steps_unguarded zero eight after (here b) =
      eight_among_links _ PlanEnd _ eight after b (λ q. let z : ◌≡◌ {A = ℕ} 0 1 = cc in omega arith)
  steps_unguarded zero {at = at} {f = f} eight after (later k x) = elim x [ ]
  steps_unguarded (suc n) eight after (here b) =
      eight_among_links _ Steps _ eight after b (λ q. let z : ◌≡◌ {A = ℕ} 0 1 = cc in omega arith)
  steps_unguarded (suc n) eight after (later k x) = steps_unguarded n eight after x

  plan_unguarded : (n : ℕ) {at : ℕ} {f : Refusal} → kind_field s f.place ≡ 8 → Sooner KindOutOfPlace f.rule
      → FirstBreak s E K (plan_stages n) at f → ⊥
  plan_unguarded n eight after (here b) =
      eight_among_links _ PlanHead _ eight after b (λ q. let z : ◌≡◌ {A = ℕ} 0 1 = cc in omega arith)
  plan_unguarded n eight after (later k x) = steps_unguarded n eight after x

  -- rule 20 speaks of kind 8 alone
  guard_eight : {stages : List Stage} {at : ℕ} {f : Refusal} → f.rule ≡ BadGuard → FirstBreak s E K stages at f
      → kind_field s f.place ≡ 8
  guard_eight {f = f} e x =
      let r = break_at x in
      (subst (BreaksRule s E K f.place r.stage) e r.first.broken).0

  -- rule 8 of kind 8
  pub form_broken : (at : ℕ) (stage : Stage) → kind_field s at ≡ 8
      → BreaksRule s E K at stage UnknownForm ↔ ((word s (at + 8) ≡ 0) ⊎ (2 < word s (at + 8)))
  form_broken at stage eight = (there, back)
    where
      there : BreaksRule s E K at stage UnknownForm → (word s (at + 8) ≡ 0) ⊎ (2 < word s (at + 8))
      there (inl x) = inr x.1
      there (inr x) = inl x.1

      back : (word s (at + 8) ≡ 0) ⊎ (2 < word s (at + 8)) → BreaksRule s E K at stage UnknownForm
      back (inl e) = inr (eight, e)
      back (inr h) = inl (inr eight, h)

-- ---- rules 13 to 18 are other rules

-- a rule that is not among them
abbrev Outside : Rule → Type 0
Outside r = (rule_number r < 13) ⊎ (18 < rule_number r)

among : {A : Type 0} (r : Rule) → 13 ≤ rule_number r → rule_number r ≤ 18 → Outside r → A
among r low high (inl h) = absurd (omega arith)
among r low high (inr h) = absurd (omega arith)

answered_number : (net : Net) (f : Refusal) → Answered net (Err f)
    → (13 ≤ rule_number f.rule) × (rule_number f.rule ≤ 18)
answered_number net f h = go _ h refl
  where
    held : Result Unit Refusal → ℕ
    held (Ok u) = 0
    held (Err g) = rule_number g.rule

    go : (a : Result Unit Refusal) → Answered net a → a ≡ Err f → (13 ≤ rule_number f.rule) × (rule_number f.rule ≤ 18)
    go _ (Acceptance.not_a_tree _ _) e = (omega (arith, ap held e), omega (arith, ap held e))
    go _ (Acceptance.two_sources _ _ _) e = (omega (arith, ap held e), omega (arith, ap held e))
    go _ (Acceptance.fault_with_source _ _ _ _) e = (omega (arith, ap held e), omega (arith, ap held e))
    go _ (Acceptance.overloaded _ _ _ _ _) e = (omega (arith, ap held e), omega (arith, ap held e))
    go _ (Acceptance.too_many _ _ _) e = (omega (arith, ap held e), omega (arith, ap held e))
    go _ (Acceptance.accepted _ _ _) e = let z : ◌≡◌ {A = ℕ} 0 1 = cc in absurd (omega arith)

module _ (s : List ℕ) where
  -- the other rules are broken in the network file; by a record of kind 8 in the judge's input too
  first_broken_lem : (f : Refusal) → Outside f.rule → FirstRule s f → NetworkBreaks s f
  first_broken_lem f out (Reading.FirstRule.in_bytes (in_file b)) = b
  first_broken_lem _ out (Reading.FirstRule.in_bytes (behind _ _)) = among ByteAfterEnd (omega arith) (omega arith) out
  first_broken_lem f out (Reading.FirstRule.in_network n _ h) =
      let a = answered_number _ f h in among f.rule a.0 a.1 out

  first_broken_both : (f : Refusal) → Outside f.rule → Sooner KindOutOfPlace f.rule
      → ((stages : List Stage) (at : ℕ) → FirstBreak s (word s 4) (word s 6) stages at f → kind_field s f.place ≡ 8)
      → FirstRuleBoth s f → NetworkBreaks s f
  first_broken_both f out after eight (Judging.FirstRuleBoth.in_bytes (in_network b)) = b
  first_broken_both f out after eight (Judging.FirstRuleBoth.in_bytes (in_plan {at = at} _ b)) =
      absurd (plan_unguarded s (word s 4) (word s 6) (word s (at + 4)) (eight _ _ b) after b)
  first_broken_both _ out after eight (Judging.FirstRuleBoth.in_bytes (behind_plan _ _ _)) =
      among ByteAfterEnd (omega arith) (omega arith) out
  first_broken_both f out after eight (Judging.FirstRuleBoth.in_network n p _ h) =
      let a = answered_number _ f h in among f.rule a.0 a.1 out

  -- ---- a rule is the first broken, and where

  broken_at_lem : (f : Refusal) (r : Rule) → f.rule ≡ r → NetworkBreaks s f
      → (due : StandsTo s f.place r) × BreaksRule s (word s 4) (word s 6) f.place due.stage r
  broken_at_lem f r e b =
      let x = break_at s (word s 4) (word s 6) b in
      let first = subst (BreaksFirst s (word s 4) (word s 6) f.place x.stage) e x.first in
      let due : StandsTo s f.place r = record {
        front = x.front;
        stage = x.stage;
        rest = x.rest;
        whole = x.whole;
        before = x.before;
        sooner = first.sooner;
      } in
      (due, first.broken)

  breaks_at : (place : ℕ) (r : Rule) (due : StandsTo s place r)
      → BreaksRule s (word s 4) (word s 6) place due.stage r → NetworkBreaks s (record { rule = r; place = place })
  breaks_at place r due broken =
      subst (λ (xs : List Stage). FirstBreak s (word s 4) (word s 6) xs 0 (record { rule = r; place = place }))
      (sym due.whole)
      (break_behind s (word s 4) (word s 6) due.before (here (record { broken = broken; sooner = due.sooner })))

  module _ (place : ℕ) where
    -- rule 20
    abbrev bad_guard_lem : Refusal
    bad_guard_lem = record { rule = BadGuard; place = place }

    guard_broken : NetworkBreaks s bad_guard_lem → GuardRefused s place
    guard_broken b =
        let x = broken_at_lem bad_guard_lem BadGuard refl b in
        record { due = x.0; kind = x.1.0; guard = x.1.1 }

    pub guard_breaks : GuardRefused s place → NetworkBreaks s bad_guard_lem
    guard_breaks g = breaks_at place BadGuard g.due (g.kind, g.guard)

    pub first_guard : FirstRule s bad_guard_lem ↔ GuardRefused s place
    first_guard = (
      λ x. guard_broken (first_broken_lem bad_guard_lem (inr (omega arith)) x),
      λ g. Reading.FirstRule.in_bytes (in_file (guard_breaks g)),
    )

    pub first_guard_both : FirstRuleBoth s bad_guard_lem ↔ GuardRefused s place
    unfolding position
    first_guard_both = (
      λ x. guard_broken (first_broken_both bad_guard_lem (inr (omega arith)) (omega arith)
          (λ _ _ b. guard_eight s (word s 4) (word s 6) refl b) x),
      λ g. Judging.FirstRuleBoth.in_bytes (in_network (guard_breaks g)),
    )

    -- rule 8, at a record of kind 8
    abbrev unknown_form_lem : Refusal
    unknown_form_lem = record { rule = UnknownForm; place = place }

    form_at : kind_field s place ≡ 8 → NetworkBreaks s unknown_form_lem → FormRefused s place
    form_at eight b =
        let x = broken_at_lem unknown_form_lem UnknownForm refl b in
        let form = (form_broken s (word s 4) (word s 6) place x.0.stage eight).0 x.1 in
        record { due = x.0; kind = eight; form = form }

    form_breaks : FormRefused s place → NetworkBreaks s unknown_form_lem
    form_breaks g =
        breaks_at place UnknownForm g.due
        ((form_broken s (word s 4) (word s 6) place g.due.stage g.kind).1 g.form)

    pub first_form : (FirstRule s unknown_form_lem × (kind_field s place ≡ 8)) ↔ FormRefused s place
    first_form = (
      λ x. form_at x.1 (first_broken_lem unknown_form_lem (inl (omega arith)) x.0),
      λ g. (Reading.FirstRule.in_bytes (in_file (form_breaks g)), g.kind),
    )

    pub first_form_both : (FirstRuleBoth s unknown_form_lem × (kind_field s place ≡ 8)) ↔ FormRefused s place
    unfolding position
    first_form_both = (
      λ x. form_at x.1 (first_broken_both unknown_form_lem (inl (omega arith)) (omega arith) (λ _ _ _. x.1) x.0),
      λ g. (Judging.FirstRuleBoth.in_bytes (in_network (form_breaks g)), g.kind),
    )

-- ---- the record of each link of a file that keeps the rules

module _ (s : List ℕ) (E K : ℕ) where
  -- a link's record that is not of kind 8 is of kind 3
  other_link : (at : ℕ) → Keeps s E K at Links → ¬ (kind_field s at ≡ 8) → kind_field s at ≡ 3
  other_link at keeps other = go (eqb (kind_field s at) 3) refl
    where
      neither : (kind : ℕ) → ¬ (kind ≡ 3) → ¬ (kind ≡ 8) → ¬ MayCome Links kind
      neither _ a b (_, behind_link) = a refl
      neither _ a b (_, behind_guarded_link) = b refl

      go : (t : Bool) → eqb (kind_field s at) 3 ≡ t → kind_field s at ≡ 3
      go true t = eqb-true (kind_field s at) 3 t
      go false t = absurd (keeps KindOutOfPlace (neither (kind_field s at) (eqb-false (kind_field s at) 3 t) other))

pub link_placed : (s : List ℕ) → KeepsNetwork s → (l : ℕ) → l < word s 6
    → (at : ℕ) × Stand s (word s 4) (word s 6) ((Head ∷ replicate (word s 4) Elements) ++ replicate l Links) 0 at × (¬ (kind_field s at ≡ 8) → kind_field s at ≡ 3)
link_placed s keeps l lt =
    let r = stand_split s (word s 4) (word s 6) (Head ∷ replicate (word s 4) Elements) (replicate (word s 6) Links ++ (End ∷ [])) keeps in
    let q = stand_links s (word s 4) (word s 6) (word s 6) l (End ∷ []) lt r.2 in
    (q.0, stand_append s (word s 4) (word s 6) r.1 q.1, other_link s (word s 4) (word s 6) q.0 q.2)
