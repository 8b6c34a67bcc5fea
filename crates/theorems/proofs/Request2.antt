-- Document 02, item 2, "Switches that can't break load", sentence by sentence, for every sequence of bytes s. That rules 1 to 13 and 20 are answered both ways is
-- Demand1's; that the printed plan is the cheapest, and what VALID and excess say, are Demand2's and Demand3's: both speak of `cost_of`, which is said here.
-- Assumes nothing.
use mathlib.Core.Path.{◌≡◌, refl, sym, ap, subst, ◌∙◌}
use mathlib.Core.Bool.{true}
use mathlib.Core.List.{List, [], ◌∷◌, ◌++◌}
use mathlib.Core.Logic.Iff
use mathlib.Core.Logic.{◌↔◌, ◌⊎◌}
use Prim.Native.Nat.{ℕ, ◌+◌, ◌*◌, ◌-◌, ◌<◌, ◌≤◌}
use native.Mathlib.Omega.{arith}
use lib.ListN.{length, get_or, replicate}
use borrow.Author.Tests.{le-ltb, ne_eqb}
use Rattle.network.specs.declared.Network.{Network}
use Rattle.network.specs.declared.refusal.Refusal.{Refusal}
use Rattle.network.specs.declared.refusal.Rule.TheVariants.{KindOutOfPlace, WrongLength, UnknownForm, UnsuitedCost, TooManySteps, BadGuard}
use Rattle.network.specs.Networks.{no_guard}
use Rattle.network.specs.Accepted.{WellFormed}
use Rattle.network.specs.Refusals.{Sooner, position, rule_number}
use Rattle.network.proofs.Order.{guard_after_cost}
use Rattle.file_stages.specs.declared.Stage.{Stage}
use Rattle.file_stages.specs.declared.Stage.TheVariants.{Head, Elements, Links, End, PlanHead, Steps, PlanEnd, Over}
use Rattle.file_stages.specs.Stages.{next_stage}
use Rattle.file_fields.specs.Views.{Seen}
use Rattle.file_fields.specs.Fields.{word, length_of}
use Rattle.std.specs.Prelude.{Err}
use Rattle.file_records.specs.Records.{kind_field, length_field, due_by, due_at}
use Rattle.file_records.proofs.Known as Known
use Rattle.file_network.specs.Runs.{refused}
use Rattle.file_network.specs.Inputs.{network_input_by}
use Rattle.file_both.specs.Inputs.{both_input_by}
use Rattle.file_refusals.specs.Breaking.{ComesNext, KindLength, guarded_link, Lead, EarlierSwitch, BreaksRule}
use Rattle.file_refusals.specs.Files.{Stand, KeepsNetwork, KeepsBoth}
use Rattle.file_refusals.specs.Stated.{LinkIs, unguarded, guarded}
use Rattle.file_refusals.proofs.Files.{stand_unbroken}
use Rattle.file_refusals.proofs.Record.{comes_next, in_table, length_only}
use Rattle.file_refusals.proofs.Leads.{earlier_number, guard_number}
use Rattle.file_refusals.proofs.Reading.{file_formed}
use Rattle.file_refusals.proofs.Stated.{within}
use Rattle.texts.specs.Texts.{refused_line, line_of}
use Rattle.feeding.specs.Networks.{Net, with_guards, net_of, grid_of, at}
use Rattle.feeding.specs.Plans.{Step, ValidPlan, operations}
use Rattle.feeding.specs.Costs.{steps_cost, HasGuard, PaidFor, Costs, cost_of}
use Rattle.feeding.proofs.Guards.{cost_is, cost_only, operated_in, operated_out}
use Rattle.feeding.proofs.Prices as Prices
use Rattle.feeding.proofs.Behind as Behind
use Rattle.feeding.proofs.OtherGuards as OtherGuards
use Rattle.plan_problem.specs.Choosing.{NoPlan}
use Rattle.feeding_acceptance.specs.Reading.{Bytes, AcceptedNetwork}
use Rattle.feeding_acceptance.specs.Reading as Reading
use Rattle.judge_marks.specs.declared.Score.{Score}
use Rattle.judge_marks.specs.declared.Mark.{Mark}
use Rattle.judge_marks.specs.declared.Mark.TheVariants as Mark·
use Rattle.judge_marks.specs.Marks.{Marked}
use Rattle.judge_marks.specs.Marks as Marks
use Rattle.judge_line.specs.MarkLines.{valid_word, mark_line}
use Rattle.plan_sums.specs.declared.Sums.{Sums}
use Rattle.plan_outcome.specs.Outcomes.{outcome_by, outcome}
use Rattle.judge.specs.Judging.{AcceptedPlan}
use Rattle.judge.specs.Judging as Judging
use Rattle.theorems.proofs.AsEver as AsEver
use Rattle.theorems.proofs.Buffers as Buffers
use Rattle.theorems.proofs.Exactly as Exactly
use Rattle.theorems.proofs.Guarding.{form_broken, guard_breaks, first_guard, first_guard_both, first_form, first_form_both, link_placed}
use Rattle.plan_outcome.specs.declared.Reply.TheVariants as Reply·
use Rattle.planner.specs.Replies.{plan_text_of, reply_for}
use Rattle.theorems.proofs.Words.{printed_promises}
use Rattle.theorems.specs.Words.{plan_text, mark_text, plan_text_by, mark_text_by, item_one, Without, FormRefused, GuardRefused}

-- ---- "Kind 8 is a switch laid out as kind 3, in the same places, with one more field, the number of its guard, an earlier switch link; length 14."

module _ (s : List ℕ) (E K at : ℕ) (stage : Stage) (eight : kind_field s at ≡ 8) where
  -- any other length breaks rule 3
  pub length_14 : BreaksRule s E K at stage WrongLength ↔ ¬ (length_field s at ≡ 14)
  unfolding length_of
  length_14 = (λ broken e. broken (rw (eight, e) guarded_link), λ other k. other (length_only (subst (λ (x : ℕ). KindLength x (length_field s at)) eight k)))

pub same_places : (stage next : Stage) → ComesNext stage 8 next ↔ ComesNext stage 3 next
unfolding next_stage
same_places stage next = (λ c. comes_next stage 3 next (sym (same stage) ∙ in_table c), λ c. comes_next stage 8 next (same stage ∙ in_table c))
  where
    same : (st : Stage) → next_stage st 8 ≡ next_stage st 3
    same Head = refl
    same Elements = refl
    same Links = refl
    same End = refl
    same PlanHead = refl
    same Steps = refl
    same PlanEnd = refl
    same Over = refl

-- what an accepted network has of it: the fields of kind 3, and the guard behind them, which is an earlier switch
module _ (s : List ℕ) (bytes : Bytes s) (n : Network) (a : AcceptedNetwork s n) (l at : ℕ) (lt : l < word s 6)
    (stand : Stand s (word s 4) (word s 6) ((Head ∷ replicate (word s 4) Elements) ++ replicate l Links) 0 at) where
  pub link_is : kind_field s at ≡ 8 → LinkIs n l (word s (at + 4)) (word s (at + 6)) (word s (at + 8)) (word s (at + 10)) (word s (at + 12))
  link_is eight = a.file.states.link l at _ lt stand (guarded eight)

  -- a link of kind 3 has none
  pub link_unguarded : kind_field s at ≡ 3 → LinkIs n l (word s (at + 4)) (word s (at + 6)) (word s (at + 8)) (word s (at + 10)) no_guard
  link_unguarded three = a.file.states.link l at _ lt stand (unguarded three)

pub guard_earlier : (s : List ℕ) → Bytes s → (n : Network) → AcceptedNetwork s n → (l : ℕ) → l < n.links → get_or n.guard l 0 < no_guard
    → ¬ (get_or n.form l 0 ≡ 0) × ((get_or n.guard l 0 < l) × ¬ (get_or n.form (get_or n.guard l 0) 0 ≡ 0))
guard_earlier s bytes n a l k has = let g = (file_formed s bytes n a.file).guarded l k has in (g.switch, (g.earlier, g.guards))

-- an earlier switch is one of a lower number that is not fixed; so rule 20 is broken where the guard's number is not below
-- the link's own, or is that of a fixed link. The record of link g stands at a place:
abbrev LinkStands : (s : List ℕ) (E K g place : ℕ) → Type 0
LinkStands s E K g place = Stand s E K ((Head ∷ replicate E Elements) ++ replicate g Links) 0 place

module _ (s : List ℕ) (E K l at : ℕ) (stand : LinkStands s E K l at) where
  pub earlier_switch : (g : ℕ) → EarlierSwitch s E at g
      ↔ ((g < l) × ((place : ℕ) → LinkStands s E K g place → ¬ (word s (place + 8) ≡ 0)))
  earlier_switch = earlier_number s E K l at stand

  pub guard_refused : (stage : Stage) → kind_field s at ≡ 8 → BreaksRule s E K at stage BadGuard
      ↔ ((l ≤ word s (at + 12))
      ⊎ ((place : ℕ) × LinkStands s E K (word s (at + 12)) place × (word s (place + 8) ≡ 0)))
  guard_refused = guard_number s E K l at stand

-- ---- "A plan's cost gains twice the guard's own cost, once for each guard however many of its switches are operated."

-- what computes is what these words say, for every list of steps, and nothing else is
pub cost_said : (net : Net) (q : List Step) (cost : ℕ) → Costs net q cost ↔ (cost ≡ cost_of net q)
cost_said net q cost = (cost_only net q cost, λ e. subst (Costs net q) (sym e) (cost_is net q))

-- one guard, one charge, however many of its switches are operated and how often
pub one_charge : (net : Net) (q : List Step) (l : ℕ) → l < net.grid.K → 0 < operations l q → HasGuard net l
    → ((m : ℕ) → m < net.grid.K → 0 < operations m q → HasGuard net m → net.guard m ≡ net.guard l)
    → Costs net q (steps_cost net q + 2 * net.cost (net.guard l))
one_charge net q l k operates has same =
    (cost_said net q _).1 (sym (Prices.one_charge net q l (net.guard l) k (operated_in q l operates) refl has (λ m b o. same m b (operated_out q m o))))

-- of several guards each has its charge: one more step of a switch whose guard is paid for adds its own cost alone, one of
-- a switch whose guard is not adds twice the guard's cost too
module _ (net : Net) (q : List Step) (s : Step) (inside : s.link < net.grid.K) (cost : ℕ) (paid : Costs net q cost) where
  so_far : cost ≡ cost_of net q
  so_far = (cost_said net q cost).0 paid

  pub paid_again : PaidFor net q (net.guard s.link) → Costs net (q ++ (s ∷ [])) (cost + net.cost s.link)
  paid_again p = (cost_said net _ _).1 (omega (arith, so_far, Behind.cost_paid net q s inside p))

  pub paid_first : HasGuard net s.link → ¬ PaidFor net q (net.guard s.link)
      → Costs net (q ++ (s ∷ [])) (cost + net.cost s.link + 2 * net.cost (net.guard s.link))
  paid_first has unpaid = (cost_said net _ _).1 (omega (arith, so_far, Behind.cost_new net q s inside has unpaid))

  pub free_step : ¬ HasGuard net s.link → Costs net (q ++ (s ∷ [])) (cost + net.cost s.link)
  free_step free = (cost_said net _ _).1 (omega (arith, so_far, Behind.cost_free net q s inside free))

-- ---- "These openings aren't steps.": guards make no plan valid or invalid

module _ (net : Net) (guard : ℕ → ℕ) where
  pub same_plans : (q : List Step) → ValidPlan net q ↔ ValidPlan (with_guards net guard) q
  same_plans = OtherGuards.same_plans net guard

  pub same_none : NoPlan net ↔ NoPlan (with_guards net guard)
  same_none = (λ none q v. none q ((same_plans q).1 v), λ none q v. none q ((same_plans q).0 v))

-- and where no operated switch has a guard, as a guard's own guard that is not operated, the steps' own costs are all

pub steps_alone : (net : Net) (q : List Step) → ((l : ℕ) → l < net.grid.K → 0 < operations l q → ¬ HasGuard net l) → Costs net q (steps_cost net q)
steps_alone net q free = (cost_said net q _).1 (sym (Prices.unguarded_list net q (λ l k o. free l k (operated_out q l o))))

-- ---- "Cheapest, VALID and excess use the new cost from here on."

module _ (s : List ℕ) (bytes : Bytes s) (n : Network) where
  -- the printed cost is the plan's, and no valid plan costs less
  module _ (a : AcceptedNetwork s n) (q : List Step) (cost : ℕ) (l : Sums) (printed : plan_text s ≡ plan_text_of q cost l) where
    pub printed_cost : Costs (net_of n) q cost
    printed_cost = (cost_said (net_of n) q cost).1 (printed_promises s bytes n a q cost l printed).promised.own

    pub cheapest : (r : List Step) → ValidPlan (net_of n) r → (other : ℕ) → Costs (net_of n) r other → cost ≤ other
    cheapest r v other h = omega (arith, (cost_said (net_of n) r other).0 h, ((printed_promises s bytes n a q cost l printed).promised.every r v).at_least)

  -- the judge's cost is the plan's, and its excess what that is above a valid plan's which no valid plan is below
  module _ (q : List Step) (a : AcceptedPlan s n q) (cost excess : ℕ) (printed : mark_text s ≡ line_of valid_word cost excess) where
    marked : Marked (net_of n) q (Mark·.Valid (record { cost = cost; excess = excess }))
    unfolding mark_line
    marked = (Exactly.mark_printed s bytes n q a (Mark·.Valid (record { cost = cost; excess = excess }))).0 printed

    scored : (m : Mark) → Marked (net_of n) q m → (v : Score) → m ≡ Mark·.Valid v
        → (v.cost ≡ cost_of (net_of n) q) × ((r : List Step) × (least : ℕ) × ValidPlan (net_of n) r × (cost_of (net_of n) r ≡ least)
        × ((r' : List Step) → ValidPlan (net_of n) r' → least ≤ cost_of (net_of n) r') × (v.cost ≡ least + v.excess))
    scored _ (Marks.broken x) v e = let z : ◌≡◌ {A = ℕ} 0 1 = cc in absurd (omega arith)
    scored _ (Marks.short x) v e = let z : ◌≡◌ {A = ℕ} 0 1 = cc in absurd (omega arith)
    scored _ (Marks.valid {v = u} x) v e =
        let same : u ≡ v = cc in
        subst (λ (w : Score). (w.cost ≡ cost_of (net_of n) q) × ((r : List Step) × (least : ℕ) × ValidPlan (net_of n) r × (cost_of (net_of n) r ≡ least)
        × ((r' : List Step) → ValidPlan (net_of n) r' → least ≤ cost_of (net_of n) r') × (w.cost ≡ least + w.excess))) same
        (x.own, (x.least.plan, x.cheapest, x.least.valid, x.least.own, x.least.least, x.above))

    pub judged_cost : Costs (net_of n) q cost
    judged_cost = (cost_said (net_of n) q cost).1 (scored _ marked _ refl).0

    pub judged_excess : (r : List Step) × (least : ℕ) × ValidPlan (net_of n) r × Costs (net_of n) r least
        × ((r' : List Step) → ValidPlan (net_of n) r' → (other : ℕ) → Costs (net_of n) r' other → least ≤ other) × (cost ≡ least + excess)
    judged_excess = let x = (scored _ marked _ refl).1 in (
      x.0,
      x.1,
      x.2,
      (cost_said (net_of n) x.0 x.1).1 (sym x.3),
      (λ r' v other h. omega (arith, (cost_said (net_of n) r' other).0 h, x.4 r' v)),
      x.5,
    )

-- ---- "Form 0 breaks rule 8 here."

pub form_refused : (s : List ℕ) (E K at : ℕ) (stage : Stage) → kind_field s at ≡ 8
    → BreaksRule s E K at stage UnknownForm ↔ ((word s (at + 8) ≡ 0) ⊎ (2 < word s (at + 8)))
form_refused s E K at stage eight = form_broken s E K at stage eight

-- the printed reply, and the library's, where 8 is the first rule broken, at a record of kind 8
module _ (s : List ℕ) (bytes : Bytes s) (place : ℕ) where
  abbrev refused_8 : Refusal
  refused_8 = record { rule = UnknownForm; place = place }

  pub planner_8 : ((plan_text s ≡ refused_line refused_8) × (kind_field s place ≡ 8)) ↔ FormRefused s place
  planner_8 = Iff.trans (Iff.and (Exactly.refused_printed s bytes refused_8) Iff.rfl) (first_form s place)

  pub judge_8 : ((mark_text s ≡ refused_line refused_8) × (kind_field s place ≡ 8)) ↔ FormRefused s place
  judge_8 = Iff.trans (Iff.and (Exactly.refused_marked s bytes refused_8) Iff.rfl) (first_form_both s place)

  pub library_8 : (before : List ℕ)
      → ((reply_for (outcome s) before ≡ Reply·.Refused refused_8) × (kind_field s place ≡ 8)) ↔ FormRefused s place
  library_8 before =
      let library = Buffers.library_refused s bytes before refused_8 (λ e. omega (arith, ap rule_number e)) in
      Iff.trans (Iff.and library Iff.rfl) (first_form s place)

-- ---- "It refuses, after 9 in the same record and with the same place, with 20 a guard that isn't an earlier switch."

pub after_9 : Sooner UnsuitedCost BadGuard × Sooner BadGuard TooManySteps
unfolding position
after_9 = (guard_after_cost, omega arith)

module _ (s : List ℕ) (bytes : Bytes s) (place : ℕ) where
  abbrev refused_20 : Refusal
  refused_20 = record { rule = BadGuard; place = place }

  pub planner_20 : (plan_text s ≡ refused_line refused_20) ↔ GuardRefused s place
  planner_20 = Iff.trans (Exactly.refused_printed s bytes refused_20) (first_guard s place)

  pub judge_20 : (mark_text s ≡ refused_line refused_20) ↔ GuardRefused s place
  judge_20 = Iff.trans (Exactly.refused_marked s bytes refused_20) (first_guard_both s place)

  pub library_20 : (before : List ℕ) → (reply_for (outcome s) before ≡ Reply·.Refused refused_20) ↔ GuardRefused s place
  library_20 before =
      let library = Buffers.library_refused s bytes before refused_20 (λ e. omega (arith, ap rule_number e)) in
      Iff.trans library (first_guard s place)

-- ---- "Where item 1 speaks of a file that passes rules 1 to 13, it must pass 20 as well.": what Request1 asks of files that are rewritten

pub passes_20 : (s : List ℕ) → KeepsNetwork s → (place : ℕ) → ¬ GuardRefused s place
passes_20 s keeps place g = stand_unbroken s (word s 4) (word s 6) keeps (guard_breaks s place g)

pub both_passes_20 : (s : List ℕ) → KeepsBoth s → (place : ℕ) → ¬ GuardRefused s place
both_passes_20 s keeps place g = stand_unbroken s (word s 4) (word s 6) keeps.network (guard_breaks s place g)

-- ---- what a file without kind 8 always got, refusals included: the reply of a reader that knows item 1's kinds alone, but where that refuses a record of kind 8 by
-- rule 2; and the steps' own costs

pub known_record : (s : List ℕ) (seen : Seen) (at : ℕ) (stage : Stage) → item_one (kind_field s at) ≡ true → due_by item_one s seen at stage ≡ due_at s seen at stage
known_record = Known.known_record item_one

pub unknown_record : (s : List ℕ) (seen : Seen) (at : ℕ) (stage : Stage) → kind_field s at ≡ 8 → at + 4 ≤ length s
    → due_by item_one s seen at stage ≡ Err (record { rule = KindOutOfPlace; place = at })
unknown_record s seen at stage h four = Known.unknown_record item_one s seen at stage (ap item_one h) (le-ltb (length s - at) 4 (omega arith))

module _ (s : List ℕ) where
  pub library_as_ever : ((place : ℕ) → network_input_by item_one s ≡ refused (record { rule = KindOutOfPlace; place = place }) → item_one (kind_field s place) ≡ true)
      → outcome s ≡ outcome_by item_one s
  library_as_ever = AsEver.library_as_ever item_one s

  pub planner_as_ever : ((place : ℕ) → network_input_by item_one s ≡ refused (record { rule = KindOutOfPlace; place = place }) → item_one (kind_field s place) ≡ true)
      → plan_text s ≡ plan_text_by item_one s
  planner_as_ever = AsEver.planner_as_ever item_one s

  pub judge_as_ever : ((place : ℕ) → both_input_by item_one s ≡ refused (record { rule = KindOutOfPlace; place = place }) → item_one (kind_field s place) ≡ true)
      → mark_text s ≡ mark_text_by item_one s
  judge_as_ever = AsEver.judge_as_ever item_one s

  -- so where no record is of kind 8
  module _ (no-8 : Without 8 s) where
    known : (n at : ℕ) → Lead s n 0 at → item_one (kind_field s at) ≡ true
    known n at lead = rw (ne_eqb (kind_field s at) 8 (no-8 n at lead))

    pub library_without : outcome s ≡ outcome_by item_one s
    library_without = AsEver.library_of_kinds item_one s known

    pub planner_without : plan_text s ≡ plan_text_by item_one s
    planner_without = AsEver.planner_of_kinds item_one s known

    pub judge_without : mark_text s ≡ mark_text_by item_one s
    judge_without = AsEver.judge_of_kinds item_one s known

  -- the cost of any steps in a network whose file has no link of kind 8
  pub cost_as_ever : (bytes : Bytes s) (n : Network) → AcceptedNetwork s n
      → ((l at : ℕ) → l < word s 6 → Stand s (word s 4) (word s 6) ((Head ∷ replicate (word s 4) Elements) ++ replicate l Links) 0 at → ¬ (kind_field s at ≡ 8))
      → (q : List Step) → Costs (net_of n) q (steps_cost (net_of n) q)
  unfolding net_of grid_of
  cost_as_ever bytes n a without q = steps_alone (net_of n) q (λ l k _ has. omega (arith, free l k, formed.links_fit))
    where
      formed : WellFormed n
      formed = file_formed s bytes n a.file

      free : (l : ℕ) → l < n.links → get_or n.guard l 0 ≡ no_guard
      free l k =
          let lt : l < word s 6 = omega (arith, a.file.states.links) in
          let r = link_placed s a.file.keeps l lt in
          within 0 no_guard n.guard l (omega (arith, formed.guard_long, formed.links_fit))
          ∙ (link_unguarded s bytes n a l r.0 lt r.1 (r.2 (without l r.0 lt r.1))).guard_is

-- ---- lengths: kind 8 lets accepted input be longer than item 1 did

pub network_long : (s : List ℕ) (n : Network) → AcceptedNetwork s n → length s ≤ 2252
network_long = Exactly.accepted_most

pub both_long : (s : List ℕ) (n : Network) (q : List Step) → AcceptedPlan s n q → length s ≤ 4302
both_long = Exactly.accepted_plan_most
