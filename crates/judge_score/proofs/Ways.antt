-- Each way through the functions ends in the standing or mark that the definition gives. By the laws of `judge_marks`, and of the planner by `CheapestIn` alone.
-- Assumes nothing.
use mathlib.Core.Path.{◌≡◌, refl, sym, ap, ◌∙◌, subst}
use mathlib.Core.Bool.{Bool, true, false, ◌||◌}
use mathlib.Core.List.{List}
use Prim.Native.Nat.{ℕ}
use native.Mathlib.Omega.{arith}
use Rattle.std.specs.Prelude.{Result, Ok, Err, Option, Some, None, ltb}
use Rattle.network.specs.declared.Network.{Network}
use Rattle.network.specs.declared.refusal.Refusal.{Refusal}
use Rattle.network.specs.Accepted.{WellFormed}
use Rattle.file_plan.specs.declared.plan.Plan.{Plan}
use Rattle.file_plan.specs.Accepted.{WellFormedPlan}
use Rattle.feeding.specs.Below.{bits}
use Rattle.feeding.specs.Networks.{Net, net_of, grid_of, is_in}
use Rattle.feeding.specs.Acceptance.{Starts}
use Rattle.feeding.specs.Plans.{Step, run}
use Rattle.feeding.specs.Costs.{cost_of}
use Rattle.feeding.specs.Restoration.{operable?}
use Rattle.feeding.proofs.Views.{formed_net}
use Rattle.feeding_restoration.proofs.Sets.{set_at}
use Rattle.plan_form.specs.Printing.{steps_of}
use Rattle.plan_least_cost.specs.LeastCost.{CheapestIn}
use Rattle.judge_marks.specs.declared.BadStep.{BadStep}
use Rattle.judge_marks.specs.declared.Standing.{Standing}
use Rattle.judge_marks.specs.declared.Standing.TheVariants as Standing·
use Rattle.judge_marks.specs.declared.Mark.{Mark}
use Rattle.judge_marks.specs.Marks.{steps_examined, dark_place, standing_at, standing_after, standing_by, standing_of, complete?, cost_asked, AtMost, cheapest_cost, mark_with, mark_by, mark_under, mark_of}
use Rattle.judge_marks.proofs.Marking.{cost_cheapest, none_cheapest, complete_room}
use Rattle.feeding.specs.Below.{some_below}
use Rattle.judge_steps.proofs.Front.{steps_below}
use Rattle.judge_examine.proofs.Examining.{examined_same}

-- ---- all steps are good

some_none : {x : ℕ} → ¬ (◌≡◌ {A = Option ℕ} (Some x) None)
some_none e = let z : ◌≡◌ {A = ℕ} 0 1 = cc in omega arith

module _ (net : Net) (cost place : ℕ) (found : Option ℕ) (is : found ≡ some_below net.grid.E place) where
  -- the place is below the count, or it is not
  told : (t : Bool) → ltb place net.grid.E ≡ t → found ≡ elim t [ true ↦ Some place | false ↦ None ]
  unfolding some_below
  told t e = is ∙ rw (e, some_below) refl

  pub short_at : (dark : ℕ) → found ≡ Some dark → Standing·.Short dark ≡ standing_at net cost place
  unfolding standing_at
  short_at dark h = go (ltb place net.grid.E) refl
    where
      go : (t : Bool) → ltb place net.grid.E ≡ t → Standing·.Short dark ≡ standing_at net cost place
      go true e = rw (e, standing_at) (ap Standing·.Short (let same : ◌≡◌ {A = Option ℕ} (Some dark) (Some place) = sym h ∙ told true e in cc))
      go false e = absurd (some_none (sym h ∙ told false e))

  pub complete_at : found ≡ None → (x : ℕ) → x ≡ cost → Standing·.Complete x ≡ standing_at net cost place
  unfolding standing_at
  complete_at h x e = go (ltb place net.grid.E) refl
    where
      go : (t : Bool) → ltb place net.grid.E ≡ t → Standing·.Complete x ≡ standing_at net cost place
      go true t = absurd (some_none (sym (told true t) ∙ h))
      go false t = rw (t, standing_at) (ap Standing·.Complete e)

-- ---- what the steps are found to be, with the set of operable switches that is handed in

module _ (n : Network) (w : WellFormed n) (p : Plan) (v : WellFormedPlan n.links p)
    (operable : List ℕ) (operable_is : operable ≡ bits 96 n.links (operable? (net_of n)))
    (x : Result Unit BadStep) (is : x ≡ steps_examined (net_of n) (is_in operable) (net_of n).start_closed 1 (steps_of p)) where
  -- the set is asked at the steps' links only
  found_is : x ≡ steps_examined (net_of n) (operable? (net_of n)) (net_of n).start_closed 1 (steps_of p)
  unfolding net_of grid_of
  found_is =
      is
      ∙ examined_same (net_of n) (formed_net n w) (is_in operable) (operable? (net_of n)) (set_at n w n.links _ operable w.links_fit operable_is)
      (net_of n).start_closed (net_of n).start_closed (λ _ _. refl) 1 (steps_of p) (steps_below n.links p v)

  pub broken_standing : (b : BadStep) → x ≡ Err b → Standing·.Broken b ≡ standing_of (net_of n) (steps_of p)
  unfolding standing_by standing_after
  broken_standing b e = ap (standing_after (net_of n) (cost_of (net_of n)) (steps_of p)) (sym e ∙ found_is)

  pub good_standing : x ≡ Ok tt → (f : Standing)
      → f ≡ standing_at (net_of n) (cost_of (net_of n) (steps_of p)) (dark_place (net_of n) (run (net_of n).start_closed (steps_of p))) → f ≡ standing_of (net_of n) (steps_of p)
  unfolding standing_by standing_after
  good_standing e f h = h ∙ ap (standing_after (net_of n) (cost_of (net_of n)) (steps_of p)) (sym e ∙ found_is)

-- ---- one of two asks

pub incomplete : (found : Standing) → ((cost : ℕ) → found ≡ Standing·.Complete cost → ⊥) → false ≡ complete? found
unfolding complete?
incomplete (Standing·.Broken b) h = refl
incomplete (Standing·.Short e) h = refl
incomplete (Standing·.Complete cost) h = absurd (h cost refl)

pub first_asks : (one other : Standing) (r : Bool) → r ≡ (complete? one || complete? other) → complete? one ≡ true → r ≡ true
first_asks one other r e h = e ∙ ap (λ (x : Bool). x || complete? other) h

pub second_asks : (one other : Standing) (r : Bool) → r ≡ (complete? one || complete? other) → complete? other ≡ true → r ≡ true
second_asks one other r e h = e ∙ go (complete? one)
  where
    go : (a : Bool) → (a || complete? other) ≡ true
    go true = refl
    go false = h

-- ---- the cheapest cost, where it is asked for

module _ (n : Network) (w : WellFormed n) (st : Starts (net_of n)) where
  pub not_asked : (asked : Bool) → asked ≡ false → 0 ≡ cost_asked (net_of n) asked
  unfolding cost_asked
  not_asked asked e = rw e

  module _ (asked : Bool) (is : asked ≡ true) (r : Option ℕ) (found : CheapestIn (net_of n) r) where
    pub asked_cost : (least : ℕ) → r ≡ Some least → (x : ℕ) → x ≡ least → x ≡ cost_asked (net_of n) asked
    unfolding cost_asked
    asked_cost least e x same =
        rw is (same ∙ cost_cheapest (net_of n) (formed_net n w) st.safe least (subst (CheapestIn (net_of n)) e found))

    pub asked_none : r ≡ None → (x : ℕ) → x ≡ 0 → x ≡ cost_asked (net_of n) asked
    unfolding cost_asked
    asked_none e x same = rw is (same ∙ none_cheapest (net_of n) (formed_net n w) st.safe (subst (CheapestIn (net_of n)) e found))

  -- ---- the mark of a plan that stands so, by the cheapest cost where this plan, or another, asks for it

  module _ (q : List Step) (found : Standing) (is : found ≡ standing_of (net_of n) q) (asked : Bool) (asks : complete? found ≡ true → asked ≡ true)
      (least : ℕ) (least-is : least ≡ cost_asked (net_of n) asked) where
    pub asked_room : AtMost least found
    unfolding complete? cost_asked
    asked_room cost e =
        let on : asked ≡ true = asks (ap complete? e) in
        let same : least ≡ cheapest_cost (net_of n) = least-is ∙ ap (cost_asked (net_of n)) on in
        omega (arith, same, complete_room (net_of n) (formed_net n w) st.safe q cost (sym is ∙ e))

    pub asked_mark : (m : Mark) → m ≡ mark_with least found → m ≡ mark_of (net_of n) q
    unfolding mark_under mark_by mark_with complete? cost_asked
    asked_mark m h = h ∙ go found asks ∙ ap (mark_with (cheapest_cost (net_of n))) is
      where
        go : (x : Standing) → (complete? x ≡ true → asked ≡ true) → mark_with least x ≡ mark_with (cheapest_cost (net_of n)) x
        go (Standing·.Broken b) a = refl
        go (Standing·.Short d) a = refl
        go (Standing·.Complete cost) a =
            ap (λ (l : ℕ). mark_with l (Standing·.Complete cost)) (least-is ∙ ap (cost_asked (net_of n)) (a refl))
