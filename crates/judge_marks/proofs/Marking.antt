-- The mark is the paper's, and the only one, for any operable set, cost and cheapest cost; document 01's cheapest cost is that of the planner's recursion.
-- Assumes nothing.
use Prim.Native.Nat.{ℕ, ◌+◌, ◌-◌, ◌≤◌, ◌<◌}
use mathlib.Core.Path.{◌≡◌, refl, sym, ap, ◌∙◌, subst}
use mathlib.Core.Bool.{Bool, true, false, not, ◌&&◌}
use mathlib.Core.List.{List}
use lib.Dec.{ltb}
use borrow.Author.Tests.{ltb-true, ltb-false, lt-ltb}
use native.Mathlib.Omega.{arith}
use Rattle.std.specs.Prelude.{Result, Ok, Err}
use Rattle.feeding.specs.Below.{Lowest}
use Rattle.feeding.specs.Networks.{Net, Formed}
use Rattle.feeding.specs.Parts.{Config, Live, live?}
use Rattle.feeding.specs.Plans.{Step, Good, Valid, ValidPlan, run, printed_form}
use Rattle.feeding.specs.Costs.{cost_of}
use Rattle.feeding.specs.Restoration.{Operable, Restored, restorable?, operable?}
use Rattle.feeding.specs.Safety.{Safe}
use Rattle.feeding.proofs.Below.{and_left, and_right, and_both, not_in, not_out}
use Rattle.feeding.proofs.Lows.{lowest_is, lowest_map, lowest_unique, none_place}
use Rattle.feeding.proofs.Tests.{live?_in, live?_out, dark_out, restorable?_in, restorable?_out, operable?_in, operable?_out}
use Rattle.plan_problem.specs.Choosing.{CostsLeastBy, CostsLeast, NoPlan, NoneCheaperBy, NoneCheaper, PromisedBy, Promised, Choice, nothing, chosen, planned, printed_plan}
use Rattle.plan_problem.proofs.Choices.{PromisedChoice, planned_promised, cheapest_unique, promised_least}
use Rattle.judge_marks.specs.declared.BadStep.{BadStep}
use Rattle.judge_marks.specs.declared.Standing.TheVariants as Standing·
use Rattle.judge_marks.specs.declared.Score.{Score}
use Rattle.judge_marks.specs.declared.Mark.{Mark}
use Rattle.judge_marks.specs.declared.Mark.TheVariants as Mark·
use Rattle.judge_marks.specs.Marks.{StillDark, ValidBy, MarkedBy, Marked, broken, short, valid}
use Rattle.judge_marks.specs.Marks.{steps_examined, dark_place, standing_at, standing_after, standing_by, scored_at, mark_with, mark_by, cost_in, cheapest_under, cheapest_cost, standing_of, mark_under, mark_of}
use Rattle.judge_marks.proofs.Examining.{examined_good, good_examined, examined_broken, broken_examined}

module _ (net : Net) (formed : Formed net.grid) where
  -- ---- the elements that are left dark

  pub dark_lowest : (c : Config) → Lowest net.grid.E (StillDark net c) (dark_place net c)
  unfolding dark_place
  dark_lowest c = lowest_map net.grid.E _ _ _ out into (lowest_is net.grid.E _)
    where
      out : (e : ℕ) → e < net.grid.E → (restorable? net e && not (live? net.grid c e)) ≡ true → StillDark net c e
      out e k h = record {
        restorable = restorable?_out net formed e k (and_left (restorable? net e) _ h);
        dark = λ r. not_out _ (and_right (restorable? net e) _ h) (live?_in net.grid formed c e r);
      }

      into : (e : ℕ) → e < net.grid.E → StillDark net c e → (restorable? net e && not (live? net.grid c e)) ≡ true
      into e k d =
          and_both (restorable? net e) _ (restorable?_in net formed e k d.restorable)
          (not_in _ (λ h. d.dark (live?_out net.grid formed c e k h)))

  restored_none : (c : Config) → Restored net c → ltb (dark_place net c) net.grid.E ≡ false
  restored_none c r = none_place net.grid.E _ _ (dark_lowest c) (λ e k d. d.dark (r e k d.restorable))

  pub dark_restored : (c : Config) → net.grid.E ≤ dark_place net c → Restored net c
  dark_restored c h e k r = go (live? net.grid c e) refl
    where
      go : (t : Bool) → live? net.grid c e ≡ t → Live net.grid c e
      go true t = live?_out net.grid formed c e k t
      go false t = absurd ((dark_lowest c).none_lower e (omega arith) (record { restorable = r; dark = dark_out net.grid formed c e k t }))

  -- ---- the mark, where `cheapest` is the cheapest cost if there is a valid plan

  module _ (op : ℕ → Type 0) (op? : ℕ → Bool) (op-in : (l : ℕ) → op l → op? l ≡ true) (op-out : (l : ℕ) → op? l ≡ true → op l)
      (price : List Step → ℕ) (cheapest : ℕ)
      (least-of : (q : List Step) → Valid net op (Restored net) q → CostsLeastBy net op (Restored net) price cheapest) where
    -- what the steps are found to be
    abbrev found : List Step → Result Unit BadStep
    found q = steps_examined net op? net.start_closed 1 q

    -- the lowest restorable element that the steps leave dark
    abbrev dark : List Step → ℕ
    dark q = dark_place net (run net.start_closed q)

    abbrev mark : List Step → Mark
    mark q = mark_by net op? price cheapest q

    gives_broken : (q : List Step) (b : BadStep) → found q ≡ Err b → mark q ≡ Mark·.Broken b
    unfolding mark_by mark_with standing_by standing_after
    gives_broken q b h = ap (λ (x : Result Unit BadStep). mark_with cheapest (standing_after net price q x)) h

    gives_short : (q : List Step) → found q ≡ Ok tt → ltb (dark q) net.grid.E ≡ true → mark q ≡ Mark·.Short (dark q)
    unfolding mark_by mark_with standing_by standing_after standing_at
    gives_short q h t = ap (λ (x : Result Unit BadStep). mark_with cheapest (standing_after net price q x)) h ∙ rw (t, standing_at)

    gives_score : (q : List Step) → found q ≡ Ok tt → ltb (dark q) net.grid.E ≡ false → mark q ≡ scored_at cheapest (price q)
    unfolding mark_by mark_with standing_by standing_after standing_at
    gives_score q h t = ap (λ (x : Result Unit BadStep). mark_with cheapest (standing_after net price q x)) h ∙ rw (t, standing_at)

    score_is_by : (q : List Step) → Valid net op (Restored net) q → (cost least : ℕ) → cost ≡ price q
        → CostsLeastBy net op (Restored net) price least → Mark·.Valid (record { cost = cost; excess = cost - least }) ≡ scored_at cheapest (price q)
    unfolding scored_at
    score_is_by q v cost least e h = rw (e, cheapest_unique net op (Restored net) price least cheapest h (least-of q v))

    -- ---- the mark is as the paper says

    scored_by : (q : List Step) → Valid net op (Restored net) q → MarkedBy net op price q (scored_at cheapest (price q))
    unfolding scored_at
    scored_by q v =
        let least = least-of q v in
        let above : price q ≡ cheapest + (price q - cheapest) = omega (arith, least.least q v) in
        valid (record { valid = v; own = refl; cheapest = cheapest; least = least; above = above })

    found_good : (q : List Step) → found q ≡ Ok tt → Good net op net.start_closed q
    found_good q = examined_good net formed op op? op-in op-out net.start_closed 1 q

    pub mark_marked_by : (q : List Step) → MarkedBy net op price q (mark_by net op? price cheapest q)
    mark_marked_by q = go (found q) refl (ltb (dark q) net.grid.E) refl
      where
        go : (x : Result Unit BadStep) → found q ≡ x → (t : Bool) → ltb (dark q) net.grid.E ≡ t → MarkedBy net op price q (mark q)
        go (Err b) h t k =
            subst (MarkedBy net op price q) (sym (gives_broken q b h)) (broken (examined_broken net formed op op? op-in op-out q b h))
        go (Ok tt) h true t =
            subst (MarkedBy net op price q) (sym (gives_short q h t))
            (short (record { good = found_good q h; below = ltb-true _ _ t; lowest = dark_lowest (run net.start_closed q) }))
        go (Ok tt) h false t =
            subst (MarkedBy net op price q) (sym (gives_score q h t))
            (scored_by q (record { good = found_good q h; meets = dark_restored (run net.start_closed q) (ltb-false _ _ t) }))

    -- ---- and no other is

    good_found : (q : List Step) → Good net op net.start_closed q → found q ≡ Ok tt
    good_found q = good_examined net formed op op? op-in op-out net.start_closed 1 q

    valid_scored : (q : List Step) → Valid net op (Restored net) q → mark q ≡ scored_at cheapest (price q)
    valid_scored q v = gives_score q (good_found q v.good) (restored_none (run net.start_closed q) v.meets)

    pub marked_mark_by : (q : List Step) (m : Mark) → MarkedBy net op price q m → m ≡ mark_by net op? price cheapest q
    marked_mark_by q _ (broken {b} r) = sym (gives_broken q b (broken_examined net formed op op? op-in op-out q b r))
    marked_mark_by q _ (short {e} r) =
        let is : e ≡ dark q = lowest_unique net.grid.E _ e (dark q) r.lowest (dark_lowest (run net.start_closed q)) in
        ap Mark·.Short is ∙ sym (gives_short q (good_found q r.good) (lt-ltb (dark q) _ (omega (arith, r.below))))
    marked_mark_by q _ (valid {v} r) =
        let excess : v.excess ≡ v.cost - r.cheapest = omega (arith, r.above) in
        ap (λ (x : ℕ). Mark·.Valid (record { cost = v.cost; excess = x })) excess
        ∙ score_is_by q r.valid v.cost r.cheapest r.own r.least ∙ sym (valid_scored q r.valid)

    -- ---- the mark VALID

    -- what the mark VALID says
    valid_by : (q : List Step) (v : Score) → mark q ≡ Mark·.Valid v → ValidBy net op price q v
    valid_by q v e = go (subst (MarkedBy net op price q) e (mark_marked_by q))
      where
        go : MarkedBy net op price q (Mark·.Valid v) → ValidBy net op price q v
        go (valid r) = r

    -- a plan that stands complete is valid, so the cheapest cost is at most its own
    pub complete_room_by : (q : List Step) (cost : ℕ) → standing_by net op? price q ≡ Standing·.Complete cost → cheapest ≤ cost
    unfolding mark_by mark_with scored_at
    complete_room_by q cost e =
        let r = valid_by q _ (ap (mark_with cheapest) e) in
        omega (arith, r.own, (least-of q r.valid).least q r.valid)

    pub valid_exactly_by : (q : List Step)
        → (((v : Score) × (mark_by net op? price cheapest q ≡ Mark·.Valid v)) → Valid net op (Restored net) q)
        × (Valid net op (Restored net) q → (v : Score) × (mark_by net op? price cheapest q ≡ Mark·.Valid v))
    unfolding scored_at
    valid_exactly_by q = (λ h. (valid_by q h.0 h.1).valid, λ v. (_, valid_scored q v))

    -- an excess of 0 says that no valid plan is cheaper
    pub excess_exactly_by : (q : List Step) (v : Score) → mark_by net op? price cheapest q ≡ Mark·.Valid v
        → (v.excess ≡ 0 → NoneCheaperBy net op (Restored net) price q) × (NoneCheaperBy net op (Restored net) price q → v.excess ≡ 0)
    excess_exactly_by q v e =
        let r = valid_by q v e in (
          λ none q' v'. omega (arith, r.own, r.above, r.least.least q' v'),
          λ none. omega (arith, r.own, r.above, r.least.own, none r.least.plan r.least.valid),
        )

    -- a planner's plan has the mark VALID, its printed cost and no excess
    pub promised_marked_by : (q : List Step) (cost : ℕ) → PromisedBy net op (Restored net) price q cost
        → mark_by net op? price cheapest q ≡ Mark·.Valid (record { cost = cost; excess = 0 })
    promised_marked_by q cost p =
        valid_scored q p.valid
        ∙ sym (score_is_by q p.valid cost cost p.own (promised_least net op (Restored net) price q cost p)) ∙ none_over
      where
        none_over : Mark·.Valid (record { cost = cost; excess = cost - cost }) ≡ Mark·.Valid (record { cost = cost; excess = 0 })
        none_over = let e : cost - cost ≡ 0 = omega arith in rw e

  -- ---- document 01

  module _ (start-safe : Safe net.grid net.start_closed) where
    pub cheapest_least : (q : List Step) → ValidPlan net q → CostsLeast net (cheapest_cost net)
    unfolding cheapest_under cost_in printed_plan
    cheapest_least q v = go (planned net) (planned_promised net formed start-safe)
      where
        go : (x : Choice) → PromisedChoice net x → CostsLeast net (cost_in (cost_of net) (printed_plan net x))
        go nothing p = absurd (p q v)
        go (chosen D) p =
            subst (CostsLeast net) p.own (promised_least net (Operable net) (Restored net) (cost_of net) (printed_form net D) _ p)

    -- the cheapest cost by what the planner promises of it
    pub cost_cheapest : (least : ℕ) → CostsLeast net least → least ≡ cheapest_cost net
    cost_cheapest least h =
        cheapest_unique net (Operable net) (Restored net) (cost_of net) least (cheapest_cost net) h (cheapest_least h.plan h.valid)

    pub none_cheapest : NoPlan net → 0 ≡ cheapest_cost net
    unfolding cheapest_under cost_in printed_plan
    none_cheapest none = go (planned net) (planned_promised net formed start-safe)
      where
        go : (x : Choice) → PromisedChoice net x → 0 ≡ cost_in (cost_of net) (printed_plan net x)
        go nothing p = refl
        go (chosen D) p = absurd (none (printed_form net D) p.valid)

    pub complete_room : (q : List Step) (cost : ℕ) → standing_of net q ≡ Standing·.Complete cost → cheapest_cost net ≤ cost
    complete_room = complete_room_by (Operable net) (operable? net) (operable?_in net formed) (operable?_out net formed) (cost_of net) (cheapest_cost net) cheapest_least

    pub mark_marked : (q : List Step) → Marked net q (mark_of net q)
    unfolding mark_under
    mark_marked = mark_marked_by (Operable net) (operable? net) (operable?_in net formed) (operable?_out net formed) (cost_of net) (cheapest_cost net) cheapest_least

    pub marked_mark : (q : List Step) (m : Mark) → Marked net q m → m ≡ mark_of net q
    unfolding mark_under
    marked_mark = marked_mark_by (Operable net) (operable? net) (operable?_in net formed) (operable?_out net formed) (cost_of net) (cheapest_cost net) cheapest_least

    pub valid_exactly : (q : List Step)
        → (((v : Score) × (mark_of net q ≡ Mark·.Valid v)) → ValidPlan net q) × (ValidPlan net q → (v : Score) × (mark_of net q ≡ Mark·.Valid v))
    unfolding mark_under
    valid_exactly = valid_exactly_by (Operable net) (operable? net) (operable?_in net formed) (operable?_out net formed) (cost_of net) (cheapest_cost net) cheapest_least

    pub excess_exactly : (q : List Step) (v : Score) → mark_of net q ≡ Mark·.Valid v
        → (v.excess ≡ 0 → NoneCheaper net q) × (NoneCheaper net q → v.excess ≡ 0)
    unfolding mark_under
    excess_exactly = excess_exactly_by (Operable net) (operable? net) (operable?_in net formed) (operable?_out net formed) (cost_of net) (cheapest_cost net) cheapest_least

    pub promised_marked : (q : List Step) (cost : ℕ) → Promised net q cost → mark_of net q ≡ Mark·.Valid (record { cost = cost; excess = 0 })
    unfolding mark_under
    promised_marked = promised_marked_by (Operable net) (operable? net) (operable?_in net formed) (operable?_out net formed) (cost_of net) (cheapest_cost net) cheapest_least
