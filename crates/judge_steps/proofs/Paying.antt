-- The turns of the judge's pass over a plan: which guards are marked as paid for, and the cost of the steps so far.
-- Assumes nothing.
use mathlib.Core.Path.{◌≡◌, refl, sym, ap, ◌∙◌}
use mathlib.Core.Bool.{Bool, true, false, not, ◌&&◌, ◌||◌, or-false, false≢true}
use mathlib.Core.List.{List, [], ◌∷◌, ◌++◌}
use Prim.Native.Nat.{ℕ, zero, suc, ◌+◌, ◌*◌, ◌≤◌, ◌<◌}
use native.Mathlib.Omega.{arith}
use lib.Dec.{eqb, ltb}
use lib.ListN.{length, set, get_or, replicate, length-set, length-append, length-replicate, get_or-replicate}
use lib.Seq.{get_or-set_same, get_or-set_other}
use borrow.Author.Tests.{eqb-true, eqb-false, ne_eqb, lt-ltb, le-ltb}
use Rattle.network.specs.declared.Network.{Network}
use Rattle.network.specs.Accepted.{WellFormed}
use Rattle.file_plan.specs.declared.plan.Plan.{Plan}
use Rattle.file_plan.specs.Accepted.{WellFormedPlan}
use Rattle.plan_form.specs.Printing.{steps_to, steps_of}
use Rattle.feeding.specs.Below.{gate}
use Rattle.feeding.specs.Networks.{Net, net_of, grid_of, at}
use Rattle.feeding.specs.Plans.{Step}
use Rattle.feeding.specs.Costs.{steps_cost, operated, guards?, cost_of}
use Rattle.feeding.proofs.Guards.{operated_none, guards_free}
use Rattle.feeding.proofs.Prices.{cost_most, unguarded_list}
use Rattle.feeding.proofs.Behind.{operated_behind, guards_behind, cost_behind}

-- the first i steps
pub record Paid (n : Network) (p : Plan) (paid : List ℕ) (sum i : ℕ) : Type 0 where
  pub at_most : i ≤ p.steps
  pub long : length paid ≡ 96
  pub marked : (g : ℕ) → g < n.links → at paid g ≡ gate (guards? (net_of n) (operated (steps_to p i)) g) 1
  pub sum_is : sum ≡ cost_of (net_of n) (steps_to p i)

steps_none : (p : Plan) → steps_to p 0 ≡ []
unfolding steps_to
steps_none p = refl

abbrev step_at : Plan → ℕ → Step
step_at p i = record { link = at p.link i; want = get_or p.close i false }

steps_more : (p : Plan) (i j : ℕ) → j ≡ i + 1 → steps_to p j ≡ steps_to p i ++ (step_at p i ∷ [])
unfolding steps_to
steps_more p i j e = let d : j ≡ suc i = omega arith in ap (steps_to p) d

steps_long : (p : Plan) (i : ℕ) → length (steps_to p i) ≡ i
unfolding steps_to
steps_long p zero = refl
steps_long p (suc i) = omega (arith, length-append (steps_to p i) (step_at p i ∷ []), steps_long p i)

cost_none : (net : Net) → steps_cost net [] ≡ 0
unfolding steps_cost
cost_none net = refl

module _ (n : Network) (well : WellFormed n) (p : Plan) (plan : WellFormedPlan n.links p) where
  -- what the steps operate are links
  steps_inside : (i : ℕ) → i ≤ p.steps → (l : ℕ) → operated (steps_to p i) l ≡ true → l < n.links
  steps_inside zero h l o = absurd (false≢true (sym (ap (λ q. operated q l) (steps_none p) ∙ operated_none l) ∙ o))
  steps_inside (suc i) h l o =
      go (steps_inside i (omega arith) l) (operated (steps_to p i) l) refl
      (sym (ap (λ q. operated q l) (steps_more p i (suc i) (omega arith)) ∙ operated_behind (steps_to p i) (step_at p i) l) ∙ o)
    where
      go : (operated (steps_to p i) l ≡ true → l < n.links) → (t : Bool) → operated (steps_to p i) l ≡ t → (t || eqb (at p.link i) l) ≡ true → l < n.links
      go ih true t e = ih t
      go ih false t e = omega (arith, eqb-true (at p.link i) l e, plan.link_in i (omega arith))

  pub paid_small : (paid : List ℕ) (sum i : ℕ) → Paid n p paid sum i → sum ≤ 29294145
  unfolding net_of grid_of
  paid_small paid sum i j =
      rw j.sum_is
      (cost_most (net_of n) well.links_fit well.cost_in_lem (steps_to p i) (omega (arith, steps_long p i, j.at_most, plan.steps_fit))
      (steps_inside i j.at_most))

  pub paid_first : Paid n p (replicate 96 0) 0 0
  unfolding net_of grid_of
  paid_first = record {
    at_most = omega arith;
    long = length-replicate {A = ℕ} 96 0;
    marked = λ g k. get_or-replicate {A = ℕ} 96 g 0 0 (omega (arith, well.links_fit)) ∙ sym (ap (λ b. gate b 1) (none g));
    sum_is = sym (unguarded_list (net_of n) (steps_to p 0) (λ l _ o _. idle l o) ∙ ap (steps_cost (net_of n)) (steps_none p) ∙ cost_none (net_of n));
  }
    where
      idle : (l : ℕ) → operated (steps_to p 0) l ≡ true → ⊥
      idle l o = false≢true (sym (ap (λ q. operated q l) (steps_none p) ∙ operated_none l) ∙ o)

      none : (g : ℕ) → guards? (net_of n) (operated (steps_to p 0)) g ≡ false
      none g = guards_free (net_of n) (operated (steps_to p 0)) g (λ l _ o _. idle l o)

  -- one step more
  module _ (paid : List ℕ) (sum i : ℕ) (old : Paid n p paid sum i) (k : i < p.steps) (j : ℕ) (next : j ≡ i + 1) where
    abbrev link : ℕ
    link = at p.link i

    -- the guard was paid for before
    seen : ℕ → Bool
    seen g = guards? (net_of n) (operated (steps_to p i)) g

    turn : (paid' : List ℕ) (sum' : ℕ) → length paid' ≡ 96 → ((h : ℕ) → h < n.links → at paid' h ≡ gate (seen h || eqb (at n.guard link) h) 1)
        → sum' ≡ sum + at n.cost link + gate (ltb (at n.guard link) n.links && not (seen (at n.guard link))) (2 * at n.cost (at n.guard link))
        → Paid n p paid' sum' j
    unfolding net_of grid_of seen
    turn paid' sum' long marks more = record {
      at_most = omega arith;
      long = long;
      marked = λ h b. marks h b
          ∙ ap (λ t. gate t 1)
          (sym (ap (λ q. guards? (net_of n) (operated q) h) (steps_more p i j next)
          ∙ guards_behind (net_of n) (steps_to p i) (step_at p i) (plan.link_in i k) h));
      sum_is = more
          ∙ ap (λ x. x + at n.cost link + gate (ltb (at n.guard link) n.links && not (seen (at n.guard link))) (2 * at n.cost (at n.guard link))) old.sum_is
          ∙ sym (ap (cost_of (net_of n)) (steps_more p i j next)
          ∙ cost_behind (net_of n) (steps_to p i) (step_at p i) (plan.link_in i k));
    }

    -- the switch has no guard
    pub paid_free : n.links ≤ at n.guard link → (paid' : List ℕ) (sum' : ℕ) → paid' ≡ paid → sum' ≡ sum + at n.cost link → Paid n p paid' sum' j
    unfolding seen
    paid_free none paid' sum' same more =
        turn paid' sum' (ap length same ∙ old.long)
        (λ h b. ap (λ xs. at xs h) same ∙ old.marked h b
        ∙ ap (λ t. gate t 1) (sym (ap (λ u. seen h || u) (ne_eqb (at n.guard link) h (λ e. omega arith)) ∙ or-false (seen h))))
        (omega (arith, more, ap (λ t. gate (t && not (seen (at n.guard link))) (2 * at n.cost (at n.guard link))) (le-ltb (at n.guard link) n.links none)))

    -- the guard is marked as its list says
    mark_of : at n.guard link < n.links → (t : Bool) → seen (at n.guard link) ≡ t → at paid (at n.guard link) ≡ gate t 1
    unfolding seen
    mark_of b t e = old.marked (at n.guard link) b ∙ ap (λ u. gate u 1) e

    -- its guard is paid for
    pub paid_again : at n.guard link < n.links → (at paid (at n.guard link) ≡ 0 → ⊥) → (paid' : List ℕ) (sum' : ℕ) → paid' ≡ paid → sum' ≡ sum + at n.cost link
        → Paid n p paid' sum' j
    unfolding seen
    paid_again b on paid' sum' same more = go (seen (at n.guard link)) refl
      where
        go : (t : Bool) → seen (at n.guard link) ≡ t → Paid n p paid' sum' j
        go false t = absurd (on (mark_of b false t))
        go true t =
            turn paid' sum' (ap length same ∙ old.long)
            (λ h c. ap (λ xs. at xs h) same ∙ old.marked h c ∙ ap (λ u. gate u 1) (sym (covered h (eqb (at n.guard link) h) refl)))
            (omega (arith, more, ap (λ u. gate (u && not (seen (at n.guard link))) (2 * at n.cost (at n.guard link))) (lt-ltb (at n.guard link) n.links b), ap (λ u. gate (not u) (2 * at n.cost (at n.guard link))) t))
          where
            covered : (h : ℕ) (u : Bool) → eqb (at n.guard link) h ≡ u → (seen h || u) ≡ seen h
            covered h false u = or-false (seen h)
            covered h true u =
                let e : seen h ≡ true = ap seen (sym (eqb-true (at n.guard link) h u)) ∙ t in
                ap (λ x. x || true) e ∙ sym e

    -- its guard is paid for now
    pub paid_new : at n.guard link < n.links → at paid (at n.guard link) ≡ 0 → (paid' : List ℕ) (sum' : ℕ) → paid' ≡ set paid (at n.guard link) 1
        → sum' ≡ sum + at n.cost link + 2 * at n.cost (at n.guard link) → Paid n p paid' sum' j
    unfolding seen
    paid_new b off paid' sum' is more = go (seen (at n.guard link)) refl
      where
        go : (t : Bool) → seen (at n.guard link) ≡ t → Paid n p paid' sum' j
        go true t = absurd (omega (arith, off, mark_of b true t))
        go false t =
            turn paid' sum' (ap length is ∙ length-set paid (at n.guard link) 1 ∙ old.long)
            (λ h c. ap (λ xs. at xs h) is ∙ entry h c (eqb (at n.guard link) h) refl)
            (omega (arith, more, ap (λ u. gate (u && not (seen (at n.guard link))) (2 * at n.cost (at n.guard link))) (lt-ltb (at n.guard link) n.links b), ap (λ u. gate (not u) (2 * at n.cost (at n.guard link))) t))
          where
            entry : (h : ℕ) → h < n.links → (u : Bool) → eqb (at n.guard link) h ≡ u → at (set paid (at n.guard link) 1) h ≡ gate (seen h || u) 1
            entry h c true u =
                let e : h ≡ at n.guard link = sym (eqb-true (at n.guard link) h u) in
                ap (at (set paid (at n.guard link) 1)) e
                ∙ get_or-set_same paid (at n.guard link) 1 0 (omega (arith, old.long, well.links_fit))
                ∙ sym (ap (λ x. gate (x || true) 1) (ap seen e ∙ t))
            entry h c false u =
                get_or-set_other paid (at n.guard link) h 1 0 (λ e. eqb-false (at n.guard link) h u (sym e))
                ∙ old.marked h c
                ∙ ap (λ x. gate x 1) (sym (or-false (seen h)))

  pub paid_last : (paid : List ℕ) (sum i : ℕ) → Paid n p paid sum i → p.steps ≤ i → sum ≡ cost_of (net_of n) (steps_of p)
  unfolding steps_of
  paid_last paid sum i j h =
      let e : i ≡ p.steps = omega (arith, j.at_most) in
      j.sum_is ∙ ap (λ k. cost_of (net_of n) (steps_to p k)) e
