-- One switch more in a set, and one step more behind a list: its guard is paid for where it is a link and was not paid for before.
-- Assumes nothing.
use Prim.Native.Nat.{ℕ, ◌+◌, ◌*◌, ◌<◌}
use mathlib.Core.Path.{◌≡◌, refl, sym, ap, ◌∙◌}
use mathlib.Core.Bool.{Bool, true, false, not, ◌&&◌, ◌||◌}
use mathlib.Core.List.{List, [], ◌∷◌, ◌++◌}
use lib.Dec.{eqb, ltb}
use borrow.Author.Tests.{eqb-true, eq-eqb, ltb-true, lt-ltb, le-ltb}
use native.Mathlib.Omega.{arith}
use Rattle.feeding.specs.Below.{gate, sum_to}
use Rattle.feeding.specs.Networks.{Net}
use Rattle.feeding.specs.Plans.{Step, operations}
use Rattle.feeding.proofs.Below.{eqb_comm, same_test, or_left, or_right}
use Rattle.feeding.proofs.Sums.{sum_to_ext, sum_to_add, sum_to_at}
use Rattle.feeding.specs.Costs.{HasGuard, PaidFor, operated, guards?, guard_cost, cost_of, steps_cost}
use Rattle.feeding.proofs.Guards.{guards_in, guards_out, paid_in, paid_out}

-- ---- two tests

pub gate_both : (a b : Bool) (x : ℕ) → gate a (gate b x) ≡ gate (a && b) x
gate_both true b x = refl
gate_both false b x = refl

pub gate_new : (a u : Bool) (x : ℕ) → gate a x + gate u (gate (not a) x) ≡ gate (a || u) x
gate_new true true x = omega arith
gate_new true false x = omega arith
gate_new false true x = omega arith
gate_new false false x = omega arith

-- ---- one switch more

module _ (net : Net) (D D' : ℕ → Bool) (l : ℕ) (inside : l < net.grid.K)
    (more : (m : ℕ) → m < net.grid.K → D' m ≡ (D m || eqb l m)) where
  pub guards_more : (g : ℕ) → guards? net D' g ≡ (guards? net D g || eqb (net.guard l) g)
  guards_more g = same_test (guards? net D' g) (guards? net D g || eqb (net.guard l) g) there (back (guards? net D g) refl)
    where
      split : (m : ℕ) (d : Bool) → D m ≡ d → m < net.grid.K → (d || eqb l m) ≡ true → net.guard m ≡ g → (guards? net D g || eqb (net.guard l) g) ≡ true
      split m true d k h e = or_left (guards? net D g) (eqb (net.guard l) g) (guards_in net D m g k d e)
      split m false d k h e =
          or_right (guards? net D g) (eqb (net.guard l) g) (eq-eqb (net.guard l) g (ap net.guard (eqb-true l m h) ∙ e))

      there : guards? net D' g ≡ true → (guards? net D g || eqb (net.guard l) g) ≡ true
      there h =
          let r = guards_out net D' g h in
          split r.0 (D r.0) refl r.1 (sym (more r.0 r.1) ∙ r.2.0) r.2.1

      back : (t : Bool) → guards? net D g ≡ t → (t || eqb (net.guard l) g) ≡ true → guards? net D' g ≡ true
      back true t h =
          let r = guards_out net D g t in
          guards_in net D' r.0 g r.1 (more r.0 r.1 ∙ or_left (D r.0) (eqb l r.0) r.2.0) r.2.1
      back false t h =
          guards_in net D' l g inside (more l inside ∙ or_right (D l) (eqb l l) (eq-eqb l l refl)) (eqb-true (net.guard l) g h)

  pub guard_cost_more : guard_cost net D'
      ≡ guard_cost net D + gate (ltb (net.guard l) net.grid.K && not (guards? net D (net.guard l))) (2 * net.cost (net.guard l))
  unfolding guard_cost
  guard_cost_more =
      sum_to_ext net.grid.K _ (λ g. old g + new g) (λ g _. point g)
      ∙ sum_to_add net.grid.K old new
      ∙ ap (λ x. sum_to net.grid.K old + x)
      (sum_to_at (λ g. gate (not (guards? net D g)) (2 * net.cost g)) (net.guard l) net.grid.K
      ∙ gate_both (ltb (net.guard l) net.grid.K) (not (guards? net D (net.guard l))) (2 * net.cost (net.guard l)))
    where
      old : ℕ → ℕ
      old g = gate (guards? net D g) (2 * net.cost g)

      new : ℕ → ℕ
      new g = gate (eqb g (net.guard l)) (gate (not (guards? net D g)) (2 * net.cost g))

      point : (g : ℕ) → gate (guards? net D' g) (2 * net.cost g) ≡ old g + new g
      point g =
          ap (λ b. gate b (2 * net.cost g)) (guards_more g ∙ ap (λ u. guards? net D g || u) (eqb_comm (net.guard l) g))
          ∙ sym (gate_new (guards? net D g) (eqb g (net.guard l)) (2 * net.cost g))

-- ---- one step more

operations_behind : (l : ℕ) (q : List Step) (s : Step) → operations l (q ++ (s ∷ [])) ≡ operations l q + gate (eqb s.link l) 1
unfolding operations
operations_behind l [] s = omega arith
operations_behind l (x ∷ q) s = omega (arith, operations_behind l q s)

pub operated_behind : (q : List Step) (s : Step) (l : ℕ) → operated (q ++ (s ∷ [])) l ≡ (operated q l || eqb s.link l)
unfolding operated
operated_behind q s l = ap (ltb 0) (operations_behind l q s) ∙ go (ltb 0 (operations l q)) refl (eqb s.link l)
  where
    go : (t : Bool) → ltb 0 (operations l q) ≡ t → (u : Bool) → ltb 0 (operations l q + gate u 1) ≡ (t || u)
    go true t u = lt-ltb 0 (operations l q + gate u 1) (omega (arith, ltb-true 0 (operations l q) t))
    go false t true = lt-ltb 0 (operations l q + 1) (omega arith)
    go false t false = let e : operations l q + 0 ≡ operations l q = omega arith in ap (ltb 0) e ∙ t

steps_cost_behind : (net : Net) (q : List Step) (s : Step) → steps_cost net (q ++ (s ∷ [])) ≡ steps_cost net q + net.cost s.link
unfolding steps_cost
steps_cost_behind net [] s = omega arith
steps_cost_behind net (x ∷ q) s = omega (arith, steps_cost_behind net q s)

module _ (net : Net) (q : List Step) (s : Step) (inside : s.link < net.grid.K) where
  pub guards_behind : (g : ℕ) → guards? net (operated (q ++ (s ∷ []))) g ≡ (guards? net (operated q) g || eqb (net.guard s.link) g)
  guards_behind = guards_more net (operated q) (operated (q ++ (s ∷ []))) s.link inside (λ m _. operated_behind q s m)

  -- a step costs its switch's own cost, and twice its guard's where that is a link and not paid for yet
  pub cost_behind : cost_of net (q ++ (s ∷ []))
      ≡ cost_of net q + net.cost s.link
      + gate (ltb (net.guard s.link) net.grid.K && not (guards? net (operated q) (net.guard s.link))) (2 * net.cost (net.guard s.link))
  unfolding cost_of
  cost_behind =
      omega (
        arith,
        steps_cost_behind net q s,
        guard_cost_more net (operated q) (operated (q ++ (s ∷ []))) s.link inside (λ m _. operated_behind q s m),
      )

  -- its guard is paid for: the switch's own cost alone
  pub cost_paid : PaidFor net q (net.guard s.link) → cost_of net (q ++ (s ∷ [])) ≡ cost_of net q + net.cost s.link
  cost_paid p =
      cost_behind
      ∙ rw (lt-ltb (net.guard s.link) net.grid.K p.link, paid_out net q (net.guard s.link) p)
      (omega arith)

  -- it has a guard that is not: twice the guard's cost too
  pub cost_new : HasGuard net s.link → ¬ PaidFor net q (net.guard s.link)
      → cost_of net (q ++ (s ∷ [])) ≡ cost_of net q + net.cost s.link + 2 * net.cost (net.guard s.link)
  cost_new has unpaid =
      cost_behind ∙ rw (lt-ltb (net.guard s.link) net.grid.K has, go (guards? net (operated q) _) refl)
    where
      go : (t : Bool) → guards? net (operated q) (net.guard s.link) ≡ t
          → guards? net (operated q) (net.guard s.link) ≡ false
      go true t = absurd (unpaid (paid_in net q (net.guard s.link) has t))
      go false t = t

  -- it has none
  pub cost_free : ¬ HasGuard net s.link → cost_of net (q ++ (s ∷ [])) ≡ cost_of net q + net.cost s.link
  cost_free free = cost_behind ∙ rw (le-ltb (net.guard s.link) net.grid.K (omega (arith, free))) (omega arith)
