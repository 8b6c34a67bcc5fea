-- The guards of a set, and what they cost: each of them once. The two layers of the definition agree, and more switches have no fewer guards.
-- Assumes nothing.
use Prim.Native.Nat.{ℕ, zero, suc, ◌+◌, ◌*◌, ◌≤◌, ◌<◌}
use mathlib.Core.Path.{◌≡◌, refl, sym, ap, ◌∙◌}
use mathlib.Core.Bool.{Bool, true, false, ◌&&◌}
use mathlib.Core.List.{List, [], ◌∷◌, ◌++◌}
use lib.Dec.{eqb, ltb}
use borrow.Author.Tests.{eqb-true, eq-eqb, ne_eqb, ltb-true, lt-ltb}
use native.Mathlib.Omega.{arith}
use Rattle.feeding.specs.Below.{gate, sum_to, those}
use Rattle.feeding.specs.Networks.{Net}
use Rattle.feeding.specs.Plans.{Step, operations}
use Rattle.feeding.proofs.Below.{same_test, and_left, and_right, and_both, gate_mono, gate_le, any_to_in, any_to_out}
use Rattle.feeding.proofs.Lows.{those_in, those_out, those_rising, rising_unique}
use Rattle.feeding.proofs.Sums.{sum_to_ext, sum_to_mono, sum_to_zero, sum_to_only, sum_to_below}
use Rattle.feeding.specs.Costs.{HasGuard, PaidFor, Charged, Costs, doubled, operated, guards?, guard_cost, cost_of, steps_cost}

-- ---- the switches that a list of steps operates

pub operated_in : (q : List Step) (l : ℕ) → 0 < operations l q → operated q l ≡ true
unfolding operated
operated_in q l h = lt-ltb 0 (operations l q) h

pub operated_out : (q : List Step) (l : ℕ) → operated q l ≡ true → 0 < operations l q
unfolding operated
operated_out q l h = ltb-true 0 (operations l q) h

pub operated_none : (l : ℕ) → operated [] l ≡ false
unfolding operated operations
operated_none l = refl

-- the first step's, and those of the others
pub operated_first : (s : Step) (q : List Step) → operated (s ∷ q) s.link ≡ true
unfolding operated operations
operated_first s q =
    let e : gate (eqb s.link s.link) 1 ≡ 1 = rw (eq-eqb s.link s.link refl) in
    lt-ltb 0 (gate (eqb s.link s.link) 1 + operations s.link q) (omega arith)

pub operated_rest : (s : Step) (q : List Step) (l : ℕ) → (s.link ≡ l → ⊥) → operated (s ∷ q) l ≡ operated q l
unfolding operated operations
operated_rest s q l h = let e : gate (eqb s.link l) 1 + operations l q ≡ operations l q = rw (ne_eqb s.link l h) (omega arith) in ap (ltb 0) e

pub operated_more : (s : Step) (q : List Step) (l : ℕ) → operated q l ≡ true → operated (s ∷ q) l ≡ true
unfolding operations
operated_more s q l h = operated_in (s ∷ q) l (omega (arith, operated_out q l h))

-- ---- the guards of a set

module _ (net : Net) where
  pub guards_in : (D : ℕ → Bool) (l g : ℕ) → l < net.grid.K → D l ≡ true → net.guard l ≡ g → guards? net D g ≡ true
  unfolding guards?
  guards_in D l g k d e = any_to_in net.grid.K _ l k (and_both (D l) _ d (eq-eqb (net.guard l) g e))

  pub guards_out : (D : ℕ → Bool) (g : ℕ) → guards? net D g ≡ true
      → (l : ℕ) × (l < net.grid.K) × ((D l ≡ true) × (net.guard l ≡ g))
  unfolding guards?
  guards_out D g h =
      let r = any_to_out net.grid.K (λ l. D l && eqb (net.guard l) g) h in
      (r.0, r.1, (and_left (D r.0) _ r.2, eqb-true (net.guard r.0) g (and_right (D r.0) _ r.2)))

  -- what guards no switch of the set is not paid for: a guard's own guard, where the guard is not operated
  pub guards_free : (D : ℕ → Bool) (g : ℕ) → ((l : ℕ) → l < net.grid.K → D l ≡ true → net.guard l ≡ g → ⊥) → guards? net D g ≡ false
  guards_free D g h = go (guards? net D g) refl
    where
      go : (t : Bool) → guards? net D g ≡ t → t ≡ false
      go true t = let r = guards_out D g t in absurd (h r.0 r.1 r.2.0 r.2.1)
      go false t = refl

  pub guards_mono : (D D' : ℕ → Bool) → ((l : ℕ) → l < net.grid.K → D l ≡ true → D' l ≡ true)
      → (g : ℕ) → guards? net D g ≡ true → guards? net D' g ≡ true
  guards_mono D D' h g e = let r = guards_out D g e in guards_in D' r.0 g r.1 (h r.0 r.1 r.2.0) r.2.1

  pub guards_ext : (D D' : ℕ → Bool) → ((l : ℕ) → l < net.grid.K → D l ≡ D' l) → (g : ℕ) → guards? net D g ≡ guards? net D' g
  guards_ext D D' h g =
      same_test (guards? net D g) (guards? net D' g) (guards_mono D D' (λ l k d. sym (h l k) ∙ d) g)
      (guards_mono D' D (λ l k d. h l k ∙ d) g)

  -- ---- what they cost

  pub guard_cost_mono : (D D' : ℕ → Bool) → ((l : ℕ) → l < net.grid.K → D l ≡ true → D' l ≡ true) → guard_cost net D ≤ guard_cost net D'
  unfolding guard_cost
  guard_cost_mono D D' h =
      sum_to_mono net.grid.K _ _
      (λ g _. gate_mono (guards? net D g) (guards? net D' g) (2 * net.cost g) (2 * net.cost g) (guards_mono D D' h g) (omega arith))

  pub guard_cost_ext : (D D' : ℕ → Bool) → ((l : ℕ) → l < net.grid.K → D l ≡ D' l) → guard_cost net D ≡ guard_cost net D'
  unfolding guard_cost
  guard_cost_ext D D' h = sum_to_ext net.grid.K _ _ (λ g _. ap (λ b. gate b (2 * net.cost g)) (guards_ext D D' h g))

  -- without guards nothing is paid
  pub guard_cost_none : (D : ℕ → Bool) → ((l : ℕ) → l < net.grid.K → D l ≡ true → ¬ HasGuard net l) → guard_cost net D ≡ 0
  unfolding guard_cost
  guard_cost_none D h = sum_to_zero net.grid.K _ (λ g k. go g k (guards? net D g) refl)
    where
      go : (g : ℕ) → g < net.grid.K → (t : Bool) → guards? net D g ≡ t → gate t (2 * net.cost g) ≡ 0
      go g k true t = let r = guards_out D g t in absurd (h r.0 r.1 r.2.0 (omega (arith, r.2.1)))
      go g k false t = refl

  -- one guard, one charge, however many of its switches the set has
  pub guard_cost_one : (D : ℕ → Bool) (l g : ℕ) → l < net.grid.K → D l ≡ true → net.guard l ≡ g → g < net.grid.K
      → ((m : ℕ) → m < net.grid.K → D m ≡ true → HasGuard net m → net.guard m ≡ g) → guard_cost net D ≡ 2 * net.cost g
  unfolding guard_cost
  guard_cost_one D l g k d e b same =
      sum_to_only net.grid.K _ g b (λ x kx other. go x kx other (guards? net D x) refl)
      ∙ ap (λ t. gate t (2 * net.cost g)) (guards_in D l g k d e)
    where
      go : (x : ℕ) → x < net.grid.K → (x ≡ g → ⊥) → (t : Bool) → guards? net D x ≡ t → gate t (2 * net.cost x) ≡ 0
      go x kx other true t =
          let r = guards_out D x t in
          absurd (other (sym r.2.1 ∙ same r.0 r.1 r.2.0 (omega (arith, r.2.1))))
      go x kx other false t = refl

  pub guard_cost_below : ((l : ℕ) → l < net.grid.K → net.cost l < 65536) → (D : ℕ → Bool) → guard_cost net D ≤ 131070 * net.grid.K
  unfolding guard_cost
  guard_cost_below small D =
      sum_to_below 131070 _ net.grid.K (λ g k. omega (arith, gate_le (guards? net D g) (2 * net.cost g), small g k))

  -- ---- each guard of an operated switch is paid for once, and no other

  pub paid_in : (q : List Step) (g : ℕ) → g < net.grid.K → guards? net (operated q) g ≡ true → PaidFor net q g
  paid_in q g k h =
      let r = guards_out (operated q) g h in
      record { switch = r.0; below = r.1; operated = operated_out q r.0 r.2.0; guards = r.2.1; link = k }

  pub paid_out : (q : List Step) (g : ℕ) → PaidFor net q g → guards? net (operated q) g ≡ true
  paid_out q g p = guards_in (operated q) p.switch g p.below (operated_in q p.switch p.operated) p.guards

  -- the guards that a list of steps pays for
  charges : List Step → List ℕ
  charges q = those net.grid.K (guards? net (operated q))

  charges_charged : (q : List Step) → Charged net q (charges q)
  unfolding charges
  charges_charged q = record {
    rising = those_rising net.grid.K _;
    only = λ g m. let r = those_out net.grid.K (guards? net (operated q)) g m in paid_in q g r.0 r.1;
    all = λ g p. those_in net.grid.K _ g p.link (paid_out q g p);
  }

  doubled_append : (xs ys : List ℕ) → doubled net (xs ++ ys) ≡ doubled net xs + doubled net ys
  unfolding doubled
  doubled_append [] ys = omega arith
  doubled_append (x ∷ xs) ys = omega (arith, doubled_append xs ys)

  doubled_those : (n : ℕ) (f : ℕ → Bool) → doubled net (those n f) ≡ sum_to n (λ g. gate (f g) (2 * net.cost g))
  unfolding doubled those sum_to
  doubled_those zero f = refl
  doubled_those (suc n) f = go (doubled_those n f) (f n)
    where
      go : doubled net (those n f) ≡ sum_to n (λ g. gate (f g) (2 * net.cost g))
          → (t : Bool) → doubled net (elim t [ true ↦ those n f ++ (n ∷ []) | false ↦ those n f ])
          ≡ sum_to n (λ g. gate (f g) (2 * net.cost g)) + gate t (2 * net.cost n)
      go ih true = omega (arith, ih, doubled_append (those n f) (n ∷ []))
      go ih false = omega (arith, ih)

  -- what computes is what the paper says, and nothing else is
  pub cost_is : (q : List Step) → Costs net q (cost_of net q)
  unfolding cost_of guard_cost charges
  cost_is q = record {
    guards = charges q;
    charged = charges_charged q;
    total = ap (λ x. steps_cost net q + x) (sym (doubled_those net.grid.K (guards? net (operated q))));
  }

  pub cost_only : (q : List Step) (cost : ℕ) → Costs net q cost → cost ≡ cost_of net q
  cost_only q cost h = h.total ∙ ap (λ gs. steps_cost net q + doubled net gs) same ∙ sym (cost_is q).total
    where
      same : h.guards ≡ (cost_is q).guards
      same =
          rising_unique h.guards (cost_is q).guards h.charged.rising (cost_is q).charged.rising
          (λ g m. (cost_is q).charged.all g (h.charged.only g m)) (λ g m. h.charged.all g ((cost_is q).charged.only g m))
