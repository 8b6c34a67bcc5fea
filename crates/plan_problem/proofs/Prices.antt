-- What a set costs: each switch adds its price, and its guard's charge where no switch before it has the same guard; no set comes near the cost that stands
-- for none.
-- Assumes nothing.
use Prim.Native.Nat.{ℕ, zero, suc, ◌+◌, ◌*◌, ◌/◌, ◌%◌, ◌≤◌, ◌<◌}
use mathlib.Core.Path.{◌≡◌, refl, sym, ap, ◌∙◌}
use mathlib.Core.Bool.{Bool, true, false, not, ◌&&◌, ◌||◌, cond, false≢true}
use lib.Bits.{bit_and}
use lib.Dec.{eqb, ltb}
use lib.ListN.{length}
use borrow.Author.Tests.{eqb-true, eqb-false, eq-eqb, ne_eqb, lt-ltb}
use native.Mathlib.Omega.{arith}
use Rattle.feeding.specs.Below.{gate, any_to, sum_to}
use Rattle.feeding.specs.Networks.{Net, at}
use Rattle.feeding.specs.Plans.{put}
use Rattle.feeding.specs.Costs.{guards?, switches_cost, set_cost}
use Rattle.feeding.specs.Restoration.{operables_by}
use Rattle.feeding.proofs.Below.{eqb_comm, same_test, and_left, and_right, and_both, any_to_in, any_to_out}
use Rattle.feeding.proofs.Behind.{guard_cost_more}
use Rattle.feeding.proofs.Guards.{guards_in, guards_out, guard_cost_ext, guard_cost_none}
use Rattle.feeding.proofs.Prices.{set_cost_most}
use Rattle.feeding.proofs.Lows.{those_out, those_rising}
use Rattle.feeding.proofs.Sums.{sum_to_ext, sum_to_add, sum_to_none, sum_to_at}
use Rattle.plan_problem.specs.Sets.{set_of, price_of, mask_of, charge_by, charge_of, fellows_of, adds_by, set_in}
use Rattle.plan_problem.proofs.Masks.{picked, picked_last, picked_before, mask_meets}
use Rattle.plan_problem.proofs.Rising.{at_member, at_rising}

set_none : (net : Net) → set_cost net (λ _. false) ≡ 0
unfolding set_cost switches_cost
set_none net = omega (arith, sum_to_none net.grid.K, guard_cost_none net (λ _. false) (λ l _ h. absurd (false≢true h)))

-- one switch more
put_cost : (net : Net) (D : ℕ → Bool) (l : ℕ) (t : Bool) → D l ≡ false → l < net.grid.K
    → switches_cost net (put D l t) ≡ switches_cost net D + gate t (net.cost l)
unfolding switches_cost put
put_cost net D l t h k =
    sum_to_ext net.grid.K _ (λ m. old m + new m) (λ m _. point m (eqb m l) refl)
    ∙ sum_to_add net.grid.K old new
    ∙ ap (λ x. sum_to net.grid.K old + x) (sum_to_at (λ m. gate t (net.cost m)) l net.grid.K ∙ rw (lt-ltb l net.grid.K k))
  where
    old : ℕ → ℕ
    old m = gate (D m) (net.cost m)

    new : ℕ → ℕ
    new m = gate (eqb m l) (gate t (net.cost m))

    point : (m : ℕ) (u : Bool) → eqb m l ≡ u → gate (put D l t m) (net.cost m) ≡ old m + new m
    point m true u = rw (u, eqb-true m l u, h) (omega arith)
    point m false u = rw u (omega arith)

-- a switch that is none of the first n is in none of their sets
set_free : (op : ℕ → ℕ) (n s l : ℕ) → ((j : ℕ) → j < n → l ≡ op j → ⊥) → set_of op n s l ≡ false
unfolding set_of put
set_free op zero s l h = refl
set_free op (suc n) s l h =
    rw (ne_eqb l (op n) (h n (omega arith))) (set_free op n (s / 2) l (λ j k. h j (omega arith)))

-- ---- the switches of a set, by link number and by place

module _ (op : ℕ → ℕ) where
  -- a switch of the set is one of the first n
  set_out : (n s l : ℕ) → set_of op n s l ≡ true → (i : ℕ) × (i < n) × (l ≡ op i)
  unfolding set_of put
  set_out zero s l h = absurd (false≢true h)
  set_out (suc n) s l h = go (set_out n (s / 2) l) (eqb l (op n)) refl
    where
      up : (i : ℕ) × (i < n) × (l ≡ op i) → (i : ℕ) × (i < suc n) × (l ≡ op i)
      up r = (r.0, omega (arith, r.1), r.2)

      go : (set_of op n (s / 2) l ≡ true → (i : ℕ) × (i < n) × (l ≡ op i)) → (t : Bool) → eqb l (op n) ≡ t → (i : ℕ) × (i < suc n) × (l ≡ op i)
      go ih true t = (n, omega arith, eqb-true l (op n) t)
      go ih false t = up (ih (rw t at h))

  -- and is there by its place
  set_at : (n s i : ℕ) → ((j k : ℕ) → j < k → k < n → op j < op k) → i < n → set_of op n s (op i) ≡ picked n s i
  unfolding set_of put
  set_at zero s i rising k = absurd (omega arith)
  set_at (suc n) s i rising k = go (λ b. set_at n (s / 2) i (λ j m a c. rising j m a (omega arith)) b) (eqb i n) refl
    where
      go : (i < n → set_of op n (s / 2) (op i) ≡ picked n (s / 2) i) → (t : Bool) → eqb i n ≡ t → set_of op (suc n) s (op i) ≡ picked (suc n) s i
      go ih true t =
          ap (λ j. set_of op (suc n) s (op j)) (eqb-true i n t)
          ∙ rw (eq-eqb (op n) (op n) refl) (sym (picked_last n s) ∙ ap (picked (suc n) s) (sym (eqb-true i n t)))
      go ih false t =
          let less : i < n = omega (arith, eqb-false i n t) in
          let apart : op i < op n = rising i n less (omega arith) in
          rw (ne_eqb (op i) (op n) (λ e. omega arith)) (ih less ∙ sym (picked_before n s i (eqb-false i n t)))

-- the guards of a set, by the places of its switches
module _ (net : Net) (op : ℕ → ℕ) (n : ℕ) (rising : (j k : ℕ) → j < k → k < n → op j < op k)
    (inside : (j : ℕ) → j < n → op j < net.grid.K) where
  guards_set : (s g : ℕ) → guards? net (set_of op n s) g ≡ any_to n (λ i. picked n s i && eqb (net.guard (op i)) g)
  guards_set s g = same_test (guards? net (set_of op n s) g) (any_to n (λ i. picked n s i && eqb (net.guard (op i)) g)) there back
    where
      there : guards? net (set_of op n s) g ≡ true → any_to n (λ i. picked n s i && eqb (net.guard (op i)) g) ≡ true
      there h =
          let r = guards_out net (set_of op n s) g h in
          let i = set_out op n s r.0 r.2.0 in
          any_to_in n _ i.0 i.1
          (and_both (picked n s i.0) _ (sym (set_at op n s i.0 rising i.1) ∙ ap (set_of op n s) (sym i.2) ∙ r.2.0)
          (eq-eqb (net.guard (op i.0)) g (ap net.guard (sym i.2) ∙ r.2.1)))

      back : any_to n (λ i. picked n s i && eqb (net.guard (op i)) g) ≡ true → guards? net (set_of op n s) g ≡ true
      back h =
          let r = any_to_out n (λ i. picked n s i && eqb (net.guard (op i)) g) h in
          guards_in net (set_of op n s) (op r.0) g (inside r.0 r.1)
          (set_at op n s r.0 rising r.1 ∙ and_left (picked n s r.0) _ r.2)
          (eqb-true (net.guard (op r.0)) g (and_right (picked n s r.0) _ r.2))

-- one switch more: its guard is charged where it has one and none of its fellows is chosen
module _ (net : Net) (op : ℕ → ℕ) (n : ℕ) (rising : (i j : ℕ) → i < j → j < suc n → op i < op j)
    (inside : (j : ℕ) → j < suc n → op j < net.grid.K) (t : ℕ) where
  abbrev D : ℕ → Bool
  D = set_of op n t

  abbrev l : ℕ
  l = op n

  new : D l ≡ false
  new = set_free op n t (op n) (λ j k e. let r : op j < op n = rising j n k (omega arith) in omega arith)

  charged : charge_by (charge_of net.guard net.cost net.grid.K l) (fellows_of (λ j. net.guard (op j)) net.grid.K n) t
      ≡ gate (ltb (net.guard l) net.grid.K && not (guards? net D (net.guard l))) (2 * net.cost (net.guard l))
  unfolding charge_by charge_of fellows_of
  charged = go (ltb (net.guard (op n)) net.grid.K)
    where
      fellow : ℕ → Bool
      fellow j = eqb (net.guard (op j)) (net.guard (op n))

      double : ℕ
      double = 2 * net.cost (net.guard (op n))

      met : not (eqb (bit_and t (mask_of fellow n)) 0) ≡ guards? net (set_of op n t) (net.guard (op n))
      met = mask_meets fellow n t ∙ sym (guards_set net op n (λ i j h k. rising i j h (omega arith)) (λ j k. inside j (omega arith)) t (net.guard (op n)))

      turned : (b c : Bool) → not b ≡ c → gate b double ≡ gate (not c) double
      turned true c e = ap (λ x. gate (not x) double) e
      turned false c e = ap (λ x. gate (not x) double) e

      nothing : (b : Bool) → gate b 0 ≡ 0
      nothing true = refl
      nothing false = refl

      go : (u : Bool) → gate (eqb (bit_and t (gate u (mask_of fellow n))) 0) (gate u double) ≡ gate (u && not (guards? net (set_of op n t) (net.guard (op n)))) double
      go true = turned (eqb (bit_and t (mask_of fellow n)) 0) _ met
      go false = nothing (eqb (bit_and t 0) 0)

  put_more : (m : ℕ) → put D l true m ≡ (D m || eqb l m)
  unfolding put
  put_more m = go (D m) (eqb m l) (eqb_comm l m)
    where
      go : (d e : Bool) → eqb l m ≡ e → cond e true d ≡ (d || eqb l m)
      go true true e = refl
      go true false e = refl
      go false true e = sym e
      go false false e = sym e

  put_same : (m : ℕ) → put D l false m ≡ D m
  unfolding put
  put_same m = go (eqb m l) refl
    where
      go : (e : Bool) → eqb m l ≡ e → cond e false (D m) ≡ D m
      go true e = sym (ap D (eqb-true m l e) ∙ new)
      go false e = refl

  one_more : (b : Bool) → set_cost net (put D l b)
      ≡ set_cost net D + gate b (net.cost l + charge_by (charge_of net.guard net.cost net.grid.K l) (fellows_of (λ j. net.guard (op j)) net.grid.K n) t)
  unfolding set_cost
  one_more true =
      omega (
        arith,
        put_cost net D l true new (inside n (omega arith)),
        guard_cost_more net D (put D l true) l (inside n (omega arith)) (λ m _. put_more m),
        charged,
      )
  one_more false =
      omega (
        arith,
        put_cost net D l false new (inside n (omega arith)),
        guard_cost_ext net (put D l false) D (λ m _. put_same m),
      )

price_set : (net : Net) (op : ℕ → ℕ) (n : ℕ) → ((i j : ℕ) → i < j → j < n → op i < op j) → ((j : ℕ) → j < n → op j < net.grid.K) → (s : ℕ)
    → price_of (adds_by (λ i. net.cost (op i)) (λ i. charge_of net.guard net.cost net.grid.K (op i)) (fellows_of (λ j. net.guard (op j)) net.grid.K)) n s ≡ set_cost net (set_of op n s)
unfolding price_of set_of adds_by
price_set net op zero rising inside s = sym (set_none net)
price_set net op (suc n) rising inside s =
    ap (λ (x : ℕ). x + gate (eqb (s % 2) 1) (net.cost (op n) + charge_by (charge_of net.guard net.cost net.grid.K (op n)) (fellows_of (λ j. net.guard (op j)) net.grid.K n) (s / 2)))
    (price_set net op n (λ i j h k. rising i j h (omega arith)) (λ j k. inside j (omega arith)) (s / 2))
    ∙ sym (one_more net op n rising inside (s / 2) (eqb (s % 2) 1))

pub price_cost : (net : Net) (op : ℕ → Bool) (s : ℕ)
    → price_of (adds_by (λ i. net.cost (at (operables_by net op) i)) (λ i. charge_of net.guard net.cost net.grid.K (at (operables_by net op) i))
    (fellows_of (λ j. net.guard (at (operables_by net op) j)) net.grid.K)) (length (operables_by net op)) s
    ≡ set_cost net (set_in (operables_by net op) s)
unfolding operables_by set_in
price_cost net op s =
    price_set net (at (operables_by net op)) (length (operables_by net op)) (at_rising (operables_by net op) (those_rising net.grid.K op))
    (λ j k. (those_out net.grid.K op _ (at_member (operables_by net op) j k)).0) s

pub set_cost_below : (net : Net) → net.grid.K ≤ 96 → ((l : ℕ) → l < net.grid.K → net.cost l < 65536)
    → (D : ℕ → Bool) → set_cost net D < 18446744073709551615
set_cost_below net few small D = omega (arith, set_cost_most net few small D)
