-- The cost with guards is a pricing: a list operates what it leaves changed, and the printed form operates just its set.
-- Assumes nothing.
use Prim.Native.Nat.{ℕ, ◌+◌, ◌*◌, ◌≤◌, ◌<◌}
use mathlib.Core.Path.{◌≡◌, refl, sym, ap, ap₂, ◌∙◌}
use mathlib.Core.Bool.{Bool, true, false, cond, ◌&&◌, true≢false}
use mathlib.Core.List.{List, [], ◌∷◌}
use lib.Dec.{eqb, ltb}
use lib.ListN.{length}
use borrow.Author.Tests.{eqb-true, eqb-false, ne_eqb, lt-ltb}
use native.Mathlib.Omega.{arith}
use Rattle.feeding.specs.Below.{gate}
use Rattle.feeding.specs.Networks.{Net}
use Rattle.feeding.specs.Parts.{Config}
use Rattle.feeding.specs.Plans.{Step, put, run, printed_form, differ, changed}
use Rattle.feeding.proofs.Printed.{changed_steps_cost, printed_once, printed_steps_cost}
use Rattle.feeding.proofs.Below.{gate_le}
use Rattle.feeding.proofs.Sums.{sum_to_below}
use Rattle.feeding.specs.Costs.{HasGuard, operated, cost_of, set_cost, steps_cost, switches_cost, Pricing}
use Rattle.feeding.proofs.Guards.{operated_first, operated_rest, operated_more, guard_cost_mono, guard_cost_ext, guard_cost_none, guard_cost_one, guard_cost_below}

-- ---- what a list of steps operates, and what it leaves changed

-- a switch that no step operates stays as it was
run_idle : (c : Config) (q : List Step) (l : ℕ) → operated q l ≡ false → run c q l ≡ c l
unfolding run put
run_idle c [] l h = refl
run_idle c (s ∷ q) l h = go (λ e. run_idle (put c s.link s.want) q l e) (eqb s.link l) refl
  where
    go : (operated q l ≡ false → run (put c s.link s.want) q l ≡ put c s.link s.want l) → (t : Bool) → eqb s.link l ≡ t
        → run (put c s.link s.want) q l ≡ c l
    go ih true t = absurd (true≢false (sym (operated_first s q) ∙ ap (operated (s ∷ q)) (eqb-true s.link l t) ∙ h))
    go ih false t =
        ih (sym (operated_rest s q l (eqb-false s.link l t)) ∙ h)
        ∙ ap (λ b. cond b s.want (c l)) (ne_eqb l s.link (λ e. eqb-false s.link l t (sym e)))

pub changed_operated : (net : Net) (q : List Step) (l : ℕ) → changed net q l ≡ true → operated q l ≡ true
unfolding changed
changed_operated net q l h = go (operated q l) refl
  where
    same : (b : Bool) → differ b b ≡ false
    same true = refl
    same false = refl

    go : (t : Bool) → operated q l ≡ t → t ≡ true
    go true t = refl
    go false t =
        sym (same (net.start_closed l)) ∙ ap (differ (net.start_closed l)) (sym (run_idle net.start_closed q l t)) ∙ h

-- the printed form operates its set
pub printed_operated : (net : Net) (D : ℕ → Bool) (l : ℕ) → l < net.grid.K → operated (printed_form net D) l ≡ D l
unfolding operated
printed_operated net D l k = ap (ltb 0) (printed_once net D l ∙ ap (λ t. gate (D l && t) 1) (lt-ltb l net.grid.K k)) ∙ go (D l)
  where
    go : (t : Bool) → ltb 0 (gate (t && true) 1) ≡ t
    go true = refl
    go false = refl

-- ---- the pricing

module _ (net : Net) where
  -- a set costs at most any list that leaves it changed
  pub cost_at_most : (q : List Step) → set_cost net (changed net q) ≤ cost_of net q
  unfolding set_cost cost_of
  cost_at_most q =
      omega (arith, changed_steps_cost net q, guard_cost_mono net (changed net q) (operated q) (λ l _ h. changed_operated net q l h))

  -- the printed form costs what its set costs
  pub cost_printed : (D : ℕ → Bool) → ((l : ℕ) → D l ≡ true → l < net.grid.K) → cost_of net (printed_form net D) ≡ set_cost net D
  unfolding set_cost cost_of
  cost_printed D inside =
      ap₂ ◌+◌ (printed_steps_cost net D inside) (guard_cost_ext net (operated (printed_form net D)) D (printed_operated net D))

pub pricing : (net : Net) → Pricing net (cost_of net) (set_cost net)
pricing net = record { at_most = cost_at_most net; printed = cost_printed net }

-- ---- without guards, and with one

module _ (net : Net) where
  -- a list that operates no guarded switch costs the sum of its steps' costs, and so does a set
  pub unguarded_list : (q : List Step) → ((l : ℕ) → l < net.grid.K → operated q l ≡ true → ¬ HasGuard net l) → cost_of net q ≡ steps_cost net q
  unfolding cost_of
  unguarded_list q h = omega (arith, guard_cost_none net (operated q) h)

  pub unguarded_set : (D : ℕ → Bool) → ((l : ℕ) → l < net.grid.K → D l ≡ true → ¬ HasGuard net l) → set_cost net D ≡ switches_cost net D
  unfolding set_cost
  unguarded_set D h = omega (arith, guard_cost_none net D h)

  -- one guard, one charge: twice its own cost beside the steps' costs, however many of its switches the steps operate, and how often
  pub one_charge : (q : List Step) (l g : ℕ) → l < net.grid.K → operated q l ≡ true → net.guard l ≡ g → g < net.grid.K
      → ((m : ℕ) → m < net.grid.K → operated q m ≡ true → HasGuard net m → net.guard m ≡ g)
      → cost_of net q ≡ steps_cost net q + 2 * net.cost g
  unfolding cost_of
  one_charge q l g k d e b same = ap (λ x. steps_cost net q + x) (guard_cost_one net (operated q) l g k d e b same)

  -- no step costs less than nothing: one step more is no cheaper
  pub step_dearer : (s : Step) (q : List Step) → cost_of net q ≤ cost_of net (s ∷ q)
  unfolding cost_of steps_cost
  step_dearer s q = omega (arith, guard_cost_mono net (operated q) (operated (s ∷ q)) (λ l _ h. operated_more s q l h))

  -- ---- sizes

  module _ (few : net.grid.K ≤ 96) (small : (l : ℕ) → l < net.grid.K → net.cost l < 65536) where
    set_below : (D : ℕ → Bool) → switches_cost net D ≤ 65535 * net.grid.K
    unfolding switches_cost
    set_below D = sum_to_below 65535 _ net.grid.K (λ l k. omega (arith, gate_le (D l) (net.cost l), small l k))

    -- a set's cost fits 64 bits, and is below the number that says that there is no set
    pub set_cost_most : (D : ℕ → Bool) → set_cost net D ≤ 18874080
    unfolding set_cost
    set_cost_most D = omega (arith, set_below D, guard_cost_below net small D)

    cost_below : (q : List Step) → ((l : ℕ) → operated q l ≡ true → l < net.grid.K) → steps_cost net q ≤ 65535 * length q
    unfolding steps_cost
    cost_below [] inside = omega arith
    cost_below (s ∷ q) inside =
        omega (
          arith,
          small s.link (inside s.link (operated_first s q)),
          cost_below q (λ l h. inside l (operated_more s q l h)),
        )

    -- and so does the cost of a plan file's steps, of which there are at most 255
    pub cost_most : (q : List Step) → length q ≤ 255 → ((l : ℕ) → operated q l ≡ true → l < net.grid.K) → cost_of net q ≤ 29294145
    unfolding cost_of
    cost_most q h inside = omega (arith, cost_below q inside, guard_cost_below net small (operated q))
