-- A plan's steps from the front: n steps behind the first i are the first i + n, by induction on n.
-- Assumes nothing.
use mathlib.Core.Path.{◌≡◌, sym, ap, ◌∙◌}
use mathlib.Core.Bool.{false}
use mathlib.Core.List.{List, [], ◌∷◌, ◌++◌, append-nil, append_assoc}
use Prim.Native.Nat.{ℕ, zero, suc, ◌+◌, ◌-◌, ◌≤◌, ◌<◌}
use native.Mathlib.Numerals.{add-one}
use native.Mathlib.Omega.{arith}
use lib.ListN.{get_or}
use Rattle.network.specs.declared.Network.{Network}
use Rattle.network.specs.Accepted.{WellFormed}
use Rattle.file_plan.specs.declared.plan.Plan.{Plan}
use Rattle.file_plan.specs.Accepted.{WellFormedPlan}
use Rattle.feeding.specs.Networks.{at}
use Rattle.feeding.specs.Plans.{Step}
use Rattle.plan_form.specs.Printing.{steps_to, steps_of}
use Rattle.plan_form.proofs.Steps.{LinksBelow}

-- step i, counted from 0
abbrev pub step_at : Plan → ℕ → Step
step_at p i = record { link = at p.link i; want = get_or p.close i false }

-- n steps from step i on
unfoldable pub steps_from : Plan → ℕ → ℕ → List Step
steps_from p i zero = []
steps_from p i (suc n) = step_at p i ∷ steps_from p (suc i) n

-- those that are left before step i
abbrev pub steps_left : Plan → ℕ → List Step
steps_left p i = steps_from p i (p.steps - i)

behind : (p : Plan) (i n : ℕ) → steps_to p i ++ steps_from p i n ≡ steps_to p (i + n)
unfolding steps_to steps_from
behind p i zero = let e : i ≡ i + 0 = omega arith in append-nil (steps_to p i) ∙ ap (steps_to p) e
behind p i (suc n) =
    let e : suc i + n ≡ i + suc n = omega arith in
    sym (append_assoc (steps_to p i) (step_at p i ∷ []) (steps_from p (suc i) n)) ∙ behind p (suc i) n ∙ ap (steps_to p) e

pub all_left : (p : Plan) → steps_left p 0 ≡ steps_of p
unfolding steps_of steps_to
all_left p =
    let e : 0 + (p.steps - 0) ≡ p.steps = omega arith in
    behind p 0 (p.steps - 0) ∙ ap (steps_to p) e

pub one_taken : (p : Plan) (i : ℕ) → i < p.steps → steps_left p i ≡ step_at p i ∷ steps_left p (i + 1)
unfolding steps_from
one_taken p i k =
    let e : p.steps - i ≡ suc (p.steps - (i + 1)) = omega arith in
    ap (steps_from p i) e ∙ ap (λ (j : ℕ). step_at p i ∷ steps_from p j (p.steps - (i + 1))) (sym (add-one i))

pub none_left : (p : Plan) (i : ℕ) → p.steps ≤ i → steps_left p i ≡ []
unfolding steps_from
none_left p i k = let e : p.steps - i ≡ 0 = omega arith in ap (steps_from p i) e

-- ---- a well-formed plan's links

from_below : (m : ℕ) (p : Plan) (i n : ℕ) → ((j : ℕ) → j < i + n → at p.link j < m) → LinksBelow m (steps_from p i n)
unfolding steps_from LinksBelow
from_below m p i zero h = tt
from_below m p i (suc n) h = (h i (omega arith), from_below m p (suc i) n (λ j k. h j (omega arith)))

pub steps_below : (m : ℕ) (p : Plan) → WellFormedPlan m p → LinksBelow m (steps_of p)
steps_below m p v = rw (← all_left p) (from_below m p 0 (p.steps - 0) (λ j k. v.link_in j (omega arith)))

pub plan_in : (n : Network) (p : Plan) → WellFormed n → WellFormedPlan n.links p → WellFormedPlan 96 p
plan_in n p w v =
    record {
      steps_fit = v.steps_fit;
      link_long = v.link_long;
      close_long = v.close_long;
      link_in = λ i k. omega (arith, v.link_in i k, w.links_fit);
    }
