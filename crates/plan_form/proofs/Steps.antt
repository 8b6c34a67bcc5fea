-- A list of steps kept as a plan is read back, and the printed form of a set fits a plan: by induction on the steps and on the links.
-- Assumes nothing.
use mathlib.Core.Path.{◌≡◌, refl, sym, ap, ap₂, ◌∙◌}
use mathlib.Core.Bool.{Bool, true, false, not, cond, ◌&&◌}
use mathlib.Core.List.{List, [], ◌∷◌, ◌++◌, append-nil, append_assoc}
use Prim.Native.Nat.{ℕ, zero, suc, ◌+◌, ◌≤◌, ◌<◌}
use native.Mathlib.Numerals.{add-one}
use native.Mathlib.Omega.{arith}
use lib.Dec.{eqb}
use lib.ListN.{length, set, length-append, length-set, length-replicate}
use lib.Seq.{get_or-set_same, get_or-set_other}
use borrow.Author.Tests.{eqb-true, eqb-false}
use Rattle.feeding.specs.Below.{gate, sum_to}
use Rattle.feeding.specs.Networks.{Net, at, is_in}
use Rattle.feeding.specs.Plans.{Step, sweep, printed_form}
use Rattle.feeding.proofs.Below.{gate_le}
use Rattle.feeding.proofs.Sums.{sum_to_add, sum_to_below}
use Rattle.file_plan.specs.declared.plan.Plan.{Plan}
use Rattle.file_plan.specs.PlanFiles.{empty_plan}
use Rattle.file_plan.specs.Accepted.{WellFormedPlan}
use Rattle.plan_form.specs.Printing.{with_one, plan_with, steps_to, steps_of, in_state, form_of}

-- ---- a plan with steps behind it

pub with_append : (p : Plan) (q r : List Step) → plan_with p (q ++ r) ≡ plan_with (plan_with p q) r
unfolding plan_with
with_append p [] r = refl
with_append p (s ∷ q) r = with_append (with_one p s) q r

one_count : (p : Plan) (s : Step) → (with_one p s).steps ≡ p.steps + 1
unfolding with_one
one_count p s = refl

pub with_count : (p : Plan) (q : List Step) → (plan_with p q).steps ≡ p.steps + length q
unfolding plan_with with_one
with_count p [] = omega arith
with_count p (s ∷ q) = omega (arith, with_count (with_one p s) q)

pub with_links_lem : (p : Plan) (q : List Step) → length (plan_with p q).link ≡ length p.link
unfolding plan_with with_one
with_links_lem p [] = refl
with_links_lem p (s ∷ q) = with_links_lem (with_one p s) q ∙ length-set p.link p.steps s.link

pub with_states : (p : Plan) (q : List Step) → length (plan_with p q).close ≡ length p.close
unfolding plan_with with_one
with_states p [] = refl
with_states p (s ∷ q) = with_states (with_one p s) q ∙ length-set p.close p.steps s.want

-- ---- read back

-- a step behind the others leaves them
steps_kept : (p : Plan) (s : Step) (n : ℕ) → n ≤ p.steps → steps_to (with_one p s) n ≡ steps_to p n
unfolding steps_to with_one
steps_kept p s zero k = refl
steps_kept p s (suc n) k =
    ap₂ (λ (xs : List Step) (x : Step). xs ++ (x ∷ [])) (steps_kept p s n (omega arith))
    (ap₂ (λ (l : ℕ) (w : Bool). record { link = l; want = w })
    (get_or-set_other p.link p.steps n s.link 0 apart) (get_or-set_other p.close p.steps n s.want false apart))
  where
    apart : n ≡ p.steps → ⊥
    apart e = absurd (omega arith)

steps_one : (p : Plan) (s : Step) → p.steps < length p.link → p.steps < length p.close
    → steps_to (with_one p s) (p.steps + 1) ≡ steps_to p p.steps ++ (s ∷ [])
unfolding steps_to with_one
steps_one p s kl kc =
    ap (steps_to (with_one p s)) (add-one p.steps)
    ∙ ap₂ (λ (xs : List Step) (x : Step). xs ++ (x ∷ [])) (steps_kept p s p.steps (omega arith))
    (ap₂ (λ (l : ℕ) (w : Bool). record { link = l; want = w })
    (get_or-set_same p.link p.steps s.link 0 kl) (get_or-set_same p.close p.steps s.want false kc))

steps_all : (p : Plan) (q : List Step) → p.steps + length q ≤ length p.link → p.steps + length q ≤ length p.close
    → steps_to (plan_with p q) (p.steps + length q) ≡ steps_to p p.steps ++ q
unfolding plan_with with_one
steps_all p [] kl kc =
    let none : p.steps + 0 ≡ p.steps = omega arith in
    ap (steps_to p) none ∙ sym (append-nil (steps_to p p.steps))
steps_all p (s ∷ q) kl kc =
    ap (steps_to (plan_with (with_one p s) q)) more
    ∙ steps_all (with_one p s) q (omega (arith, count, length-set p.link p.steps s.link))
    (omega (arith, count, length-set p.close p.steps s.want))
    ∙ ap (λ (xs : List Step). xs ++ q) (ap (steps_to (with_one p s)) count ∙ steps_one p s (omega arith) (omega arith))
    ∙ append_assoc (steps_to p p.steps) (s ∷ []) q
  where
    count : (with_one p s).steps ≡ p.steps + 1
    count = one_count p s

    more : p.steps + suc (length q) ≡ (with_one p s).steps + length q
    more = omega (arith, count)

pub empty_steps : empty_plan.steps ≡ 0
unfolding empty_plan
empty_steps = refl

pub empty_links : length empty_plan.link ≡ 255
unfolding empty_plan
empty_links = length-replicate {A = ℕ} 255 0

pub empty_states : length empty_plan.close ≡ 255
unfolding empty_plan
empty_states = length-replicate 255 false

pub steps_with : (q : List Step) → length q ≤ 255 → steps_of (plan_with empty_plan q) ≡ q
unfolding steps_of steps_to
steps_with q k =
    ap (steps_to (plan_with empty_plan q)) (with_count empty_plan q)
    ∙ steps_all empty_plan q (omega (arith, empty_steps, empty_links)) (omega (arith, empty_steps, empty_states))
    ∙ ap (λ (n : ℕ). steps_to empty_plan n ++ q) empty_steps

-- a plan's count of steps is the length of its list of steps
steps_count : (p : Plan) (n : ℕ) → length (steps_to p n) ≡ n
unfolding steps_to
steps_count p zero = refl
steps_count p (suc n) = length-append (steps_to p n) _ ∙ omega (arith, steps_count p n)

pub steps_length : (p : Plan) → length (steps_of p) ≡ p.steps
unfolding steps_of
steps_length p = steps_count p p.steps

-- ---- a well-formed plan

-- every step's link is below m
unfoldable pub LinksBelow : ℕ → List Step → Type 0
LinksBelow m [] = Unit {0}
LinksBelow m (s ∷ q) = (s.link < m) × LinksBelow m q

below_append : (m : ℕ) (q r : List Step) → LinksBelow m q → LinksBelow m r → LinksBelow m (q ++ r)
unfolding LinksBelow
below_append m [] r h k = k
below_append m (s ∷ q) r h k = (h.0, below_append m q r h.1 k)

links_in : (m : ℕ) (p : Plan) (q : List Step) → p.steps + length q ≤ length p.link → ((i : ℕ) → i < p.steps → at p.link i < m)
    → LinksBelow m q → (i : ℕ) → i < (plan_with p q).steps → at (plan_with p q).link i < m
unfolding plan_with with_one LinksBelow
links_in m p [] k old h i ki = old i ki
links_in m p (s ∷ q) k old h i ki =
    links_in m (with_one p s) q (omega (arith, one_count p s, length-set p.link p.steps s.link))
    (λ j kj. new j (omega (arith, one_count p s)) (eqb j p.steps) refl) h.1 i ki
  where
    new : (j : ℕ) → j < p.steps + 1 → (t : Bool) → eqb j p.steps ≡ t → at (set p.link p.steps s.link) j < m
    new j kj true t = rw (eqb-true j p.steps t, get_or-set_same p.link p.steps s.link 0 (omega arith)) h.0
    new j kj false t =
        rw (get_or-set_other p.link p.steps j s.link 0 (eqb-false j p.steps t)) (old j (omega (arith, eqb-false j p.steps t)))

pub plan_well_formed : (links : ℕ) (q : List Step) → length q ≤ 255 → LinksBelow links q → WellFormedPlan links (plan_with empty_plan q)
plan_well_formed links q k h =
    record {
      steps_fit = omega (arith, with_count empty_plan q, empty_steps);
      link_long = with_links_lem empty_plan q ∙ empty_links;
      close_long = with_states empty_plan q ∙ empty_states;
      link_in = links_in links empty_plan q (omega (arith, empty_steps, empty_links)) (λ i ki. absurd (omega (arith, empty_steps))) h;
    }

-- ---- a sweep

pub length_sweep : (w : Bool) (pick : ℕ → Bool) (n : ℕ) → length (sweep w pick n) ≡ sum_to n (λ l. gate (pick l) 1)
unfolding sweep sum_to
length_sweep w pick zero = refl
length_sweep w pick (suc n) = length-append (sweep w pick n) _ ∙ ap₂ ◌+◌ (length_sweep w pick n) (go (pick n))
  where
    go : (t : Bool) → length {A = Step} (cond t (record { link = n; want = w } ∷ []) []) ≡ gate t 1
    go true = refl
    go false = refl

pub sweep_length : (w : Bool) (pick : ℕ → Bool) (n : ℕ) → length (sweep w pick n) ≤ n
sweep_length w pick n = omega (arith, length_sweep w pick n, sum_to_below 1 (λ l. gate (pick l) 1) n (λ l _. gate_le (pick l) 1))

-- two sweeps that have no link in common
lengths_apart : (one other : ℕ → Bool) (n : ℕ) → ((l : ℕ) → gate (one l) 1 + gate (other l) 1 ≤ 1)
    → length (sweep false one n ++ sweep true other n) ≤ n
lengths_apart one other n apart =
    omega (
      arith,
      length-append (sweep false one n) (sweep true other n),
      length_sweep false one n,
      length_sweep true other n,
      sum_to_add n (λ l. gate (one l) 1) (λ l. gate (other l) 1),
      sum_to_below 1 (λ l. gate (one l) 1 + gate (other l) 1) n (λ l _. apart l),
    )

sweep_ext : (w : Bool) (pick pick' : ℕ → Bool) (n : ℕ) → ((l : ℕ) → l < n → pick l ≡ pick' l) → sweep w pick n ≡ sweep w pick' n
unfolding sweep
sweep_ext w pick pick' zero h = refl
sweep_ext w pick pick' (suc n) h =
    ap₂ (λ (xs : List Step) (b : Bool). xs ++ cond b (record { link = n; want = w } ∷ []) [])
    (sweep_ext w pick pick' n (λ l k. h l (omega arith))) (h n (omega arith))

sweep_below : (m : ℕ) (w : Bool) (pick : ℕ → Bool) (n : ℕ) → n ≤ m → LinksBelow m (sweep w pick n)
unfolding sweep LinksBelow
sweep_below m w pick zero k = tt
sweep_below m w pick (suc n) k = below_append m (sweep w pick n) _ (sweep_below m w pick n (omega arith)) (go (pick n))
  where
    go : (t : Bool) → LinksBelow m (cond t (record { link = n; want = w } ∷ []) [])
    go true = (omega arith, tt)
    go false = tt

-- ---- the form

one_group : (d s : Bool) → gate (d && s) 1 + gate (d && not s) 1 ≤ 1
one_group false s = omega arith
one_group true true = omega arith
one_group true false = omega arith

pub printed_length : (net : Net) (D : ℕ → Bool) → length (printed_form net D) ≤ net.grid.K
unfolding printed_form
printed_length net D = lengths_apart _ _ net.grid.K (λ l. one_group (D l) (net.start_closed l))

pub printed_below : (net : Net) (D : ℕ → Bool) → LinksBelow net.grid.K (printed_form net D)
unfolding printed_form
printed_below net D =
    below_append net.grid.K (sweep false (λ l. D l && net.start_closed l) net.grid.K) _
    (sweep_below net.grid.K false _ net.grid.K (omega arith)) (sweep_below net.grid.K true _ net.grid.K (omega arith))

was_closed : (s : Bool) → eqb (gate s 1) 1 ≡ s
was_closed true = refl
was_closed false = refl

was_open : (s : Bool) → eqb (gate s 1) 0 ≡ not s
was_open true = refl
was_open false = refl

pub form_printed : (net : Net) (D : ℕ → Bool) (operated closed : List ℕ) → ((l : ℕ) → l < net.grid.K → is_in operated l ≡ D l)
    → ((l : ℕ) → l < net.grid.K → at closed l ≡ gate (net.start_closed l) 1) → form_of operated closed net.grid.K ≡ printed_form net D
unfolding form_of printed_form in_state
form_printed net D operated closed is start =
    ap₂ (λ (xs ys : List Step). xs ++ ys)
    (sweep_ext false _ _ net.grid.K (λ l k. ap₂ ◌&&◌ (is l k) (ap (λ (x : ℕ). eqb x 1) (start l k) ∙ was_closed (net.start_closed l))))
    (sweep_ext true _ _ net.grid.K (λ l k. ap₂ ◌&&◌ (is l k) (ap (λ (x : ℕ). eqb x 0) (start l k) ∙ was_open (net.start_closed l))))
