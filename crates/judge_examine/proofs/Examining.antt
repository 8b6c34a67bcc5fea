-- The turns of the examination's loop: the configuration before a step is safe, and the steps that are left give the whole answer.
-- Assumes nothing.
use mathlib.Core.Path.{◌≡◌, refl, sym, ap, ap₂, ◌∙◌}
use mathlib.Core.Bool.{Bool, true, false, not, ◌&&◌}
use mathlib.Core.List.{List, [], ◌∷◌}
use Prim.Native.Nat.{ℕ, suc, ◌+◌, ◌≤◌, ◌<◌}
use native.Mathlib.Numerals.{add-one}
use native.Mathlib.Omega.{arith}
use lib.Dec.{eqb, ltb}
use lib.ListN.{length, set, get_or, length-set, get_or-eq_default}
use lib.Seq.{get_or-set_same, get_or-set_other}
use borrow.Author.Tests.{eqb-true, eqb-false, ne_eqb, ltb-true, ltb-false}
use Rattle.std.specs.Prelude.{Result, Ok, Err}
use Rattle.network.specs.declared.Network.{Network}
use Rattle.network.specs.Accepted.{WellFormed}
use Rattle.file_plan.specs.declared.plan.Plan.{Plan}
use Rattle.file_plan.specs.Accepted.{WellFormedPlan}
use Rattle.file_writer.specs.Writing.{state_number}
use Rattle.file_writer.proofs.RoundTrip.{state_small}
use Rattle.feeding.specs.Below.{bits}
use Rattle.feeding.specs.Networks.{Grid, Net, Formed, net_of, grid_of, at, is_in}
use Rattle.feeding.specs.Parts.{Config, closed_in}
use Rattle.feeding.specs.Plans.{Step, put, differ}
use Rattle.feeding.specs.Safety.{Safe, safe?}
use Rattle.feeding.proofs.Below.{same_test, gate_le}
use Rattle.feeding.proofs.Bits.{at_bits, length_bits}
use Rattle.feeding.proofs.Decided.{safety_safe, safe_safety, safe?_sound, safe?_complete}
use Rattle.feeding.proofs.States.{safety_same}
use Rattle.feeding.proofs.Views.{formed_net}
use Rattle.feeding_restoration.proofs.Reach.{bits_long}
use Rattle.feeding_restoration.proofs.Sets.{set_at}
use Rattle.plan_form.specs.Printing.{steps_of}
use Rattle.plan_form.proofs.Steps.{LinksBelow}
use Rattle.judge_marks.specs.declared.BadStep.{BadStep}
use Rattle.judge_marks.specs.Marks.{examined, first_bad, step_examined, steps_examined}
use Rattle.judge_marks.proofs.Examining.{all_pass}
use Rattle.judge_steps.proofs.Front.{step_at, steps_left, all_left, one_taken, none_left, steps_below}
use Rattle.judge_steps.proofs.Configurations.{set_put, put_same}
use Rattle.feeding_walks.specs.declared.Walk.{Walk}
use Rattle.judge_closing.specs.Checks.{closes_over}
use Rattle.judge_examine.specs.Steps.{kept_safe, Steppable}
use Rattle.judge_examine.proofs.Networks.{Made, closable}
use Rattle.judge_examine.proofs.Steps.{found_is}

-- ---- links past the last one don't matter, in the states and in the operable set

safe_same : (g : Grid) → Formed g → (c c' : Config) → ((l : ℕ) → l < g.K → c l ≡ c' l) → safe? g c ≡ safe? g c'
safe_same g formed c c' same = same_test _ _
    (λ h. safety_safe g c' (sym (safety_same g formed c c' same) ∙ safe_safety g c h))
    (λ h. safety_safe g c (safety_same g formed c c' same ∙ safe_safety g c' h))

pub examined_same : (net : Net) → Formed net.grid → (op op' : ℕ → Bool) → ((l : ℕ) → l < net.grid.K → op l ≡ op' l)
    → (c c' : Config) → ((l : ℕ) → l < net.grid.K → c l ≡ c' l)
    → (i : ℕ) (q : List Step) → LinksBelow net.grid.K q → steps_examined net op c i q ≡ steps_examined net op' c' i q
unfolding steps_examined step_examined LinksBelow
examined_same net formed op op' ops c c' same i [] h = refl
examined_same net formed op op' ops c c' same i (s ∷ q) h =
    ap₂ first_bad
    (ap₂ (λ (operable changes : Bool). examined i operable changes (safe? net.grid (put c s.link s.want))) (ops s.link h.0)
    (ap (λ (b : Bool). differ b s.want) (same s.link h.0))
    ∙ ap (examined i (op' s.link) (differ (c' s.link) s.want))
    (safe_same net.grid formed (put c s.link s.want) (put c' s.link s.want) puts))
    (examined_same net formed op op' ops (put c s.link s.want) (put c' s.link s.want) puts (suc i) q h.1)
  where
    puts : (l : ℕ) → l < net.grid.K → put c s.link s.want l ≡ put c' s.link s.want l
    puts = put_same net.grid.K c c' s.link s.want same

-- ---- a state is 0 or 1

bits_small : (w n : ℕ) (f : ℕ → Bool) (xs : List ℕ) → xs ≡ bits w n f → (l : ℕ) → at xs l ≤ 1
bits_small w n f xs e l = rw e (go (ltb l w) refl)
  where
    go : (t : Bool) → ltb l w ≡ t → at (bits w n f) l ≤ 1
    go true t = rw (at_bits w n f l (ltb-true l w t)) (gate_le (ltb l n && f l) 1)
    go false t = rw (get_or-eq_default (bits w n f) 0 {n = l} (omega (arith, length_bits w n f, ltb-false l w t))) (omega arith)

set_small : (closed : List ℕ) (l : ℕ) (w : Bool) → ((m : ℕ) → at closed m ≤ 1) → l < length closed
    → (m : ℕ) → at (set closed l (state_number w)) m ≤ 1
set_small closed l w small k m = go (eqb m l) refl
  where
    go : (t : Bool) → eqb m l ≡ t → at (set closed l (state_number w)) m ≤ 1
    go true t = rw (eqb-true m l t, get_or-set_same closed l (state_number w) 0 k) (state_small w)
    go false t = rw (get_or-set_other closed l m (state_number w) 0 (eqb-false m l t)) (small m)

-- ---- the loop

-- the steps from step i on, the first of which has number m
abbrev later_examined : Network → List ℕ → Plan → List ℕ → ℕ → ℕ → Result Unit BadStep
later_examined n operable p closed m i = steps_examined (net_of n) (is_in operable) (closed_in closed) m (steps_left p i)

abbrev all_examined : Network → List ℕ → Plan → Result Unit BadStep
all_examined n operable p = steps_examined (net_of n) (is_in operable) (net_of n).start_closed 1 (steps_of p)

-- before step i, in these states
pub record Examining (n : Network) (operable : List ℕ) (p : Plan) (closed : List ℕ) (i : ℕ) : Type 0 where
  pub at_most : i ≤ p.steps
  pub long : length closed ≡ 96
  pub small : (l : ℕ) → at closed l ≤ 1
  pub safe : Safe (net_of n).grid (closed_in closed)
  pub rest : later_examined n operable p closed (i + 1) i ≡ all_examined n operable p

module _ (n : Network) (w : WellFormed n) (operable : List ℕ) (p : Plan) (v : WellFormedPlan n.links p) where
  pub first_turn : Safe (net_of n).grid (net_of n).start_closed → (closed : List ℕ) → closed ≡ bits 96 n.links (net_of n).start_closed
      → Examining n operable p closed 0
  unfolding net_of grid_of
  first_turn safe closed e =
      record {
        at_most = omega arith;
        long = bits_long closed n.links _ e;
        small = bits_small 96 n.links _ closed e;
        safe = safe?_sound (net_of n).grid (formed_net n w) (closed_in closed)
            (safe_same (net_of n).grid (formed_net n w) (closed_in closed) (net_of n).start_closed (set_at n w n.links _ closed w.links_fit e)
            ∙ safe?_complete (net_of n).grid (formed_net n w) (net_of n).start_closed safe);
        rest =
            ap (steps_examined (net_of n) (is_in operable) (closed_in closed) 1) (all_left p)
            ∙ examined_same (net_of n) (formed_net n w) (is_in operable) (is_in operable) (λ _ _. refl) (closed_in closed) (net_of n).start_closed
            (set_at n w n.links _ closed w.links_fit e) 1 (steps_of p) (steps_below n.links p v);
      }

  -- every step was good
  pub last_turn : (closed : List ℕ) (i : ℕ) → Examining n operable p closed i → p.steps ≤ i → Ok tt ≡ all_examined n operable p
  unfolding steps_examined
  last_turn closed i now k =
      sym (ap (steps_examined (net_of n) (is_in operable) (closed_in closed) (i + 1)) (none_left p i k)) ∙ now.rest

  -- step i, over the lists that were made of the network
  module _ (walk : Walk) (sign : List ℕ) (made : Made n walk sign)
      (closed : List ℕ) (i : ℕ) (now : Examining n operable p closed i) (k : i < p.steps) where
    abbrev link : ℕ
    link = at p.link i

    abbrev wanted : Bool
    wanted = get_or p.close i false

    pub steppable : Steppable walk closed sign (at p.link i)
    steppable = record {
      below = omega (arith, v.link_in i k, w.links_fit);
      closable = λ h. closable n w walk sign made link (v.link_in i k) closed now.long now.safe (ne_eqb (at closed link) 1 h);
    }

    module _ (want : ℕ) (want_is : want ≡ state_number (get_or p.close i false)) (m : ℕ) (m-is : m ≡ i + 1) (found : Result Unit BadStep)
        (by_tests : found ≡ examined m (eqb (at operable (at p.link i)) 1) (not (eqb (at closed (at p.link i)) want))
        (kept_safe want (closes_over walk closed sign (at p.link i)))) where
      step_is : found ≡ step_examined (net_of n) (is_in operable) (closed_in closed) (i + 1) (step_at p i)
      unfolding step_examined net_of
      step_is =
          by_tests ∙ found_is n w walk sign made closed now.long now.safe (step_at p i) (v.link_in i k) m (at operable link) want want_is (now.small link)
          ∙ ap (λ (x : ℕ). step_examined (net_of n) (is_in operable) (closed_in closed) x (step_at p i)) m-is

      whole_is : first_bad found (steps_examined (net_of n) (is_in operable) (put (closed_in closed) link wanted) (suc (i + 1)) (steps_left p (i + 1)))
          ≡ all_examined n operable p
      unfolding steps_examined
      whole_is =
          ap (λ (x : Result Unit BadStep). first_bad x (steps_examined (net_of n) (is_in operable) (put (closed_in closed) link wanted) (suc (i + 1)) (steps_left p (i + 1)))) step_is
          ∙ ap (steps_examined (net_of n) (is_in operable) (closed_in closed) (i + 1)) (sym (one_taken p i k)) ∙ now.rest

      pub bad_turn : (b : BadStep) → found ≡ Err b → found ≡ all_examined n operable p
      unfolding first_bad
      bad_turn b e = e
          ∙ ap (λ (x : Result Unit BadStep). first_bad x (steps_examined (net_of n) (is_in operable) (put (closed_in closed) link wanted) (suc (i + 1)) (steps_left p (i + 1)))) (sym e)
          ∙ whole_is

      pub good_turn : (closed' : List ℕ) → closed' ≡ set closed (at p.link i) want → (j : ℕ) → j ≡ i + 1 → found ≡ Ok tt → Examining n operable p closed' j
      unfolding first_bad step_examined net_of
      good_turn closed' is j next e =
          record {
            at_most = omega arith;
            long = ap length left ∙ length-set closed link (state_number wanted) ∙ now.long;
            small = rw left (set_small closed link wanted now.small inside);
            safe = safe?_sound (net_of n).grid (formed_net n w) (closed_in closed') (ap (safe? (net_of n).grid) puts ∙ (all_pass (i + 1) _ _ _ (sym step_is ∙ e)).2);
            rest =
                ap₂ (λ (m x : ℕ). later_examined n operable p closed' m x) (ap (λ (x : ℕ). x + 1) next ∙ add-one (i + 1)) next
                ∙ ap (λ (c : Config). steps_examined (net_of n) (is_in operable) c (suc (i + 1)) (steps_left p (i + 1))) puts
                ∙ ap (λ (x : Result Unit BadStep). first_bad x (steps_examined (net_of n) (is_in operable) (put (closed_in closed) link wanted) (suc (i + 1)) (steps_left p (i + 1)))) (sym e)
                ∙ whole_is;
          }
        where
          inside : link < length closed
          inside = omega (arith, now.long, v.link_in i k, w.links_fit)

          left : closed' ≡ set closed link (state_number wanted)
          left = is ∙ ap (set closed link) want_is

          puts : closed_in closed' ≡ put (closed_in closed) link wanted
          puts = ap closed_in left ∙ set_put closed link wanted inside
