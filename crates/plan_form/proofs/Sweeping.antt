-- A turn of the loop: the plan that it leaves is that of a sweep over one link more.
-- Assumes nothing.
use mathlib.Core.Path.{◌≡◌, refl, sym, ap, ◌∙◌}
use mathlib.Core.Bool.{Bool, true, false, cond, and-false}
use mathlib.Core.List.{List, [], ◌∷◌}
use Prim.Native.Nat.{ℕ, ◌+◌, ◌≤◌}
use native.Mathlib.Numerals.{add-one}
use native.Mathlib.Omega.{arith}
use lib.ListN.{length, set}
use borrow.Author.Tests.{eq-eqb, ne_eqb}
use Rattle.feeding.specs.Networks.{at}
use Rattle.feeding.specs.Plans.{sweep}
use Rattle.file_plan.specs.declared.plan.Plan.{Plan}
use Rattle.file_plan.specs.PlanFiles.{empty_plan}
use Rattle.plan_form.specs.Printing.{PlanReach, with_one, plan_with, in_state, form_of}
use Rattle.plan_form.proofs.Steps.{with_append, with_count, with_links_lem, with_states, empty_steps, empty_links, empty_states, sweep_length}

module _ (operated closed : List ℕ) (state : ℕ) where
  in_state_lem : (l : ℕ) → at operated l ≡ 1 → at closed l ≡ state → in_state operated closed state l ≡ true
  unfolding in_state
  in_state_lem l h k = rw (eq-eqb (at operated l) 1 h, eq-eqb (at closed l) state k)

  other_state : (l : ℕ) → (at closed l ≡ state → ⊥) → in_state operated closed state l ≡ false
  unfolding in_state
  other_state l k = rw (ne_eqb (at closed l) state k, and-false)

  not_operated : (l : ℕ) → (at operated l ≡ 1 → ⊥) → in_state operated closed state l ≡ false
  unfolding in_state
  not_operated l h = rw (ne_eqb (at operated l) 1 h)

  module _ (p : Plan) (w : Bool) where
    abbrev pub swept_to : ℕ → Plan
    swept_to l = plan_with p (sweep w (in_state operated closed state) l)

    pub swept_none : p ≡ swept_to 0
    unfolding plan_with sweep
    swept_none = refl

    step : (l : ℕ) → swept_to (l + 1) ≡ plan_with (swept_to l) (cond (in_state operated closed state l) (record { link = l; want = w } ∷ []) [])
    unfolding sweep
    step l = ap swept_to (add-one l) ∙ with_append p (sweep w (in_state operated closed state) l) _

    pub swept_on : (l : ℕ) (longer longer' : Plan) → longer ≡ swept_to l → at operated l ≡ 1 → at closed l ≡ state
        → longer' ≡ record { link = set longer.link longer.steps l; close = set longer.close longer.steps w; steps = longer.steps + 1 }
        → longer' ≡ swept_to (l + 1)
    unfolding plan_with with_one
    swept_on l longer longer' e h k q =
        q ∙ ap (λ (x : Plan). with_one x (record { link = l; want = w })) e ∙ sym (step l ∙ rw (in_state_lem l h k))

    skip : (l : ℕ) (longer longer' : Plan) → longer ≡ swept_to l → in_state operated closed state l ≡ false → longer' ≡ longer
        → longer' ≡ swept_to (l + 1)
    unfolding plan_with
    skip l longer longer' e off q = q ∙ e ∙ sym (step l ∙ rw off)

    pub swept_other : (l : ℕ) (longer longer' : Plan) → longer ≡ swept_to l → (at closed l ≡ state → ⊥) → longer' ≡ longer → longer' ≡ swept_to (l + 1)
    swept_other l longer longer' e k q = skip l longer longer' e (other_state l k) q

    pub swept_out : (l : ℕ) (longer longer' : Plan) → longer ≡ swept_to l → (at operated l ≡ 1 → ⊥) → longer' ≡ longer → longer' ≡ swept_to (l + 1)
    swept_out l longer longer' e h q = skip l longer longer' e (not_operated l h) q

    -- a plan grows by a step a link at most
    pub swept_room : (l : ℕ) (longer : Plan) → longer ≡ swept_to l → longer.steps ≤ p.steps + l
    swept_room l longer e =
        omega (
          arith,
          ap (λ (x : Plan). x.steps) e,
          with_count p (sweep w (in_state operated closed state) l),
          sweep_length w (in_state operated closed state) l,
        )

-- ---- the two sweeps of the form

module _ (operated closed : List ℕ) (n : ℕ) (fits : (n ≤ 96) × (n ≤ length operated) × (n ≤ length closed)) where
  pub first_reach : (p : Plan) → p ≡ empty_plan → PlanReach p operated closed n
  first_reach p e =
      record {
        fit = fits.0;
        operated_long = fits.1;
        closed_long = fits.2;
        link_long = ap (λ (x : Plan). length x.link) e ∙ empty_links;
        close_long = ap (λ (x : Plan). length x.close) e ∙ empty_states;
        room = omega (arith, fits.0, ap (λ (x : Plan). x.steps) e, empty_steps);
      }

  -- after one sweep, of whichever state, there is room for another
  pub next_reach : (state : ℕ) (w : Bool) (p longer : Plan) → p ≡ empty_plan → longer ≡ swept_to operated closed state p w n
      → PlanReach longer operated closed n
  next_reach state w p longer e o =
      let steps = sweep w (in_state operated closed state) n in
      record {
        fit = fits.0;
        operated_long = fits.1;
        closed_long = fits.2;
        link_long = ap (λ (x : Plan). length x.link) o ∙ with_links_lem p steps ∙ (first_reach p e).link_long;
        close_long = ap (λ (x : Plan). length x.close) o ∙ with_states p steps ∙ (first_reach p e).close_long;
        room = omega (arith, fits.0, swept_room operated closed state p w n longer o, ap (λ (x : Plan). x.steps) e, empty_steps);
      }

pub form_made : (operated closed : List ℕ) (n : ℕ) (p opened made : Plan) → p ≡ empty_plan → opened ≡ swept_to operated closed 1 p false n
    → made ≡ swept_to operated closed 0 opened true n → made ≡ plan_with empty_plan (form_of operated closed n)
unfolding form_of
form_made operated closed n p opened made e o m =
    m ∙ ap (λ (x : Plan). plan_with x (sweep true (in_state operated closed 0) n)) (o ∙ ap (λ (x : Plan). swept_to operated closed 1 x false n) e)
    ∙ sym (with_append empty_plan (sweep false (in_state operated closed 1) n) (sweep true (in_state operated closed 0) n))
