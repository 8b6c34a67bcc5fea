-- The turns of the other loops: the states that the steps left make, and the lowest element that is still dark.
-- Assumes nothing.
use mathlib.Core.Path.{◌≡◌, refl, sym, ap, ap₂, ◌∙◌}
use mathlib.Core.Bool.{Bool, true, false, not, ◌&&◌}
use mathlib.Core.List.{List}
use Prim.Native.Nat.{ℕ, ◌+◌, ◌≤◌, ◌<◌}
use native.Mathlib.Omega.{arith}
use lib.ListN.{length, set, get_or, length-set}
use mir.Val.{bool_byte}
use Rattle.network.specs.declared.Network.{Network}
use Rattle.network.specs.Accepted.{WellFormed}
use Rattle.file_plan.specs.declared.plan.Plan.{Plan}
use Rattle.file_writer.specs.Writing.{state_number}
use Rattle.feeding.specs.Below.{bits, lowest}
use Rattle.feeding.specs.Networks.{net_of, grid_of, at, is_in}
use Rattle.feeding.specs.Parts.{closed_in, live?}
use Rattle.feeding.specs.Restoration.{restorable?}
use Rattle.feeding.proofs.Lows.{lowest_ext}
use Rattle.feeding_sets.specs.Sets.{but_not}
use Rattle.feeding_restoration.proofs.Sets.{set_at, fits}
use Rattle.plan_form.specs.Printing.{steps_of}
use Rattle.judge_marks.specs.Marks.{dark_place}
use Rattle.judge_steps.specs.States.{states_run}
use Rattle.judge_steps.proofs.Front.{steps_left, all_left, one_taken, none_left}

-- ---- states

pub state_byte : (b : Bool) → bool_byte b ≡ state_number b
state_byte true = refl
state_byte false = refl

-- what is left makes of these states what all steps make of those at the start
pub record Running (p : Plan) (start closed : List ℕ) (i : ℕ) : Type 0 where
  pub at_most : i ≤ p.steps
  pub long : length closed ≡ 96
  pub rest : states_run closed (steps_left p i) ≡ states_run start (steps_of p)

module _ (p : Plan) (start : List ℕ) where
  pub run_first : length start ≡ 96 → Running p start start 0
  run_first h = record { at_most = omega arith; long = h; rest = ap (states_run start) (all_left p) }

  pub run_turn : (closed : List ℕ) (i : ℕ) → Running p start closed i → i < p.steps → (want : ℕ) → want ≡ state_number (get_or p.close i false)
      → (closed' : List ℕ) → closed' ≡ set closed (at p.link i) want → (j : ℕ) → j ≡ i + 1 → Running p start closed' j
  unfolding states_run
  run_turn closed i now k want want_is closed' closed_is j next =
      record {
        at_most = omega arith;
        long = ap length closed_is ∙ length-set closed (at p.link i) want ∙ now.long;
        rest =
            ap₂ (λ (xs : List ℕ) (x : ℕ). states_run xs (steps_left p x)) (closed_is ∙ ap (set closed (at p.link i)) want_is) next
            ∙ ap (states_run closed) (sym (one_taken p i k)) ∙ now.rest;
      }

  pub run_last : (closed : List ℕ) (i : ℕ) → Running p start closed i → p.steps ≤ i → closed ≡ states_run start (steps_of p)
  unfolding states_run
  run_last closed i now k = sym (ap (states_run closed) (none_left p i k)) ∙ now.rest

-- ---- what is still dark

pub dark_found : (n : Network) → WellFormed n → (closed live restorable waiting : List ℕ)
    → live ≡ bits 96 n.elements (live? (net_of n).grid (closed_in closed))
    → restorable ≡ bits 96 n.elements (restorable? (net_of n))
    → waiting ≡ bits 96 n.elements (but_not restorable live)
    → lowest n.elements (is_in waiting) ≡ dark_place (net_of n) (closed_in closed)
unfolding dark_place net_of grid_of but_not
dark_found n w closed live restorable waiting live_is restorable_is waiting-is =
    lowest_ext n.elements _ _ (λ e k.
    set_at n w n.elements _ waiting (fits n w) waiting-is e k
    ∙ ap₂ (λ (a b : Bool). a && not b) (set_at n w n.elements _ restorable (fits n w) restorable_is e k)
    (set_at n w n.elements _ live (fits n w) live_is e k))
