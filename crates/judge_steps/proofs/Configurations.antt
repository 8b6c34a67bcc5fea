-- States held as numbers are put and run as configurations are, and no test sees a state past the last link.
-- Assumes nothing.
use mathlib.Core.Path.{◌≡◌, refl, ap, ◌∙◌, fun_ext}
use mathlib.Core.Bool.{Bool, true, false, not, cond, ◌&&◌}
use mathlib.Core.List.{List, [], ◌∷◌}
use Prim.Native.Nat.{ℕ, ◌<◌}
use lib.Dec.{eqb}
use lib.ListN.{length, set, length-set}
use lib.Seq.{get_or-set_same, get_or-set_other}
use borrow.Author.Tests.{eqb-true, eqb-false}
use Rattle.network.specs.declared.Network.{Network}
use Rattle.network.specs.Accepted.{WellFormed}
use Rattle.file_plan.specs.declared.plan.Plan.{Plan}
use Rattle.file_plan.specs.Accepted.{WellFormedPlan}
use Rattle.file_writer.specs.Writing.{state_number}
use Rattle.file_writer.proofs.RoundTrip.{state_back}
use Rattle.feeding.specs.Below.{bits}
use Rattle.feeding.specs.Networks.{Net, net_of, grid_of}
use Rattle.feeding.specs.Parts.{Config, closed_in}
use Rattle.feeding.specs.Plans.{Step, put, run}
use Rattle.feeding.specs.Restoration.{restorable?}
use Rattle.feeding.proofs.Lows.{lowest_ext}
use Rattle.feeding.proofs.States.{live_same}
use Rattle.feeding_restoration.proofs.Reach.{bits_long}
use Rattle.feeding_restoration.proofs.Sets.{set_at}
use Rattle.plan_form.specs.Printing.{steps_of}
use Rattle.plan_form.proofs.Steps.{LinksBelow}
use Rattle.judge_marks.specs.Marks.{dark_place}
use Rattle.judge_steps.specs.States.{states_run}
use Rattle.judge_steps.proofs.Front.{steps_below, plan_in}

-- ---- states as numbers

pub set_put : (closed : List ℕ) (l : ℕ) (w : Bool) → l < length closed → closed_in (set closed l (state_number w)) ≡ put (closed_in closed) l w
unfolding put
set_put closed l w k = fun_ext (λ m. go m (eqb m l) refl)
  where
    go : (m : ℕ) (t : Bool) → eqb m l ≡ t → closed_in (set closed l (state_number w)) m ≡ cond t w (closed_in closed m)
    go m true e = rw (eqb-true m l e, get_or-set_same closed l (state_number w) 0 k) (state_back w)
    go m false e = rw (get_or-set_other closed l m (state_number w) 0 (eqb-false m l e))

pub states_long : (closed : List ℕ) (q : List Step) → length (states_run closed q) ≡ length closed
unfolding states_run
states_long closed [] = refl
states_long closed (s ∷ q) = states_long (set closed s.link (state_number s.want)) q ∙ length-set closed s.link (state_number s.want)

pub states_run_lem : (closed : List ℕ) (q : List Step) → LinksBelow (length closed) q → closed_in (states_run closed q) ≡ run (closed_in closed) q
unfolding states_run run LinksBelow
states_run_lem closed [] h = refl
states_run_lem closed (s ∷ q) h =
    states_run_lem (set closed s.link (state_number s.want)) q (rw (length-set closed s.link (state_number s.want)) h.1)
    ∙ ap (λ (c : Config). run c q) (set_put closed s.link s.want h.0)

-- ---- configurations that agree below K

module _ (K : ℕ) where
  pub put_same : (c c' : Config) (l : ℕ) (w : Bool) → ((m : ℕ) → m < K → c m ≡ c' m) → (m : ℕ) → m < K → put c l w m ≡ put c' l w m
  unfolding put
  put_same c c' l w same m k = ap (cond (eqb m l) w) (same m k)

  pub run_same : (c c' : Config) (q : List Step) → ((l : ℕ) → l < K → c l ≡ c' l) → (l : ℕ) → l < K → run c q l ≡ run c' q l
  unfolding run
  run_same c c' [] same l k = same l k
  run_same c c' (s ∷ q) same l k =
      run_same (put c s.link s.want) (put c' s.link s.want) q (put_same c c' s.link s.want same) l k

pub dark_same : (net : Net) (c c' : Config) → ((l : ℕ) → l < net.grid.K → c l ≡ c' l) → dark_place net c ≡ dark_place net c'
unfolding dark_place
dark_same net c c' same =
    lowest_ext net.grid.E _ _ (λ e _. ap (λ (b : Bool). restorable? net e && not b) (live_same net.grid c c' same e))

-- ---- what is dark in the states that a plan's steps leave

pub finished_dark : (n : Network) (p : Plan) (start closed : List ℕ) → WellFormed n → WellFormedPlan n.links p
    → start ≡ bits 96 n.links (net_of n).start_closed → closed ≡ states_run start (steps_of p)
    → dark_place (net_of n) (closed_in closed) ≡ dark_place (net_of n) (run (net_of n).start_closed (steps_of p))
unfolding net_of grid_of
finished_dark n p start closed w v s e =
    ap (λ (xs : List ℕ). dark_place (net_of n) (closed_in xs)) e ∙ ap (dark_place (net_of n)) (states_run_lem start (steps_of p) inside)
    ∙ dark_same (net_of n) (run (closed_in start) (steps_of p)) (run (net_of n).start_closed (steps_of p))
    (run_same n.links (closed_in start) (net_of n).start_closed (steps_of p) (set_at n w n.links _ start w.links_fit s))
  where
    inside : LinksBelow (length start) (steps_of p)
    inside = rw (bits_long start n.links _ s) (steps_below 96 p (plan_in n p w v))
