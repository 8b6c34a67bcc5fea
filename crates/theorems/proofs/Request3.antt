-- Document 02, item 3, "The load line in one pass", sentence by sentence. By its contract `sums_over` gives `sums_over (at load) (is_in live) (is_in restorable) n`
-- wherever the lists reach over n elements (`LoadsReach`); what is printed for s is `plan_text s` (Demand1).
-- Assumes nothing.
use mathlib.Core.Path.{◌≡◌, ap, ◌∙◌}
use mathlib.Core.Bool.{Bool, not, ◌&&◌}
use mathlib.Core.List.{List}
use mathlib.Core.Logic.{◌↔◌}
use Prim.Native.Nat.{ℕ, ◌+◌, ◌<◌, ◌≤◌}
use native.Mathlib.Omega.{arith}
use lib.ListN.{length}
use borrow.Author.Tests.{eqb-true, eq-eqb}
use Rattle.network.specs.declared.Network.{Network}
use Rattle.feeding.specs.Below.{gate, sum_to}
use Rattle.feeding.specs.Networks.{net_of, grid_of, at, is_in}
use Rattle.feeding.specs.Parts.{Config, Live}
use Rattle.feeding.specs.Safety.{Safe}
use Rattle.feeding.specs.Restoration.{FixedClosed, Restorable, total_load}
use Rattle.feeding.specs.Plans.{Step, run}
use Rattle.feeding.proofs.Views.{formed_net}
use Rattle.file_refusals.proofs.Reading.{file_formed}
use Rattle.feeding_acceptance.specs.Reading.{Bytes, AcceptedNetwork}
use Rattle.plan_sums.specs.declared.Sums.{Sums}
use Rattle.plan_sums.specs.Sums.{load_over, LoadsReach, LoadsOver, FirstLoads, sums_over, sums_after}
use Rattle.plan_sums.proofs.Loads as Loads
use Rattle.plan_sums.proofs.Totals as Totals
use Rattle.plan_lines.specs.Lines.{none_lines}
use Rattle.planner.specs.Replies.{plan_text_of}
use Rattle.theorems.proofs.Demand2 as Demand2
use Rattle.theorems.specs.Words.{plan_text}

-- ---- "However they are made now, the three sums of the `LOAD` line shall come from one pass over the elements;": `sums_after` calls `sums_over` once, which has
-- one loop; the sums over one element more are those so far and that element's load, asked for each sum by itself

pub one_more : (load : ℕ → ℕ) (live restorable : ℕ → Bool) (n : ℕ) (l : Sums) → l ≡ sums_over load live restorable n
    → sums_over load live restorable (n + 1) ≡ record {
      fed = l.fed + gate (live n) (load n);
      dark = l.dark + gate (restorable n && not (live n)) (load n);
      lost = l.lost + gate (not (restorable n)) (load n);
    }
one_more = Totals.sums_more

-- ---- "Its contract gives all three over the first n elements,": whatever sets L and R the lists tell

module _ (load live restorable : List ℕ) (L R : ℕ → Type 0) (n : ℕ)
    (tells-live : (e : ℕ) → e < n → (at live e ≡ 1) ↔ L e) (tells-restorable : (e : ℕ) → e < n → (at restorable e ≡ 1) ↔ R e) where
  pub first_n : LoadsOver (at load) L R n (sums_over (at load) (is_in live) (is_in restorable) n)
  first_n =
      Loads.loads_over (at load) L R (is_in live) (is_in restorable) n
      (λ e k t. (tells-live e k).0 (eqb-true (at live e) 1 t)) (λ e k x. eq-eqb (at live e) 1 ((tells-live e k).1 x))
      (λ e k t. (tells-restorable e k).0 (eqb-true (at restorable e) 1 t)) (λ e k x. eq-eqb (at restorable e) 1 ((tells-restorable e k).1 x))

  -- and no other numbers are these sums
  pub first_n_only : (l : Sums) → LoadsOver (at load) L R n l → l ≡ sums_over (at load) (is_in live) (is_in restorable) n
  first_n_only l x = Loads.loads_same x first_n

-- each is asked of every element: one that is live and not restorable is in fed and in lost
pub asked_of_each : (load : ℕ → ℕ) (live restorable : ℕ → Bool) (n : ℕ)
    → (sums_over load live restorable n).fed + (sums_over load live restorable n).dark + (sums_over load live restorable n).lost
    ≡ sum_to n load + load_over load (λ e. live e && not (restorable e)) n
asked_of_each = Loads.shares

-- ---- "for any n up to E,"

module _ (s : List ℕ) (bytes : Bytes s) (n : Network) (accepted : AcceptedNetwork s n) where
  -- in any configuration of an accepted network the sums of `sums_after` are those over its first E elements
  pub sums_after_E : (c : Config) → FirstLoads (net_of n) c n.elements (sums_after (net_of n) c)
  unfolding sums_after net_of grid_of
  sums_after_E c =
      Loads.first_loads (net_of n) (formed_net n (file_formed s bytes n accepted.file)) c n.elements (omega arith)

  -- of an accepted network, with lists that tell what is live in a configuration and what is restorable
  module _ (c : Config) (live restorable : List ℕ) (live_long : n.elements ≤ length live) (restorable_long : n.elements ≤ length restorable)
      (tells-live : (e : ℕ) → e < n.elements → (at live e ≡ 1) ↔ Live (net_of n).grid c e)
      (tells-restorable : (e : ℕ) → e < n.elements → (at restorable e ≡ 1) ↔ Restorable (net_of n) e) where
    -- what `sums_over` asks holds
    pub reach_up_to_E : (m : ℕ) → m ≤ n.elements → LoadsReach n.load live restorable m
    reach_up_to_E m h = Totals.lists_reach n (file_formed s bytes n accepted.file) live restorable m h (omega arith) (omega arith)

    pub sums_up_to_E : (m : ℕ) → m ≤ n.elements → FirstLoads (net_of n) c m (sums_over (at n.load) (is_in live) (is_in restorable) m)
    unfolding net_of grid_of
    sums_up_to_E m h = first_n n.load live restorable _ _ m (λ e k. tells-live e (omega arith)) (λ e k. tells-restorable e (omega arith))

    -- n = E gives the sums of the line, which are those of `sums_after`
    pub line_at_E : sums_after (net_of n) c ≡ sums_over (at n.load) (is_in live) (is_in restorable) n.elements
    line_at_E = Loads.loads_same (sums_after_E c) (sums_up_to_E n.elements (omega arith))

  -- in every safe configuration that keeps the fixed links closed they add up to the loads of the first m elements
  module _ (c : Config) (kept : FixedClosed (net_of n) c) (safe : Safe (net_of n).grid c) where
    pub add_up : (m : ℕ) → m ≤ (net_of n).grid.E → (l : Sums) → FirstLoads (net_of n) c m l → l.fed + l.dark + l.lost ≡ sum_to m (net_of n).grid.load
    add_up = Loads.balance (net_of n) (formed_net n (file_formed s bytes n accepted.file)) c kept safe

    pub add_up_all : (l : Sums) → FirstLoads (net_of n) c (net_of n).grid.E l → l.fed + l.dark + l.lost ≡ total_load (net_of n).grid
    unfolding total_load
    add_up_all l x = add_up (net_of n).grid.E (omega arith) l x

  -- ---- "and no printed byte changes.": the line has the sums over all E elements, and these, however they are made, give the same text

  -- after the plan
  pub plan_line_lem : (q : List Step) (cost : ℕ) (l : Sums) → plan_text s ≡ plan_text_of q cost l → FirstLoads (net_of n) (run (net_of n).start_closed q) (net_of n).grid.E l
  plan_line_lem q cost l printed = (Demand2.plan_loads s bytes n accepted q cost l printed).sums

  pub plan_unchanged : (q : List Step) (cost : ℕ) (l m : Sums) → plan_text s ≡ plan_text_of q cost l
      → FirstLoads (net_of n) (run (net_of n).start_closed q) (net_of n).grid.E m → plan_text s ≡ plan_text_of q cost m
  plan_unchanged q cost l m printed x = printed ∙ ap (plan_text_of q cost) (Loads.loads_same (plan_line_lem q cost l printed) x)

  -- at the start for NONE
  pub none_line : (l : Sums) → plan_text s ≡ none_lines l → FirstLoads (net_of n) (net_of n).start_closed (net_of n).grid.E l
  none_line l printed = (Demand2.none_loads s bytes n accepted l printed).sums

  pub none_unchanged : (l m : Sums) → plan_text s ≡ none_lines l → FirstLoads (net_of n) (net_of n).start_closed (net_of n).grid.E m → plan_text s ≡ none_lines m
  none_unchanged l m printed x = printed ∙ ap none_lines (Loads.loads_same (none_line l printed) x)
