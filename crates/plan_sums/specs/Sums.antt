-- Document 01, "Printed lines": the sums of the LOAD line in a configuration; document 02, item 3: over the first n elements, for any n up to E.
-- Assumes nothing.
use Rattle.std.specs.Prelude.{◌≡◌, Bool, true, not, ◌&&◌, List, ℕ, ◌+◌, ◌^◌, ◌<◌, ◌≤◌, length}
use Rattle.feeding.specs.Below.{gate, sum_to}
use Rattle.feeding.specs.Networks.{Net, at}
use Rattle.feeding.specs.Parts.{Config, Live, live?}
use Rattle.feeding.specs.Restoration.{Restorable, restorable?, total_load}
use Rattle.plan_sums.specs.declared.Sums.{Sums}

-- the loads of those of the first n elements that pass the test
abbrev pub load_over : (load : ℕ → ℕ) (test : ℕ → Bool) → ℕ → ℕ
load_over load test n = sum_to n (λ e. gate (test e) (load e))

-- ---- what the papers say

-- x is the sum of the loads of those of the first n elements of which P holds: a test tells which they are
pub record LoadOf (load : ℕ → ℕ) (P : ℕ → Type 0) (n x : ℕ) : Type 0 where
  pub test : ℕ → Bool
  pub tells : (e : ℕ) → e < n → test e ≡ true → P e
  pub told : (e : ℕ) → e < n → P e → test e ≡ true
  pub sum : x ≡ load_over load test n

-- "all three over the first n elements": whichever elements L says are live and R says are restorable, each sum asks every one of the n
pub record LoadsOver (load : ℕ → ℕ) (L R : ℕ → Type 0) (n : ℕ) (l : Sums) : Type 0 where
  pub fed : LoadOf load L n l.fed
  pub dark : LoadOf load (λ e. R e × ¬ L e) n l.dark
  pub lost : LoadOf load (λ e. ¬ R e) n l.lost

-- the same in a configuration of a network
abbrev pub FirstLoads : Net → Config → ℕ → Sums → Type 0
FirstLoads net c = LoadsOver net.grid.load (Live net.grid c) (Restorable net)

-- "Fed sums the loads of elements live after the plan (at the start for NONE), dark those of restorable elements then dark, lost those of
-- elements that aren't restorable. Their sum equals the total of all own loads."
pub record LoadsIn (net : Net) (c : Config) (l : Sums) : Type 0 where
  pub sums : FirstLoads net c net.grid.E l
  pub total : l.fed + l.dark + l.lost ≡ total_load net.grid

-- ---- what computes

-- the three sums over the first n elements, by tests of what is live and what is restorable
unfoldable pub sums_over : (load : ℕ → ℕ) (live restorable : ℕ → Bool) → ℕ → Sums
sums_over load live restorable n =
    record {
      fed = load_over load live n;
      dark = load_over load (λ e. restorable e && not (live e)) n;
      lost = load_over load (λ e. not (restorable e)) n;
    }

-- over all elements
unfoldable pub sums_after : Net → Config → Sums
sums_after net c = sums_over net.grid.load (live? net.grid c) (restorable? net) net.grid.E

-- the lists reach over the first n of at most 64 elements, whose loads are below 2 ^ 32
pub record LoadsReach (load live restorable : List ℕ) (n : ℕ) : Type 0 where
  pub fit : n ≤ 64
  pub load_long : n ≤ length load
  pub live_long : n ≤ length live
  pub restorable_long : n ≤ length restorable
  pub load_in_lem : (e : ℕ) → e < n → at load e < 2 ^ 32
