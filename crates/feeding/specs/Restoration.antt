-- Document 01, "Feeding": spoiled, restorable and operable; and "Printed lines": the total of all own loads.
-- Assumes nothing.
use Rattle.std.specs.Prelude.{◌≡◌, Bool, true, false, not, ◌&&◌, ◌||◌, ◌⊎◌, List, ℕ, ◌<◌, ltb, length}
use Rattle.feeding.specs.Below.{Member, Rising, any_to, all_to, imp, sum_to, those}
use Rattle.feeding.specs.Networks.{Grid, Net}
use Rattle.feeding.specs.Parts.{Config, touches, far, Joined, Live, joined?, live?}

-- "Fixed links are always closed."
abbrev pub FixedClosed : Net → Config → Type 0
FixedClosed net c = (l : ℕ) → l < net.grid.K → net.fixed l ≡ true → c l ≡ true

-- "An element is spoiled if fixed links alone join it to a faulty one, or it is faulty."
pub record Spoiled (net : Net) (e : ℕ) : Type 0 where
  pub fault : ℕ
  pub below : fault < net.grid.E
  pub faulty : net.grid.faulty fault ≡ true
  pub joined : Joined net.grid net.fixed fault e

-- "An element is restorable if it isn't spoiled and a path of links of any form or state, through unspoiled elements only, joins it to an
-- unspoiled source. Such a source is itself restorable."
pub data Restorable (net : Net) : ℕ → Type 0 where
  itself : {s : ℕ} → s < net.grid.E → net.grid.source s ≡ true → ¬ Spoiled net s → Restorable net s
  beside : {e : ℕ} (l : ℕ) → l < net.grid.K → touches net.grid l e ≡ true → ¬ Spoiled net e → Restorable net (far net.grid l e) → Restorable net e

-- "dark and restorable in the starting configuration"
pub record Waits (net : Net) (e : ℕ) : Type 0 where
  pub dark : ¬ Live net.grid net.start_closed e
  pub restorable : Restorable net e

-- "A switch is operable if one of its ends is dark and restorable in the starting configuration."
pub record Operable (net : Net) (l : ℕ) : Type 0 where
  pub below : l < net.grid.K
  pub switch : net.fixed l ≡ false
  pub waits : Waits net (net.grid.end_a l) ⊎ Waits net (net.grid.end_b l)

-- n switches are operable, where `op` says which are: a list by rising number has them all, and n entries
pub record Operables (op : ℕ → Type 0) (n : ℕ) : Type 0 where
  pub list : List ℕ
  pub rising : Rising list
  pub only : (l : ℕ) → Member l list → op l
  pub all : (l : ℕ) → op l → Member l list
  pub count : n ≡ length list

-- "every restorable element is live"
abbrev pub Restored : Net → Config → Type 0
Restored net c = (e : ℕ) → e < net.grid.E → Restorable net e → Live net.grid c e

-- ---- what computes

unfoldable pub spoiled? : Net → ℕ → Bool
spoiled? net e = any_to net.grid.E (λ f. net.grid.faulty f && joined? net.grid net.fixed f e)

-- a link between unspoiled elements
unfoldable pub clean : Net → Config
clean net l = not (spoiled? net (net.grid.end_a l)) && not (spoiled? net (net.grid.end_b l))

unfoldable pub restorable? : Net → ℕ → Bool
restorable? net e =
    not (spoiled? net e)
    && any_to net.grid.E (λ s. (net.grid.source s && not (spoiled? net s)) && joined? net.grid (clean net) s e)

unfoldable pub waits? : Net → ℕ → Bool
waits? net e = restorable? net e && not (live? net.grid net.start_closed e)

unfoldable pub operable? : Net → ℕ → Bool
operable? net l = ltb l net.grid.K && (not (net.fixed l) && (waits? net (net.grid.end_a l) || waits? net (net.grid.end_b l)))

-- the switches that pass a test, by rising number; the operable ones
unfoldable pub operables_by : Net → (ℕ → Bool) → List ℕ
operables_by net op = those net.grid.K op

abbrev pub operables : Net → List ℕ
operables net = operables_by net (operable? net)

unfoldable pub restored? : Net → Config → Bool
restored? net c = all_to net.grid.E (λ e. imp (restorable? net e) (live? net.grid c e))

-- "the total of all own loads"
unfoldable pub total_load : Grid → ℕ
total_load g = sum_to g.E g.load
