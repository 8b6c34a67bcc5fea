-- Document 01, "Feeding": a valid plan; and "The printed plan": its form. The operable set is a parameter, and so is the cost.
-- Assumes nothing.
use Rattle.std.specs.Prelude.{◌≡◌, Bool, true, false, not, cond, ◌&&◌, List, [], ◌∷◌, ◌++◌, ℕ, zero, suc, ◌+◌, ◌≤◌, eqb}
use Rattle.feeding.specs.Below.{gate}
use Rattle.feeding.specs.Networks.{Net}
use Rattle.feeding.specs.Parts.{Config}
use Rattle.feeding.specs.Safety.{Safe, safe?}
use Rattle.feeding.specs.Restoration.{Operable, operable?, Restored, restored?}

pub record Step : Type 0 where
  pub link : ℕ
  pub want : Bool

-- the configuration c with the link l in the state w
unfoldable pub put : Config → ℕ → Bool → Config
put c l w m = cond (eqb m l) w (c m)

-- the configuration that the steps reach
unfoldable pub run : Config → List Step → Config
run c [] = c
run c (s ∷ q) = run (put c s.link s.want) q

-- "Each step operates an operable switch that is not yet in the state wanted, each configuration reached is safe"
pub record GoodStep (net : Net) (op : ℕ → Type 0) (c : Config) (s : Step) : Type 0 where
  pub operable : op s.link
  pub changes : c s.link ≡ not s.want
  pub safe : Safe net.grid (put c s.link s.want)

unfoldable pub Good : Net → (ℕ → Type 0) → Config → List Step → Type 0
Good net op c [] = Unit {0}
Good net op c (s ∷ q) = GoodStep net op c s × Good net op (put c s.link s.want) q

-- "A valid plan is a finite sequence of steps from the starting configuration", whose last configuration meets the goal
pub record Valid (net : Net) (op : ℕ → Type 0) (goal : Config → Type 0) (q : List Step) : Type 0 where
  pub good : Good net op net.start_closed q
  pub meets : goal (run net.start_closed q)

-- the plans of document 01: its operable switches, and "in the last one every restorable element is live"
abbrev pub ValidPlan : Net → List Step → Type 0
ValidPlan net q = Valid net (Operable net) (Restored net) q

-- ---- what computes

-- two states are not the same
abbrev pub differ : Bool → Bool → Bool
differ true b = not b
differ false b = b

unfoldable pub good_step? : Net → (ℕ → Bool) → Config → Step → Bool
good_step? net op c s = op s.link && (differ (c s.link) s.want && safe? net.grid (put c s.link s.want))

unfoldable pub good? : Net → (ℕ → Bool) → Config → List Step → Bool
good? net op c [] = true
good? net op c (s ∷ q) = good_step? net op c s && good? net op (put c s.link s.want) q

unfoldable pub valid? : Net → List Step → Bool
valid? net q = good? net (operable? net) net.start_closed q && restored? net (run net.start_closed q)

-- ---- the printed form

-- how often a list of steps operates the link l
unfoldable pub operations : ℕ → List Step → ℕ
operations l [] = zero
operations l (s ∷ q) = gate (eqb s.link l) 1 + operations l q

-- the links below n that `pick` has, by rising number, each put into the state w
unfoldable pub sweep : Bool → (ℕ → Bool) → ℕ → List Step
sweep w pick zero = []
sweep w pick (suc n) = sweep w pick n ++ cond (pick n) (record { link = n; want = w } ∷ []) []

-- "It operates each of its switches once: first the openings, then the closings, each group by rising link number", for the set D
unfoldable pub printed_form : Net → (ℕ → Bool) → List Step
printed_form net D = sweep false (λ l. D l && net.start_closed l) net.grid.K ++ sweep true (λ l. D l && not (net.start_closed l)) net.grid.K

-- the configuration c with the switches of the set D operated
unfoldable pub flip : Config → (ℕ → Bool) → Config
flip c D l = differ (c l) (D l)

-- the switches whose state a list of steps leaves changed
unfoldable pub changed : Net → List Step → ℕ → Bool
changed net q l = differ (net.start_closed l) (run net.start_closed q l)

-- what demand 3 rests on: the printed form of the switches that q leaves changed is valid, operates each of them once, and costs no more
pub record Matched (net : Net) (op : ℕ → Type 0) (goal : Config → Type 0) (price : List Step → ℕ) (q : List Step) : Type 0 where
  pub valid : Valid net op goal (printed_form net (changed net q))
  pub once : (l : ℕ) → operations l (printed_form net (changed net q)) ≡ gate (changed net q l) 1
  pub cheaper : price (printed_form net (changed net q)) ≤ price q
