-- Document 01, the judge's marks: BROKEN, SHORT and VALID for a list of steps. Operable set and cost are parameters; what computes takes the cheapest cost too.
-- Assumes nothing.
use Rattle.std.specs.Prelude.{◌≡◌, Bool, true, false, not, ◌&&◌, List, [], ◌∷◌, ◌++◌, ℕ, suc, ◌+◌, ◌-◌, ◌≤◌, ◌<◌, ltb, length, Result, Ok, Err}
use Rattle.network.specs.Refusals.{pick}
use Rattle.feeding.specs.Below.{Lowest, lowest}
use Rattle.feeding.specs.Networks.{Net}
use Rattle.feeding.specs.Parts.{Config, Live, live?}
use Rattle.feeding.specs.Safety.{Safe, safe?}
use Rattle.feeding.specs.Restoration.{Restorable, Operable, Restored, restorable?, operable?}
use Rattle.feeding.specs.Tasks.{Task, restoration}
use Rattle.feeding.specs.Plans.{Step, Good, Valid, put, run, differ}
use Rattle.feeding.specs.Costs.{cost_of}
use Rattle.plan_problem.specs.Choosing.{CostsLeastBy, Planning, unplanned, by, planned_by, printed_plan}
use Rattle.judge_marks.specs.declared.Reason.{Reason}
use Rattle.judge_marks.specs.declared.Reason.TheVariants.{NotOperable, AlreadySo, Unsafe}
use Rattle.judge_marks.specs.declared.BadStep.{BadStep}
use Rattle.judge_marks.specs.declared.Standing.{Standing}
use Rattle.judge_marks.specs.declared.Standing.TheVariants as Standing·
use Rattle.judge_marks.specs.declared.Score.{Score}
use Rattle.judge_marks.specs.declared.Mark.{Mark}
use Rattle.judge_marks.specs.declared.Mark.TheVariants as Mark·

-- "1 not an operable switch, 2 already so, 3 unsafe afterwards"
abbrev pub reason_number : Reason → ℕ
reason_number NotOperable = 1
reason_number AlreadySo = 2
reason_number Unsafe = 3

-- the reason fits the step s in the configuration c
abbrev pub Fits : Net → (ℕ → Type 0) → Config → Step → Reason → Type 0
Fits net op c s NotOperable = ¬ op s.link
Fits net op c s AlreadySo = c s.link ≡ s.want
Fits net op c s Unsafe = ¬ Safe net.grid (put c s.link s.want)

-- "the lowest reason that fits"
pub record LowestReason (net : Net) (op : ℕ → Type 0) (c : Config) (s : Step) (r : Reason) : Type 0 where
  pub fits : Fits net op c s r
  pub lowest : (r' : Reason) → Fits net op c s r' → reason_number r ≤ reason_number r'

-- "BROKEN step reason for the first bad step": those before it are good, and steps are numbered from 1
pub record BrokenBy (net : Net) (op : ℕ → Type 0) (q : List Step) (b : BadStep) : Type 0 where
  pub front : List Step
  pub bad : Step
  pub rest : List Step
  pub whole : q ≡ front ++ (bad ∷ rest)
  pub number : b.step ≡ length front + 1
  pub good : Good net op net.start_closed front
  pub reason : LowestReason net op (run net.start_closed front) bad b.reason

-- a restorable element that is dark
pub record StillDark (net : Net) (c : Config) (e : ℕ) : Type 0 where
  pub restorable : Restorable net e
  pub dark : ¬ Live net.grid c e

-- "SHORT element: all steps good, the lowest restorable element still dark"
pub record ShortBy (net : Net) (op : ℕ → Type 0) (q : List Step) (e : ℕ) : Type 0 where
  pub good : Good net op net.start_closed q
  pub below : e < net.grid.E
  pub lowest : Lowest net.grid.E (StillDark net (run net.start_closed q)) e

-- "VALID cost excess: its cost, and its cost minus the cheapest"
pub record ValidBy (net : Net) (op : ℕ → Type 0) (price : List Step → ℕ) (q : List Step) (v : Score) : Type 0 where
  pub valid : Valid net op (Restored net) q
  pub own : v.cost ≡ price q
  pub cheapest : ℕ
  pub least : CostsLeastBy net op (Restored net) price cheapest
  pub above : v.cost ≡ cheapest + v.excess

-- what a list of steps is marked; the refusals of an input are in the specs of `judge`
pub data MarkedBy (net : Net) (op : ℕ → Type 0) (price : List Step → ℕ) (q : List Step) : Mark → Type 0 where
  broken : {b : BadStep} → BrokenBy net op q b → MarkedBy net op price q (Mark·.Broken b)
  short : {e : ℕ} → ShortBy net op q e → MarkedBy net op price q (Mark·.Short e)
  valid : {v : Score} → ValidBy net op price q v → MarkedBy net op price q (Mark·.Valid v)

-- ---- document 01: its operable switches, and the cost of a plan

abbrev pub Marked : Net → List Step → Mark → Type 0
Marked net q m = MarkedBy net (Operable net) (cost_of net) q m

-- ---- what computes, for any operable test, cost and cheapest cost

-- step number i, by three tests: whether it operates an operable switch, whether it changes the state, whether what it reaches is safe
unfoldable pub examined : ℕ → Bool → Bool → Bool → Result Unit BadStep
examined i false changes safe = Err (record { step = i; reason = NotOperable })
examined i true false safe = Err (record { step = i; reason = AlreadySo })
examined i true true false = Err (record { step = i; reason = Unsafe })
examined i true true true = Ok tt

-- the first that is bad
unfoldable pub first_bad : Result Unit BadStep → Result Unit BadStep → Result Unit BadStep
first_bad (Ok tt) rest = rest
first_bad (Err b) rest = Err b

-- one step in the configuration c
unfoldable pub step_examined : Net → (ℕ → Bool) → Config → ℕ → Step → Result Unit BadStep
step_examined net op c i s = examined i (op s.link) (differ (c s.link) s.want) (safe? net.grid (put c s.link s.want))

-- the steps from number i on, which stands in the configuration c
unfoldable pub steps_examined : Net → (ℕ → Bool) → Config → ℕ → List Step → Result Unit BadStep
steps_examined net op c i [] = Ok tt
steps_examined net op c i (s ∷ q) = first_bad (step_examined net op c i s) (steps_examined net op (put c s.link s.want) (suc i) q)

-- the lowest restorable element that is dark; E where there is none
unfoldable pub dark_place : Net → Config → ℕ
dark_place net c = lowest net.grid.E (λ e. restorable? net e && not (live? net.grid c e))

-- where all steps are good, by the lowest element still dark; complete, with its cost, where none is
unfoldable pub standing_at : Net → ℕ → ℕ → Standing
standing_at net cost dark = elim (ltb dark net.grid.E) [ true ↦ Standing·.Short dark | false ↦ Standing·.Complete cost ]

unfoldable pub standing_after : Net → (List Step → ℕ) → List Step → Result Unit BadStep → Standing
standing_after net price q (Ok tt) = standing_at net (price q) (dark_place net (run net.start_closed q))
standing_after net price q (Err b) = Standing·.Broken b

-- how a list of steps stands before the cheapest cost is known
unfoldable pub standing_by : Net → (ℕ → Bool) → (List Step → ℕ) → List Step → Standing
standing_by net op price q = standing_after net price q (steps_examined net op net.start_closed 1 q)

-- the cheapest cost is asked for
unfoldable pub complete? : Standing → Bool
complete? (Standing·.Broken b) = false
complete? (Standing·.Short e) = false
complete? (Standing·.Complete cost) = true

-- VALID with a cost, and what of it is above the cheapest cost
unfoldable pub scored_at : ℕ → ℕ → Mark
scored_at cheapest cost = Mark·.Valid (record { cost = cost; excess = cost - cheapest })

unfoldable pub mark_with : ℕ → Standing → Mark
mark_with cheapest (Standing·.Broken b) = Mark·.Broken b
mark_with cheapest (Standing·.Short e) = Mark·.Short e
mark_with cheapest (Standing·.Complete cost) = scored_at cheapest cost

-- where a plan stands complete, it costs at least this
abbrev pub AtMost : ℕ → Standing → Type 0
AtMost least found = (cost : ℕ) → found ≡ Standing·.Complete cost → least ≤ cost

unfoldable pub mark_by : Net → (ℕ → Bool) → (List Step → ℕ) → ℕ → List Step → Mark
mark_by net op price cheapest q = mark_with cheapest (standing_by net op price q)

-- ---- for a task

-- the cost of the cheapest valid plan; 0 where there is none, and then no list of steps comes so far
unfoldable pub cost_in : (List Step → ℕ) → Planning → ℕ
cost_in price unplanned = 0
cost_in price (by q) = price q

unfoldable pub cheapest_under : (net : Net) → Task net → ℕ
cheapest_under net t = cost_in t.cost (printed_plan net (planned_by net t))

unfoldable pub mark_under : (net : Net) → Task net → List Step → Mark
mark_under net t q = mark_by net t.operable? t.cost (cheapest_under net t) q

-- ---- document 01

abbrev pub cheapest_cost : Net → ℕ
cheapest_cost net = cheapest_under net (restoration net)

-- where it is asked for
unfoldable pub cost_asked : Net → Bool → ℕ
cost_asked net asked = pick asked (cheapest_cost net) 0

abbrev pub standing_of : Net → List Step → Standing
standing_of net q = standing_by net (operable? net) (cost_of net) q

abbrev pub mark_of : Net → List Step → Mark
mark_of net q = mark_under net (restoration net) q
