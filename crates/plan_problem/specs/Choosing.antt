-- Document 01, "The printed plan": which set of switches is operated; and demands 2 and 3 for a plan. Names that end in By are for any
-- operable set, goal and cost; document 01's case stands below them.
-- Assumes nothing.
use Rattle.std.specs.Prelude.{◌≡◌, Bool, true, false, List, [], ◌∷◌, ◌⊎◌, ℕ, ◌≤◌, ◌<◌, leb}
use Rattle.feeding.specs.Below.{gate}
use Rattle.feeding.specs.Networks.{Net}
use Rattle.feeding.specs.Parts.{Config}
use Rattle.feeding.specs.Restoration.{Operable, Restored, operables_by, restored?}
use Rattle.feeding.specs.Plans.{Step, Valid, operations, printed_form, put, flip}
use Rattle.feeding.specs.Costs.{cost_of, set_cost}
use Rattle.feeding.specs.Safety.{safe?}
use Rattle.feeding.specs.Tasks.{Task, restoration}

-- D is a set of operable switches, and its printed form is a valid plan
pub record RestoresBy (net : Net) (op : ℕ → Type 0) (goal : Config → Type 0) (D : ℕ → Bool) : Type 0 where
  pub operable : (l : ℕ) → D l ≡ true → op l
  pub valid : Valid net op goal (printed_form net D)

-- "at the lowest link number found in only one of the two sets, the set that has it comes first": D comes before D'
pub record Before (D D' : ℕ → Bool) : Type 0 where
  pub at : ℕ
  pub has : D at ≡ true
  pub lacks : D' at ≡ false
  pub alike : (m : ℕ) → m < at → D m ≡ D' m

-- "Among the cheapest valid plans of that form, compare the sets of switches operated" .. "The plan whose set comes before all others is
-- printed."
pub record PickedBy (net : Net) (op : ℕ → Type 0) (goal : Config → Type 0) (price : List Step → ℕ) (D : ℕ → Bool) : Type 0 where
  pub restores : RestoresBy net op goal D
  pub cheapest : (D' : ℕ → Bool) → RestoresBy net op goal D' → price (printed_form net D) ≤ price (printed_form net D')
  pub first : (D' : ℕ → Bool) → RestoresBy net op goal D' → price (printed_form net D') ≡ price (printed_form net D) → (D ≡ D') ⊎ Before D D'

-- no valid plan costs less than q
abbrev pub NoneCheaperBy : (net : Net) (op : ℕ → Type 0) (goal : Config → Type 0) (price : List Step → ℕ) → List Step → Type 0
NoneCheaperBy net op goal price q = (q' : List Step) → Valid net op goal q' → price q ≤ price q'

-- demand 3 for one list of steps: it costs at least the printed cost, and exactly that if and only if no valid plan costs less than it
pub record NoCheaperThanBy (net : Net) (op : ℕ → Type 0) (goal : Config → Type 0) (price : List Step → ℕ) (cost : ℕ) (q : List Step) : Type 0 where
  pub at_least : cost ≤ price q
  pub none_cheaper : price q ≡ cost → NoneCheaperBy net op goal price q
  pub equal : NoneCheaperBy net op goal price q → price q ≡ cost

-- demands 2 and 3 for a printed plan and its printed cost
pub record PromisedBy (net : Net) (op : ℕ → Type 0) (goal : Config → Type 0) (price : List Step → ℕ) (plan : List Step) (cost : ℕ) : Type 0 where
  pub valid : Valid net op goal plan
  pub set : ℕ → Bool
  -- "first the openings, then the closings, each group by rising link number"
  pub form : plan ≡ printed_form net set
  -- "It operates each of its switches once"
  pub once : (l : ℕ) → operations l plan ≡ gate (set l) 1
  -- "the cost printed with it is its own"
  pub own : cost ≡ price plan
  -- "the printed plan is the one that document 01 picks"
  pub picked : PickedBy net op goal price set
  -- "whatever list of steps anybody draws up"
  pub every : (q : List Step) → Valid net op goal q → NoCheaperThanBy net op goal price cost q

-- demand 2 for NONE: no list of steps is a valid plan
abbrev pub NoPlanBy : (net : Net) (op : ℕ → Type 0) (goal : Config → Type 0) → Type 0
NoPlanBy net op goal = (q : List Step) → ¬ Valid net op goal q

-- a valid plan has this cost, and no valid plan has less
pub record CostsLeastBy (net : Net) (op : ℕ → Type 0) (goal : Config → Type 0) (price : List Step → ℕ) (cost : ℕ) : Type 0 where
  pub plan : List Step
  pub valid : Valid net op goal plan
  pub own : price plan ≡ cost
  pub least : (q : List Step) → Valid net op goal q → cost ≤ price q

-- ---- document 01: its operable switches, every restorable element live at the end, and the cost of a plan

abbrev pub Restores : Net → (ℕ → Bool) → Type 0
Restores net D = RestoresBy net (Operable net) (Restored net) D

abbrev pub Picked : Net → (ℕ → Bool) → Type 0
Picked net D = PickedBy net (Operable net) (Restored net) (cost_of net) D

abbrev pub NoneCheaper : Net → List Step → Type 0
NoneCheaper net q = NoneCheaperBy net (Operable net) (Restored net) (cost_of net) q

abbrev pub NoCheaperThan : Net → ℕ → List Step → Type 0
NoCheaperThan net cost q = NoCheaperThanBy net (Operable net) (Restored net) (cost_of net) cost q

abbrev pub Promised : Net → List Step → ℕ → Type 0
Promised net plan cost = PromisedBy net (Operable net) (Restored net) (cost_of net) plan cost

abbrev pub NoPlan : Net → Type 0
NoPlan net = NoPlanBy net (Operable net) (Restored net)

abbrev pub CostsLeast : Net → ℕ → Type 0
CostsLeast net cost = CostsLeastBy net (Operable net) (Restored net) (cost_of net) cost

-- ---- what computes: the plain recursion over all sets of the switches of a list, for any preference between sets and any test of a set

pub data Choice : Type 0 where
  nothing : Choice
  chosen : (ℕ → Bool) → Choice

-- the first of two where the answer is true, the second where it is false
unfoldable pub first_if : Bool → Choice → Choice → Choice
first_if t x y = elim t [ true ↦ x | false ↦ y ]

-- whether the first of two sets is taken where it comes before the second
abbrev pub Preference : Type 0
Preference = (ℕ → Bool) → (ℕ → Bool) → Bool

-- by the least cost: the first costs no more
unfoldable pub no_dearer : ((ℕ → Bool) → ℕ) → Preference
no_dearer cost a b = leb (cost a) (cost b)

-- the one preferred of two; the first where neither is better
unfoldable pub better : Preference → Choice → Choice → Choice
better prefers nothing y = y
better prefers (chosen a) nothing = chosen a
better prefers (chosen a) (chosen b) = first_if (prefers a b) (chosen a) (chosen b)

-- the best set that works, over the switches of the list, and like D elsewhere; a set that has the next switch comes first
unfoldable pub best : Preference → (works : (ℕ → Bool) → Bool) → (ℕ → Bool) → List ℕ → Choice
best prefers works D [] = first_if (works D) (chosen D) nothing
best prefers works D (l ∷ ls) = better prefers (best prefers works (put D l true) ls) (best prefers works (put D l false) ls)

-- ---- for a task

-- the configuration with the switches of D operated is safe and meets the goal
unfoldable pub works_by : (net : Net) → (Config → Bool) → (ℕ → Bool) → Bool
works_by net meets D = elim (safe? net.grid (flip net.start_closed D)) [ true ↦ meets (flip net.start_closed D) | false ↦ false ]

-- the cheapest that works, over all sets of operable switches
unfoldable pub planned_by : (net : Net) → Task net → Choice
planned_by net t = best (no_dearer t.set_cost) (works_by net t.meets?) (λ _. false) (operables_by net t.operable?)

-- a plan is a list of steps, however it was found; or there is none
pub data Planning : Type 0 where
  unplanned : Planning
  by : List Step → Planning

-- the printed form of the set that is chosen
unfoldable pub printed_plan : Net → Choice → Planning
printed_plan net nothing = unplanned
printed_plan net (chosen D) = by (printed_form net D)

-- ---- document 01

abbrev pub works? : Net → (ℕ → Bool) → Bool
works? net D = works_by net (restored? net) D

-- over the switches of any list
abbrev pub restored_over : Net → List ℕ → Choice
restored_over net ls = best (no_dearer (set_cost net)) (works? net) (λ _. false) ls

abbrev pub planned : Net → Choice
planned net = planned_by net (restoration net)

abbrev pub planning : Net → Planning
planning net = printed_plan net (planned net)
