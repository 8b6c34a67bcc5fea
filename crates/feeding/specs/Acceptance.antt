-- Document 01, refusals 14 to 18: what a network that passed rules 1 to 13 and 20 is answered.
-- Assumes nothing.
use Rattle.std.specs.Prelude.{true, false, ℕ, ◌<◌, ◌≤◌, ltb, length, Result, Ok, Err}
use Rattle.network.specs.declared.refusal.Refusal.{Refusal}
use Rattle.network.specs.declared.Network.{Network}
use Rattle.network.specs.declared.refusal.Rule.{Rule}
use Rattle.network.specs.declared.refusal.Rule.TheVariants.{NotATree, TwoSources, FaultWithSource, Overloaded, TooManyOperable}
use Rattle.feeding.specs.Networks.{Grid, Net, net_of}
use Rattle.feeding.specs.Parts.{Config}
use Rattle.feeding.specs.Below.{Lowest}
use Rattle.feeding.specs.Loads.{lowest_over}
use Rattle.feeding.specs.Loads as Loads
use Rattle.feeding.specs.Safety.{Tree, Paired, FaultLive, Safe, tree_place, pair_place, fault_place}
use Rattle.feeding.specs.Restoration.{Operable, Operables, operables_by}
use Rattle.feeding.specs.Tasks.{Task, most_operable, restoration}

-- What the paper says, rule by rule in its order, for any operable set and limit: each refusal with its place, where the rules before it are kept. `acceptance_answered`
-- and `answered_acceptance` say that `acceptance` gives this answer and no other.
pub data AnsweredBy (net : Net) (op : ℕ → Type 0) (limit : ℕ) : Result Unit Refusal → Type 0 where
  -- "14. At the start a part isn't a tree (the lowest element of such a part)."
  not_a_tree : {p : ℕ}
      → p < net.grid.E
      → Lowest net.grid.E (λ e. ¬ Tree net.grid net.start_closed e) p
      → AnsweredBy net op limit (Err (record { rule = NotATree; place = p }))
  -- "15. At the start a part has two sound sources (the lowest such source)."
  two_sources : {p : ℕ}
      → ((e : ℕ) → e < net.grid.E → Tree net.grid net.start_closed e)
      → p < net.grid.E
      → Lowest net.grid.E (Paired net.grid net.start_closed) p
      → AnsweredBy net op limit (Err (record { rule = TwoSources; place = p }))
  -- "16. At the start a part has a faulty element and a sound source (the lowest such faulty element)."
  fault_with_source : {p : ℕ}
      → ((e : ℕ) → e < net.grid.E → Tree net.grid net.start_closed e)
      → ((e : ℕ) → e < net.grid.E → ¬ Paired net.grid net.start_closed e)
      → p < net.grid.E
      → Lowest net.grid.E (FaultLive net.grid net.start_closed) p
      → AnsweredBy net op limit (Err (record { rule = FaultWithSource; place = p }))
  -- "17. At the start a live element is loaded above its capacity (the lowest such element)."
  overloaded : {p : ℕ}
      → ((e : ℕ) → e < net.grid.E → Tree net.grid net.start_closed e)
      → ((e : ℕ) → e < net.grid.E → ¬ Paired net.grid net.start_closed e)
      → ((e : ℕ) → e < net.grid.E → ¬ FaultLive net.grid net.start_closed e)
      → p < net.grid.E
      → Lowest net.grid.E (Loads.Overloaded net.grid net.start_closed) p
      → AnsweredBy net op limit (Err (record { rule = Overloaded; place = p }))
  -- "18. More than 12 switches are operable (their count)."
  too_many : {n : ℕ}
      → Safe net.grid net.start_closed
      → Operables op n
      → limit < n
      → AnsweredBy net op limit (Err (record { rule = TooManyOperable; place = n }))
  accepted : {n : ℕ} → Safe net.grid net.start_closed → Operables op n → n ≤ limit → AnsweredBy net op limit (Ok tt)

abbrev pub Answered : Net → Result Unit Refusal → Type 0
Answered net a = AnsweredBy net (Operable net) most_operable a

-- what acceptance promises: a safe start, and no more operable switches than the limit
pub record StartsBy (net : Net) (t : Task net) : Type 0 where
  pub safe : Safe net.grid net.start_closed
  pub few : length (operables_by net t.operable?) ≤ t.limit

abbrev pub Starts : Net → Type 0
Starts net = StartsBy net (restoration net)

-- ---- what computes

-- the rule is broken where the place is an element, else the rest decides
unfoldable pub broken_at : Grid → Rule → ℕ → Result Unit Refusal → Result Unit Refusal
broken_at g r p rest = elim (ltb p g.E) [ true ↦ Err (record { rule = r; place = p }) | false ↦ rest ]

-- rules 14 to 17 in a configuration
unfoldable pub safety : Grid → Config → Result Unit Refusal
safety g c =
    broken_at g NotATree (tree_place g c)
    (broken_at g TwoSources (pair_place g c)
    (broken_at g FaultWithSource (fault_place g c)
    (broken_at g Overloaded (lowest_over g c)
    (Ok tt))))

-- rule 18, by the limit and the count
unfoldable pub limited : ℕ → ℕ → Result Unit Refusal
limited limit count = elim (ltb limit count) [ true ↦ Err (record { rule = TooManyOperable; place = count }) | false ↦ (Ok tt) ]

-- the second answer where the first accepts
unfoldable pub and_then : Result Unit Refusal → Result Unit Refusal → Result Unit Refusal
and_then (Ok tt) rest = rest
and_then (Err r) rest = Err r

-- "At the start"
unfoldable pub acceptance_by : (net : Net) → Task net → Result Unit Refusal
acceptance_by net t = and_then (safety net.grid net.start_closed) (limited t.limit (length (operables_by net t.operable?)))

abbrev pub acceptance : Net → Result Unit Refusal
acceptance net = acceptance_by net (restoration net)

abbrev pub answer_to : Network → Result Unit Refusal
answer_to n = acceptance (net_of n)
