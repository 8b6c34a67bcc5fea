-- Document 01, "Feeding" and "The printed plan": what a plan is asked, in one record. Another task has other operable switches, more or fewer of them,
-- another goal or another cost; document 01's is one value.
-- Assumes nothing.
use Rattle.std.specs.Prelude.{◌≡◌, Bool, true, List, ℕ, ◌<◌}
use Rattle.feeding.specs.Networks.{Net}
use Rattle.feeding.specs.Parts.{Config}
use Rattle.feeding.specs.Restoration.{Operable, operable?, Restored, restored?}
use Rattle.feeding.specs.Plans.{Step}
use Rattle.feeding.specs.Costs.{cost_of, set_cost, Pricing}

-- the switches that may be operated, by the paper's words and by a test; how many there may be; what the last configuration has to meet, by words and by
-- a test; and what a list of steps and a set of switches cost
pub record Task (net : Net) : Type 1 where
  pub operable : ℕ → Type 0
  pub operable? : ℕ → Bool
  pub limit : ℕ
  pub goal : Config → Type 0
  pub meets? : Config → Bool
  pub cost : List Step → ℕ
  pub set_cost : (ℕ → Bool) → ℕ

-- the tests tell what the words say, and the two costs agree
pub record Lawful (net : Net) (t : Task net) : Type 0 where
  pub inside : (l : ℕ) → t.operable l → l < net.grid.K
  pub told : (l : ℕ) → t.operable l → t.operable? l ≡ true
  pub tells : (l : ℕ) → t.operable? l ≡ true → t.operable l
  pub met : (c : Config) → t.goal c → t.meets? c ≡ true
  pub meets : (c : Config) → t.meets? c ≡ true → t.goal c
  pub pricing : Pricing net t.cost t.set_cost

-- "At most 12 may be" operable
abbrev pub most_operable : ℕ
most_operable = 12

-- document 01: its operable switches, "every restorable element is live" in the last configuration, and the cost of a plan with its guards
abbrev pub restoration : (net : Net) → Task net
restoration net =
    record {
      operable = Operable net;
      operable? = operable? net;
      limit = most_operable;
      goal = Restored net;
      meets? = restored? net;
      cost = cost_of net;
      set_cost = set_cost net;
    }
