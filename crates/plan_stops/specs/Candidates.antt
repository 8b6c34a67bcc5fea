-- Which sets of switches a search tries: those whose last configuration is radial, keeps faults from sources and feeds every restorable element;
-- loads are judged afterwards. Internal: no promise to a user is said by it.
-- Assumes nothing.
use Rattle.std.specs.Prelude.{Bool, not, ◌&&◌, ℕ, ltb}
use Rattle.feeding.specs.Networks.{Grid, Net}
use Rattle.feeding.specs.Parts.{Config}
use Rattle.feeding.specs.Safety.{tree_place, pair_place, fault_place}
use Rattle.feeding.specs.Restoration.{restored?}
use Rattle.feeding.specs.Plans.{flip}

-- the configuration breaks none of rules 14 to 16
unfoldable pub radial? : Grid → Config → Bool
radial? g c = not (ltb (tree_place g c) g.E) && (not (ltb (pair_place g c) g.E) && not (ltb (fault_place g c) g.E))

-- with the switches of D operated it breaks none, and the test of the last configuration passes
unfoldable pub passes? : Net → (meets : Config → Bool) → (ℕ → Bool) → Bool
passes? net meets D = radial? net.grid (flip net.start_closed D) && meets (flip net.start_closed D)

-- the states at the start, with the switches that pass the test open
unfoldable pub opened_by : Net → (op : ℕ → Bool) → Config
opened_by net op l = net.start_closed l && not (op l)

-- ---- document 01: every restorable element is live in the last configuration

abbrev pub candidate? : Net → (ℕ → Bool) → Bool
candidate? net D = passes? net (restored? net) D
