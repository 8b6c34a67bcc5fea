-- What computes the tail of a safe configuration is what the paper says, and sees the states of the network's links only. By the laws of its parts.
-- Assumes nothing.
use mathlib.Core.Path.{◌≡◌, refl, ap₂}
use Prim.Native.Nat.{ℕ, ◌<◌, ◌≤◌}
use Rattle.feeding.specs.Networks.{Net, Formed}
use Rattle.feeding.specs.Parts.{Config}
use Rattle.feeding.specs.Safety.{Safe}
use Rattle.feeding.specs.Restoration.{FixedClosed, total_load}
use Rattle.feeding.proofs.States.{live_same}
use Rattle.std.specs.Prelude.{Option}
use Rattle.feeding_margins.specs.declared.Spot.{Spot}
use Rattle.feeding_margins.specs.Margins.{unfed, tightest}
use Rattle.feeding_margins.proofs.Alike.{tightest_same}
use Rattle.feeding_margins.proofs.Spots.{tightest_spotted}
use Rattle.plan_sums.specs.declared.Sums.{Sums}
use Rattle.plan_sums.specs.Sums.{sums_after}
use Rattle.plan_sums.proofs.Loads.{sums_in}
use Rattle.plan_sums.proofs.Totals.{sums_ext}
use Rattle.plan_tail.specs.declared.Tail.{Tail}
use Rattle.plan_tail.specs.Tails.{TailIn, tail_after}

-- the tail of its parts
pub tail_is : (net : Net) (c : Config) (l : Sums) (s : Option Spot) → l ≡ sums_after net c → s ≡ tightest net.grid c
    → ◌≡◌ {A = Tail} (record { sums = l; spot = s }) (tail_after net c)
unfolding tail_after
tail_is net c l s e h = ap₂ (λ (x : Sums) (y : Option Spot). record { sums = x; spot = y }) e h

pub tail_in : (net : Net) → Formed net.grid → (c : Config) → FixedClosed net c → Safe net.grid c → net.grid.E ≤ 64 → total_load net.grid < unfed
    → TailIn net c (tail_after net c)
unfolding tail_after
tail_in net formed c fixed safe few small =
    record { loads = sums_in net formed c fixed safe; spot = tightest_spotted net.grid formed few c safe small }

pub tail_same : (net : Net) → Formed net.grid → (c c' : Config) → ((l : ℕ) → l < net.grid.K → c l ≡ c' l) → tail_after net c ≡ tail_after net c'
unfolding tail_after sums_after
tail_same net formed c c' same =
    ap₂ (λ (x : Sums) (y : Option Spot). record { sums = x; spot = y })
    (sums_ext net.grid.load _ _ _ _ net.grid.E (λ e _. live_same net.grid c c' same e) (λ e _. refl))
    (tightest_same net.grid formed c c' same)
