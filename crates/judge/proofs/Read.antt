-- What an accepted input promises of its network and its plan: both files were read whole, so each is well formed.
-- Assumes nothing.
use mathlib.Core.Path.{◌≡◌, refl, sym, ap, ◌∙◌, subst}
use mathlib.Core.List.{List}
use Prim.Native.Nat.{ℕ, ◌<◌}
use native.Mathlib.Omega.{arith}
use lib.ListN.{get_or}
use Rattle.std.specs.Prelude.{Ok}
use Rattle.network.specs.declared.Network.{Network}
use Rattle.network.specs.Accepted.{WellFormed}
use Rattle.file_network.specs.Runs.{Reading, refused, reached}
use Rattle.file_network.proofs.Accepted.{network_well_formed}
use Rattle.file_plan.specs.declared.plan.Plan.{Plan}
use Rattle.file_both.specs.declared.Both.{Both}
use Rattle.file_plan.specs.Accepted.{WellFormedPlan}
use Rattle.file_both.specs.Inputs.{both_of, both_input, both_read}
use Rattle.file_plan.proofs.Accepted.{plan_well_formed}
use Rattle.file_both.proofs.Sizes.{both_size}

-- the network is well formed, and so is the plan in it
pub record BothFormed (b : Both) : Type 0 where
  pub net : WellFormed b.net
  pub plan : WellFormedPlan b.net.links b.plan

pub both_formed : (s : List ℕ) → ((i : ℕ) → get_or s i 0 < 256) → (b : Both) → both_read (both_input s) ≡ Ok b → BothFormed b
both_formed s bytes b e = go (both_input s) refl e
  where
    go : (o : Reading (Network × Plan)) → both_input s ≡ o → both_read o ≡ Ok b → BothFormed b
    go (refused f) h k = let z : ◌≡◌ {A = ℕ} 0 1 = cc in absurd (omega arith)
    go (reached at stage v) h k =
        let size = both_size s at stage v.0 v.1 h in
        let same : both_of v ≡ b = cc in
        subst BothFormed same (record {
          net = network_well_formed s size.middle size.due v.0 bytes size.network;
          plan = plan_well_formed s v.0.links size.middle at stage v.1 size.plan;
        })
