-- How long the judge's input is at most: both files, and nothing behind them.
-- Assumes nothing.
use mathlib.Core.Path.{◌≡◌, ap}
use mathlib.Core.List.{List}
use Prim.Native.Nat.{ℕ, ◌+◌, ◌≤◌}
use native.Mathlib.Omega.{arith}
use lib.ListN.{length}
use Rattle.file_stages.specs.declared.Stage.{Stage}
use Rattle.network.specs.declared.Network.{Network}
use Rattle.file_plan.specs.declared.plan.Plan.{Plan}
use Rattle.file_network.specs.Runs.{reached}
use Rattle.file_network.specs.NetworkFiles.{network_file}
use Rattle.file_plan.specs.PlanFiles.{plan_file}
use Rattle.file_plan.specs.Inputs.{plan_input}
use Rattle.file_both.specs.Inputs.{paired, plan_behind, plan_behind_by, both_input, both_input_by}
use Rattle.file_network.proofs.Parts.{then_reached}
use Rattle.file_network.proofs.Sizes.{network_longest, network_size}
use Rattle.file_plan.proofs.Sizes.{plan_longest, plan_size, plan_input_size}

-- At most 4,302 bytes.
pub record BothSize (s : List ℕ) (at : ℕ) (stage : Stage) (n : Network) (p : Plan) : Type 0 where
  pub middle : ℕ
  pub due : Stage
  pub network : network_file s ≡ reached middle due n
  pub plan : plan_file s n.links middle ≡ reached at stage p
  pub ends : length s ≡ at
  pub at_most : length s ≤ network_longest + plan_longest

pub both_size :
    (s : List ℕ) (at : ℕ) (stage : Stage) (n : Network) (p : Plan) → both_input s ≡ reached at stage (n, p) → BothSize s at stage n p
unfolding both_input_by plan_behind_by
both_size s at stage n p h =
    let b = then_reached (λ at stage n. plan_behind s at n) (network_file s) at stage (n, p) h in
    let c = then_reached (paired b.value) (plan_input s b.value.links b.at) at stage (n, p) b.then in
    let last = c.then in
    let at_is : c.at ≡ at = cc in
    let stage_is : c.stage ≡ stage = cc in
    let pair : ◌≡◌ {A = Network × Plan} (b.value, c.value) (n, p) = cc in
    let net : b.value ≡ n = ap (λ (x : Network × Plan). x.0) pair in
    let plan : c.value ≡ p = ap (λ (x : Network × Plan). x.1) pair in
    let network : network_file s ≡ reached b.at b.stage n = rw net at b.first in
    let file : plan_input s n.links b.at ≡ reached at stage p = rw (at_is, stage_is, plan, net) at c.first in
    let size = network_size s b.at b.stage n network in
    let end = plan_input_size s n.links b.at at stage p file in
    let length-is = plan_size s n.links b.at at stage p end.0 in
    record {
      middle = b.at;
      due = b.stage;
      network = network;
      plan = end.0;
      ends = end.1;
      at_most = omega (arith, end.1, size.at_most, length-is.at_most);
    }

-- an accepted network file with its plan file has at most 4,302 bytes
pub both_most : (s : List ℕ) (at : ℕ) (stage : Stage) (n : Network) (p : Plan) → both_input s ≡ reached at stage (n, p) → length s ≤ 4302
both_most s at stage n p h = (both_size s at stage n p h).at_most
