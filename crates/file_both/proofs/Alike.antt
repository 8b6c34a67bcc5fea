-- The judge's input that looks at the same bytes has the same reading, network file and plan file each by its law: so what stands behind the longest input changes nothing.
-- Assumes nothing.
use mathlib.Core.Path.{◌≡◌, ap}
use mathlib.Core.List.{List}
use Prim.Native.Nat.{ℕ, ◌+◌, ◌<◌, ◌≤◌}
use native.Mathlib.Omega.{arith}
use lib.ListN.{take}
use Rattle.network.specs.declared.Network.{Network}
use Rattle.file_plan.specs.declared.plan.Plan.{Plan}
use Rattle.file_records.proofs.SameBytes.{SameFrom, same_on, take_same}
use Rattle.file_network.specs.NetworkFiles.{network_file}
use Rattle.file_network.proofs.Sizes.{network_longest, network_size}
use Rattle.file_network.proofs.Looking.{look_then, look_most}
use Rattle.file_network.proofs.Alike.{Moved, reached_here, moved_then, moved_equal, then_alike}
use Rattle.file_network.proofs.NetworkAlike.{network_looks, network_looked, network_look_most, network_moved}
use Rattle.file_plan.specs.Inputs.{plan_input}
use Rattle.file_plan.proofs.Sizes.{plan_longest}
use Rattle.file_plan.proofs.Alike.{plan_input_looks, plan_input_from, plan_input_look_most, plan_input_alike}
use Rattle.file_both.specs.Inputs.{paired, plan_behind, plan_behind_by, both_input, both_input_by}

-- how far the judge's input looks
unfoldable pub both_look : List ℕ → ℕ
both_look s = look_then (network_file s) (network_looks s) (λ at stage n. plan_input_looks s n.links at)

both_look_most : (s : List ℕ) → both_look s ≤ network_longest + plan_longest + 1
unfolding both_look
both_look_most s =
    look_most (network_looks s) (network_longest + plan_longest + 1) (λ at st n. plan_input_looks s n.links at) (network_file s)
    (omega (arith, network_look_most s))
    (λ p st m e. omega (arith, (network_size s p st m e).at_most, plan_input_look_most s m.links p))

module _ (s t : List ℕ) (upto : ℕ) where
  -- a plan file behind a network
  pub behind_alike : (n : Network) (at at' : ℕ) → SameFrom s t at at' upto → plan_input_looks s n.links at ≤ upto
      → Moved ◌≡◌ at at' (plan_behind s at n) (plan_behind t at' n)
  unfolding plan_behind_by
  behind_alike n at at' same far =
      moved_then at at' (plan_input s n.links at) (plan_input t n.links at') (paired n) (paired n)
      (plan_input_alike s t upto n.links at at' same far)
      (λ i st p q e r. reached_here (at + i) (at' + i) st (n, p) (n, q) (ap (λ (x : Plan). (n, x)) r))

  pub both_alike : SameFrom s t 0 0 upto → both_look s ≤ upto → both_input s ≡ both_input t
  unfolding both_input_by both_look
  both_alike same far =
      moved_equal
      (then_alike 0 0 upto (network_looks s) (λ at st n. plan_input_looks s n.links at) (network_file s) (network_file t)
      (λ at st n. plan_behind s at n) (λ at st n. plan_behind t at n)
      (network_moved s t upto same)
      (λ p st m e. omega (arith, (network_looked s).ends p st m e, plan_input_from s m.links p))
      (λ i st m e seen. behind_alike m (0 + i) (0 + i) (same_on same i) seen) far)

-- any number of bytes above the longest input decides
pub both_decided : (limit : ℕ) → network_longest + plan_longest < limit → (s : List ℕ) → both_input (take limit s) ≡ both_input s
both_decided limit h s = both_alike (take limit s) s limit (take_same limit s 0) (omega (arith, both_look_most (take limit s)))
