-- Where not every kind is known, the judge's input is read as ever but for a refusal by rule 2 at a record of an unknown kind: one file behind the other.
-- Assumes nothing.
use mathlib.Core.Path.{◌≡◌, refl}
use mathlib.Core.Bool.{Bool}
use mathlib.Core.List.{List}
use Prim.Native.Nat.{ℕ, ◌+◌}
use Rattle.network.specs.declared.Network.{Network}
use Rattle.file_network.specs.NetworkFiles.{network_file_by, network_file}
use Rattle.file_records.specs.Records.{length_field}
use Rattle.file_network.proofs.Known.{KnownThere, then_known, network_known, Placed, then_placed, network_placed}
use Rattle.file_plan.specs.Inputs.{plan_input_by, plan_input}
use Rattle.file_plan.proofs.Known.{plan_input_known, plan_input_placed}
use Rattle.file_both.specs.Inputs.{paired, plan_behind_by, plan_behind, both_input_by, both_input}

module _ (known : ℕ → Bool) (s : List ℕ) where
  pub behind_known : (at : ℕ) (n : Network) → KnownThere known s (plan_behind_by known s at n) → plan_behind_by known s at n ≡ plan_behind s at n
  unfolding plan_behind_by
  behind_known at n =
      then_known known s (plan_input_by known s n.links at) (plan_input s n.links at) (paired n) (paired n)
      (plan_input_known known s n.links at) (λ o stage p there. refl)

  pub both_input_known : KnownThere known s (both_input_by known s) → both_input_by known s ≡ both_input s
  unfolding both_input_by
  both_input_known =
      then_known known s (network_file_by known s) (network_file s) (λ at stage n. plan_behind_by known s at n) (λ at stage n. plan_behind s at n)
      (network_known known s) (λ at stage n. behind_known at n)

-- where every record that stands there is of a known kind
module _ (P : ℕ → Type 0) (known : ℕ → Bool) (s : List ℕ) (on : (at : ℕ) → P at → P (at + length_field s at)) where
  pub both_input_placed : P 0 → Placed P (both_input_by known s)
  unfolding both_input_by plan_behind_by
  both_input_placed front =
      then_placed P (network_file_by known s) (λ at stage n. plan_behind_by known s at n)
      (network_placed P known s on front)
      (λ at stage n h. then_placed P (plan_input_by known s n.links at) (paired n)
      (plan_input_placed P known s on n.links at h)
      (λ o last p h'. h'))
