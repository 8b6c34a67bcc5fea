-- Where not every kind is known, a trial final's input is read as ever but for a refusal by rule 2 at a record of an unknown kind: one file behind the other.
-- Assumes nothing.
use mathlib.Core.Path.{◌≡◌, refl}
use mathlib.Core.Bool.{Bool}
use mathlib.Core.List.{List}
use Prim.Native.Nat.{ℕ}
use Rattle.network.specs.declared.Network.{Network}
use Rattle.file_network.specs.NetworkFiles.{network_file_by, network_file}
use Rattle.file_network.proofs.Known.{KnownThere, then_known, network_known}
use Rattle.file_plan.specs.declared.plan.Plan.{Plan}
use Rattle.file_plan.specs.PlanFiles.{plan_file_by, plan_file}
use Rattle.file_plan.specs.Inputs.{plan_input_by, plan_input}
use Rattle.file_plan.proofs.Known.{plan_known, plan_input_known}
use Rattle.file_final.specs.Inputs.{two_plans, second_behind_by, second_behind, plans_behind_by, plans_behind, final_input_by, final_input}

module _ (known : ℕ → Bool) (s : List ℕ) where
  second_known : (n : Network) (start middle : ℕ) (p : Plan) → KnownThere known s (second_behind_by known s n start middle p)
      → second_behind_by known s n start middle p ≡ second_behind s n start middle p
  unfolding second_behind_by
  second_known n start middle p =
      then_known known s (plan_input_by known s n.links middle) (plan_input s n.links middle) (two_plans n start middle p) (two_plans n start middle p)
      (plan_input_known known s n.links middle) (λ at stage q there. refl)

  plans_known : (start : ℕ) (n : Network) → KnownThere known s (plans_behind_by known s start n) → plans_behind_by known s start n ≡ plans_behind s start n
  unfolding plans_behind_by
  plans_known start n =
      then_known known s (plan_file_by known s n.links start) (plan_file s n.links start) (λ middle stage p. second_behind_by known s n start middle p)
      (λ middle stage p. second_behind s n start middle p)
      (plan_known known s n.links start) (λ middle stage p. second_known n start middle p)

  pub final_known : KnownThere known s (final_input_by known s) → final_input_by known s ≡ final_input s
  unfolding final_input_by
  final_known =
      then_known known s (network_file_by known s) (network_file s) (λ start stage n. plans_behind_by known s start n) (λ start stage n. plans_behind s start n)
      (network_known known s) (λ start stage n. plans_known start n)
