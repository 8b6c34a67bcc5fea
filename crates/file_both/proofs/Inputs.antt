-- A plan file behind a network file: what the reading gives, by cases on what was read of the plan.
-- Assumes nothing.
use mathlib.Core.List.{List}
use mathlib.Core.Path.{◌≡◌, ap, sym, ◌∙◌}
use Prim.Native.Nat.{ℕ}
use native.Mathlib.Omega.{arith}
use Rattle.std.specs.Prelude.{Result, Ok, Err}
use Rattle.network.specs.declared.refusal.Refusal.{Refusal}
use Rattle.network.specs.declared.Network.{Network}
use Rattle.file_network.specs.Runs.{Reading, refused, reached, read_on}
use Rattle.file_plan.specs.declared.plan.Plan.{Plan}
use Rattle.file_plan.specs.Inputs.{plan_read, plan_input}
use Rattle.file_both.specs.Inputs.{paired, both_of, plan_behind, plan_behind_by, both_read}

-- a plan behind a network
module _ (s : List ℕ) (at : ℕ) (n : Network) (read : Result Plan Refusal) (hr : read ≡ plan_read (plan_input s n.links at)) where
  pub behind_refused : (r : Refusal) → read ≡ Err r → Err r ≡ both_read (plan_behind s at n)
  unfolding plan_behind_by
  behind_refused r h = go (plan_input s n.links at) (sym hr ∙ h)
    where
      go : (o : Reading Plan) → plan_read o ≡ Err r → Err r ≡ both_read (read_on o (paired n))
      go (refused q) e = let same : q ≡ r = cc in ap Err (sym same)
      go (reached after next p) e = let z : ◌≡◌ {A = ℕ} 0 1 = cc in absurd (omega arith)

  pub behind_accepted : (p : Plan) → read ≡ Ok p → Ok (both_of (n, p)) ≡ both_read (plan_behind s at n)
  unfolding plan_behind_by
  behind_accepted p h = go (plan_input s n.links at) (sym hr ∙ h)
    where
      go : (o : Reading Plan) → plan_read o ≡ Ok p → Ok (both_of (n, p)) ≡ both_read (read_on o (paired n))
      go (refused q) e = let z : ◌≡◌ {A = ℕ} 0 1 = cc in absurd (omega arith)
      go (reached after next q) e = let same : q ≡ p = cc in ap (λ (x : Plan). Ok (both_of (n, x))) (sym same)
