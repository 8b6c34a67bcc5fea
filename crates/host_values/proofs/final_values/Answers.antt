-- `final_values` gives the numbers of a refusal, or of both marks and the part: arm by arm.
use mathlib.Core.Path.{sym, ap, ◌∙◌}
use mathlib.Core.List.{List, [], ◌∷◌}
use Prim.Native.Nat.{ℕ}
use Rattle.host_values.specs.Values.{final_values}
use Rattle.host_values.proofs.final_values.Goals as goal

pub returns-in-Err : goal.returns-in-Err
unfolding final_values
returns-in-Err c =
    ap {B = List ℕ} (λ (n : ℕ). n ∷ c.in-Err.refusal.place ∷ 0 ∷ 0 ∷ 0 ∷ 0 ∷ 0 ∷ 0 ∷ 0 ∷ []) c.from.ensures ∙ ap final_values (sym c.in-Err.is)

pub returns-in-Ok : goal.returns-in-Ok
unfolding final_values
returns-in-Ok c =
    c.marked_values.ensures ∙ ap final_values (sym c.in-Ok.is)
