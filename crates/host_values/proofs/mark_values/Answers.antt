-- `mark_values` gives the two numbers of the mark's line: arm by arm.
use mathlib.Core.Path.{sym, ap, ◌∙◌}
use mathlib.Core.List.{List, [], ◌∷◌}
use Prim.Native.Nat.{ℕ}
use Rattle.host_values.specs.Values.{mark_values}
use Rattle.host_values.proofs.mark_values.Goals as goal

pub returns-in-Refused : goal.returns-in-Refused
unfolding mark_values
returns-in-Refused c =
    ap {B = List ℕ} (λ (n : ℕ). n ∷ c.in-Refused.refusal.place ∷ []) c.from.ensures ∙ ap mark_values (sym c.in-Refused.is)

pub returns-in-Broken : goal.returns-in-Broken
unfolding mark_values
returns-in-Broken c =
    ap {B = List ℕ} (λ (n : ℕ). c.in-Broken.bad.step ∷ n ∷ []) c.from-in-Broken.ensures ∙ ap mark_values (sym c.in-Broken.is)

pub returns-in-Short : goal.returns-in-Short
unfolding mark_values
returns-in-Short c =
    ap mark_values (sym c.in-Short.is)

pub returns-in-Valid : goal.returns-in-Valid
unfolding mark_values
returns-in-Valid c =
    ap mark_values (sym c.in-Valid.is)
