-- `reply_values` gives the numbers of the reply: arm by arm.
use mathlib.Core.Path.{sym, ap, ◌∙◌}
use mathlib.Core.List.{List, [], ◌∷◌}
use Prim.Native.Nat.{ℕ}
use Rattle.host_values.specs.Values.{reply_values}
use Rattle.host_values.proofs.reply_values.Goals as goal

pub returns-in-Refused : goal.returns-in-Refused
unfolding reply_values
returns-in-Refused c =
    ap {B = List ℕ} (λ (n : ℕ). n ∷ c.in-Refused.refusal.place ∷ 0 ∷ 0 ∷ 0 ∷ []) c.from.ensures ∙ ap reply_values (sym c.in-Refused.is)

pub returns-in-Plan : goal.returns-in-Plan
unfolding reply_values
returns-in-Plan c =
    ap reply_values (sym c.in-Plan.is)

pub returns-in-NoPlan : goal.returns-in-NoPlan
unfolding reply_values
returns-in-NoPlan c =
    ap reply_values (sym c.in-NoPlan.is)
