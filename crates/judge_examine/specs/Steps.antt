-- One step by the parts that it touches, over lists of numbers: what `examine_step` asks and answers.
-- Internal: what the arrays hold; `examine` promises `steps_examined` of `judge_marks`.
-- Assumes nothing.
use Rattle.std.specs.Prelude.{◌≡◌, Bool, true, false, List, ℕ, ◌<◌, eqb}
use Rattle.feeding.specs.Networks.{at}
use Rattle.feeding_walks.specs.declared.Walk.{Walk}
use Rattle.judge_closing.specs.Checks.{Closable}

-- `keeps_safe?` of `judge_safe_steps` by the number of the state wanted: an opening keeps what is safe, a closing where its test says so
unfoldable pub kept_safe : (want : ℕ) (closing : Bool) → Bool
kept_safe want closing = elim (eqb want 1) [ true ↦ closing | false ↦ true ]

-- the link is one of the states, and where it is open, closing it can be tested
pub record Steppable (walk : Walk) (closed sign : List ℕ) (l : ℕ) : Type 0 where
  pub below : l < 96
  pub closable : (at closed l ≡ 1 → ⊥) → Closable walk closed sign l
