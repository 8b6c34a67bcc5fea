-- What the loop over steps stores is what the definition takes in, by rewriting each number read.
-- Assumes nothing.
use mathlib.Core.List.{List}
use mathlib.Core.Path.{◌≡◌}
use Prim.Native.Nat.{ℕ, ◌+◌}
use lib.Dec.{eqb}
use lib.ListN.{set}
use Rattle.file_plan.specs.declared.plan.Plan.{Plan}
use Rattle.file_fields.specs.Fields.{word}
use Rattle.file_plan.specs.PlanFiles.{with_step}

-- a step stored at an index
abbrev pub step_put : Plan → ℕ → ℕ → ℕ → Plan
step_put p i link state =
    record {
      link = set p.link i link;
      close = set p.close i (eqb state 1);
      steps = p.steps + 1;
    }

pub step_taken :
    (s : List ℕ) (at i : ℕ) (p : Plan) (link state : ℕ) →
    p.steps ≡ i →
    link ≡ word s (at + 4) →
    state ≡ word s (at + 6) →
    step_put p i link state ≡ with_step s at p
unfolding with_step
step_taken s at i p link state same hl hs = rw (hl, hs, same)
