-- The plan read is what the file states: the run over its steps fills its lists with the fields of their records in their order.
-- Assumes nothing.
use mathlib.Core.Path.{◌≡◌, refl}
use mathlib.Core.Bool.{false}
use mathlib.Core.List.{List}
use Prim.Native.Nat.{ℕ, ◌+◌, ◌<◌, ◌≤◌}
use native.Mathlib.Omega.{arith}
use lib.Dec.{eqb}
use lib.ListN.{length, get_or}
use Rattle.file_stages.specs.declared.Stage.{Stage}
use Rattle.file_stages.specs.declared.Stage.TheVariants.{Steps}
use Rattle.file_plan.specs.declared.plan.Plan.{Plan}
use Rattle.file_fields.specs.Fields.{word}
use Rattle.file_fields.specs.Views.{links_seen}
use Rattle.file_network.specs.Runs.{always, reached}
use Rattle.file_plan.specs.PlanFiles.{empty_plan, with_step, plan_file}
use Rattle.file_network.proofs.Runs.{Nth}
use Rattle.file_network.proofs.Contents.{run_nth, run_long, run_fills}
use Rattle.file_plan.proofs.Sizes.{PlanSize, StepsRead, plan_size}

-- The steps of the file: the record of each, behind those before it, and the fields of it that are kept.

pub record StepAt (s : List ℕ) (links head : ℕ) (p : Plan) (i : ℕ) : Type 0 where
  pub found : Nth s (always (links_seen links)) (with_step s) (head + 6) Steps empty_plan i
  pub link_is : get_or p.link i 0 ≡ word s (found.place + 4)
  pub close_is : get_or p.close i false ≡ eqb (word s (found.place + 6)) 1

pub record PlanHolds (s : List ℕ) (links head : ℕ) (p : Plan) : Type 0 where
  pub link_long : length p.link ≡ 255
  pub close_long : length p.close ≡ 255
  pub step : (i : ℕ) → i < p.steps → StepAt s links head p i

pub plan_holds :
    (s : List ℕ) (links head at : ℕ) (stage : Stage) (p : Plan) → plan_file s links head ≡ reached at stage p → PlanHolds s links head p
unfolding empty_plan with_step
plan_holds s links head at stage p h =
    record {
      link_long =
          run_long s (always (links_seen links)) (with_step s) (word s (head + 4)) (head + 6) Steps empty_plan _ Steps p steps.run refl (λ p. p.link) (λ p. p.steps)
          (λ at. word s (at + 4)) 0 refl fits (λ at p. refl) (λ at p. refl);
      close_long =
          run_long s (always (links_seen links)) (with_step s) (word s (head + 4)) (head + 6) Steps empty_plan _ Steps p steps.run refl (λ p. p.close) (λ p. p.steps)
          (λ at. eqb (word s (at + 6)) 1) false refl fits (λ at p. refl) (λ at p. refl);
      step =
          λ i lt.
          let lt' : i < word s (head + 4) = omega (arith, steps.steps_are) in
          let found = run_nth s (always (links_seen links)) (with_step s) (word s (head + 4)) (head + 6) Steps empty_plan _ Steps p steps.run refl i lt' in
          record {
            found = found;
            link_is =
                run_fills s (always (links_seen links)) (with_step s) (word s (head + 4)) (head + 6) Steps empty_plan _ Steps p steps.run refl (λ p. p.link)
                (λ p. p.steps)
                (λ at. word s (at + 4)) 0 refl fits (λ at p. refl) (λ at p. refl) i lt' found;
            close_is =
                run_fills s (always (links_seen links)) (with_step s) (word s (head + 4)) (head + 6) Steps empty_plan _ Steps p steps.run refl (λ p. p.close)
                (λ p. p.steps)
                (λ at. eqb (word s (at + 6)) 1) false refl fits (λ at p. refl) (λ at p. refl) i lt' found;
          };
    }
  where
    size : PlanSize s links head at stage p
    size = plan_size s links head at stage p h

    steps : StepsRead s links head size.steps_end Steps p
    steps = size.steps

    fits : word s (head + 4) ≤ 255
    fits = steps.steps_fit
