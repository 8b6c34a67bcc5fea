-- `file_plan::reader::read_steps` reads so many steps: at each turn what is left to read gives the whole outcome.
use mathlib.Core.Path.{◌≡◌}
use Prim.Native.Nat.{◌-◌}
use Rattle.file_stages.specs.declared.Stage.TheVariants.{Steps}
use Rattle.file_network.specs.Runs.{records, always}
use Rattle.file_plan.specs.PlanFiles.{with_step}
use Rattle.file_fields.specs.Views.{seen_in}
use Rattle.file_plan.proofs.reader.read_steps.Given as goal

abbrev pub invariant-loop-i : goal.invariant-loop-i
invariant-loop-i l =
    (l.stage ≡ Steps) × (l.plan.steps ≡ l.i) × (records l.s (always (seen_in l.seen)) (with_step l.s) (l.count - l.i) l.at l.stage l.plan ≡ records l.s (always (seen_in l.seen)) (with_step l.s) l.count l.initial.at
    l.initial.stage l.initial.plan)
