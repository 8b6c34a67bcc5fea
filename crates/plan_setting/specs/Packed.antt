-- A setting that holds these switches, sources and numbers, and what a switch adds to a cost there. Internal: what the arrays hold.
-- Assumes nothing.
use Rattle.std.specs.Prelude.{◌≡◌, List, ℕ}
use Rattle.feeding.specs.Networks.{at}
use Rattle.feeding_walks.specs.declared.Walk.{Walk}
use Rattle.plan_problem.specs.Sets.{adds_by}
use Rattle.plan_switches.specs.declared.Switches.{Switches}
use Rattle.plan_setting.specs.declared.Setting.{Setting}
use Rattle.plan_setting.specs.Setting.{Listed, Charging}

-- the setting holds the switches, the guards of their links, the list of sources, the number and the walk
pub record Packed (B : Setting) (sw : Switches) (guard cost sources : List ℕ) (want : ℕ) (walk : Walk) : Type 0 where
  pub switches_are : B.switches ≡ sw
  pub charging : Charging guard cost walk.links sw.link sw.count B.guards
  pub listed : Listed B.sources sources
  pub want_is : B.want ≡ want
  pub walk_is : B.walk ≡ walk

-- what switch i adds to the choices before it
abbrev pub adds_in : Setting → ℕ → ℕ → ℕ
adds_in B = adds_by (at B.switches.price) (at B.guards.charge) (at B.guards.fellows)
