-- `lump_spurs` takes the elements in turn: after e of them, loads and `base` are what the definition has for the first e.
use mathlib.Core.Path.{◌≡◌}
use Rattle.plan_spurs.specs.Spurs.{lumped_to}
use Rattle.plan_spurs.proofs.lump_spurs.Given as goal

abbrev pub invariant-loop-e : goal.invariant-loop-e
invariant-loop-e l =
    (record { base = l.base; load = l.load } ≡ lumped_to (record { head = l.head; next = l.next; far = l.far }) l.sound l.capacity (record { base = l.initial.base; load = l.initial.load }) l.e)
