-- `listed_sources` meets its contract. The loop's invariant: the members among the first s elements stand one behind the other.
use Rattle.plan_setting.proofs.Filling.{SourcesTo}
use Rattle.plan_setting.proofs.listed_sources.Given as goal

abbrev pub invariant-loop-s : goal.invariant-loop-s
invariant-loop-s l =
    SourcesTo l.sound l.s l.count l.element
