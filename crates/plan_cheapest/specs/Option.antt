-- The best set as an option: none where it costs as much as no set.
-- Internal: no promise to a user is said by it.
-- Assumes nothing.
use Rattle.std.specs.Prelude.{Option, Some, None, true, false, ltb}
use Rattle.plan_problem.specs.declared.Best.{Best}

unfoldable pub found_by : Best → Option Best
found_by b = elim (ltb b.cost 18446744073709551615) [ true ↦ Some b | false ↦ None ]
