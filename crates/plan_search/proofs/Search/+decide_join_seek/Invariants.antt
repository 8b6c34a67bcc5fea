-- The proof of the cycle of calls {decide, join, seek}: each return is a law of `Cases`.
-- The measure is three times the number of switches that may be left, for `join` one more than that behind its switch, and for `decide` two.
use Prim.Native.Nat.{◌+◌, ◌*◌, ◌-◌}
use Rattle.plan_search.proofs.Search.+decide_join_seek.Given as goal

abbrev pub decreases-decide : goal.decreases-decide
decreases-decide l =
    3 * (16 - (l.i + 1)) + 2

abbrev pub decreases-join : goal.decreases-join
decreases-join l =
    3 * (16 - (l.i + 1)) + 1

abbrev pub decreases-seek : goal.decreases-seek
decreases-seek l =
    3 * (16 - l.i)
