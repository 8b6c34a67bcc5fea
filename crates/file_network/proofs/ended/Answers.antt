-- `file_network::ended` asks rule 13 of a file that was read to its end.
use native.Mathlib.Omega.{arith}
use lib.ListN.{length}
use borrow.Author.Tests.{lt-ltb, le-ltb}
use Rattle.file_network.proofs.ended.Goals as goal

pub returns-then-at-s : goal.returns-then-at-s
returns-then-at-s c = rw (lt-ltb c.args.at (length c.args.s.now) (omega arith))

pub returns : goal.returns
returns c = rw (le-ltb c.args.at (length c.args.s.now) (omega arith))
