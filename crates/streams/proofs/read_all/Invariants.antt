-- What came stands in front of the buffer, as far as it has room.
-- Assumes nothing.
use Rattle.std.proofs.Common.{◌≡◌, ℕ, List, length, take}
use Rattle.std.specs.Io.KnownBytes.{Consumes}
use Rattle.streams.proofs.read_all.Given as goal

abbrev pub invariant-loop : goal.invariant-loop
invariant-loop g l = (moved : List ℕ) × Consumes (g.R.Read.remaining l.initial.from) (g.R.Read.remaining l.from) moved
    × (take l.at l.buffer ≡ take (length l.buffer) moved)
    × (length l.buffer ≡ length l.initial.buffer)
