-- A configuration held as a list of states, 1 for a closed link, and what steps make of it.
-- Internal: no promise to a user is said by it.
-- Assumes nothing.
use Rattle.std.specs.Prelude.{List, [], ◌∷◌, ℕ, set}
use Rattle.file_writer.specs.Writing.{state_number}
use Rattle.feeding.specs.Plans.{Step}

-- the states after a list of steps
unfoldable pub states_run : List ℕ → List Step → List ℕ
states_run closed [] = closed
states_run closed (s ∷ q) = states_run (set closed s.link (state_number s.want)) q
