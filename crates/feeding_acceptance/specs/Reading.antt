-- Document 01, rules 1 to 18, and document 02's rule 20, on the planner's input: which network it states, or which rule
-- it breaks first.
-- Assumes nothing.
use Rattle.std.specs.Prelude.{List, ℕ, ◌<◌, get_or, Result, Ok, Err}
use Rattle.network.specs.declared.refusal.Refusal.{Refusal}
use Rattle.network.specs.declared.Network.{Network}
use Rattle.file_refusals.specs.Files.{FirstBroken}
use Rattle.file_refusals.specs.Stated.{NetworkOf}
use Rattle.feeding.specs.Networks.{net_of}
use Rattle.feeding.specs.Acceptance.{Answered, answer_to}
use Rattle.feeding_start.specs.declared.Start.{Start}
use Rattle.feeding_start.specs.Starting.{start_of}

-- ---- what the paper says of the planner's input

-- "every sequence of input bytes"
abbrev pub Bytes : List ℕ → Type 0
Bytes s = (i : ℕ) → get_or s i 0 < 256

-- an accepted network: s is a network file that states n, and keeps rules 1 to 18 and 20
pub record AcceptedNetwork (s : List ℕ) (n : Network) : Type 0 where
  pub file : NetworkOf s n
  pub kept : Answered (net_of n) (Ok tt)

-- "the first rule of document 01 that it breaks, with number and place": of 1 to 13 and 20 in the bytes, then of 14
-- to 18
pub data FirstRule (s : List ℕ) : Refusal → Type 0 where
  in_bytes : {f : Refusal} → FirstBroken s f → FirstRule s f
  in_network : {f : Refusal} (n : Network) → NetworkOf s n → Answered (net_of n) (Err f) → FirstRule s f

-- what s is answered: the start of an accepted network, or the rule alone, for "A refusal hands out no plan, mark or
-- partial network."
pub data Admission (s : List ℕ) : Result Start Refusal → Type 0 where
  refused : {f : Refusal} → FirstRule s f → Admission s (Err f)
  accepted : (start : Start) → AcceptedNetwork s start.net → Admission s (Ok start)

-- ---- what computes

unfoldable pub handed_out : Network → Result Unit Refusal → Result Start Refusal
handed_out n (Ok u) = Ok (start_of n)
handed_out n (Err r) = Err r

unfoldable pub accepted_read : Result Network Refusal → Result Start Refusal
accepted_read (Ok n) = handed_out n (answer_to n)
accepted_read (Err r) = Err r
