-- Document 01: the planner's input, rule 13, and what a refusal hands out.
-- Internal: what computes; `Demand1` of `theorems` says of the readers what the paper says.
-- Assumes nothing.
use Rattle.std.specs.Prelude.{Bool, List, ℕ, ltb, length, Result, Ok, Err}
use Rattle.network.specs.declared.refusal.Refusal.{Refusal}
use Rattle.network.specs.declared.refusal.Rule.TheVariants.{ByteAfterEnd}
use Rattle.file_stages.specs.declared.Stage.{Stage}
use Rattle.file_stages.specs.Stages.{every_kind}
use Rattle.network.specs.declared.Network.{Network}
use Rattle.file_network.specs.declared.reader.Part.{Part}
use Rattle.network.specs.Refusals.{pick}
use Rattle.file_network.specs.Runs.{Reading, refused, reached, read_on}
use Rattle.file_network.specs.NetworkFiles.{network_file_by}

-- what was read, with the offset and the stage of the record that is due next, or the refusal alone
abbrev pub part_of : {A : Type 0} → Reading A → Result (Part A) Refusal
part_of (refused r) = Err r
part_of (reached at stage a) = Ok (record { value = a; at = at; stage = stage })

-- Rule 13: "A byte follows the last end record (the place is that byte)."
abbrev pub closed : {A : Type 0} → List ℕ → ℕ → Stage → A → Reading A
closed s at stage a = pick (ltb at (length s)) (refused (record { rule = ByteAfterEnd; place = at })) (reached at stage a)

-- "A refusal hands out no plan, mark or partial network": it gives its rule and place alone
abbrev pub read_of : {A : Type 0} → Reading A → Result A Refusal
read_of (refused r) = Err r
read_of (reached at stage a) = Ok a

-- what rule 13 says where a file ends
abbrev pub ended_by : List ℕ → ℕ → Result Unit Refusal
ended_by s at = pick (ltb at (length s)) (Err (record { rule = ByteAfterEnd; place = at })) (Ok tt)

-- "The planning program reads one network file"
unfoldable pub network_input_by : (ℕ → Bool) → List ℕ → Reading Network
network_input_by known s = read_on (network_file_by known s) (closed s)

abbrev pub network_input : List ℕ → Reading Network
network_input = network_input_by every_kind

abbrev pub network_read : Reading Network → Result Network Refusal
network_read = read_of
