-- "The record reader views the file as lent bytes plus an offset": what it finds, and the offset at which it then stands.
-- Internal: what computes; of the record that is due `Demand1` of `theorems` says what the paper says.
-- Assumes nothing.
use Rattle.std.specs.Prelude.{ℕ, ◌+◌, Result, Ok, Err}
use Rattle.network.specs.declared.refusal.Refusal.{Refusal}
use Rattle.file_records.specs.declared.Record.{Record}
use Rattle.file_reader.specs.declared.Reader.{Reader}

-- the offset behind a record that stands at an offset; the same offset where it was refused
abbrev pub behind : Result Record Refusal → ℕ → ℕ
behind (Ok found) at = at + found.length
behind (Err refusal) at = at

-- the same bytes at another offset
abbrev pub moved_to : Reader → ℕ → Reader
moved_to reader at = record { src = reader.src; at = at }
