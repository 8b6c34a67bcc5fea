-- Document 01, "Files": what reading gives, and a run of records.
-- Internal: what computes; `Demand1` of `theorems` says of the readers what the paper says.
-- Assumes nothing.
use Rattle.std.specs.Prelude.{Bool, List, ℕ, zero, suc, ◌+◌, Result, Ok, Err}
use Rattle.file_fields.specs.Views.{Seen}
use Rattle.file_records.specs.declared.Record.{Record}
use Rattle.network.specs.declared.refusal.Refusal.{Refusal}
use Rattle.file_stages.specs.declared.Stage.{Stage}
use Rattle.file_stages.specs.Stages.{every_kind}
use Rattle.file_records.specs.Records.{due_by}

-- what reading gives: the first refusal, or the offset and the stage of the record that is due next, with what was read
pub data Reading (A : Type 0) : Type 0 where
  refused : Refusal → Reading A
  reached : ℕ → Stage → A → Reading A

abbrev pub read_on : {A B : Type 0} → Reading A → (ℕ → Stage → A → Reading B) → Reading B
read_on (refused r) f = refused r
read_on (reached at stage a) f = f at stage a

abbrev pub on_found : {A : Type 0} → Result Record Refusal → (ℕ → Stage → Reading A) → Reading A
on_found (Ok found) f = f found.length found.next
on_found (Err r) f = refused r

-- "Records are read from the front, rules 1 to 12 within each record": so many records from an offset and a stage on, each
-- taken in by `into` where it breaks no rule; `seen` is what its rules may ask of what was read before it, `known` the kinds that are known
unfoldable pub records_by : {A : Type 0} (known : ℕ → Bool) (s : List ℕ) (seen : A → Seen) (into : ℕ → A → A) → ℕ → ℕ → Stage → A → Reading A
records_by known s seen into zero at stage a = reached at stage a
records_by known s seen into (suc count) at stage a =
    on_found (due_by known s (seen a) at stage)
    (λ long next. records_by known s seen into count (at + long) next (into at a))

abbrev pub records : {A : Type 0} (s : List ℕ) (seen : A → Seen) (into : ℕ → A → A) → ℕ → ℕ → Stage → A → Reading A
records = records_by every_kind

-- one view for all records of a run
abbrev pub always : {A : Type 0} → Seen → A → Seen
always seen a = seen

-- a head or an end record, of which nothing is kept
abbrev pub as_is : {A : Type 0} → ℕ → A → A
as_is at a = a
