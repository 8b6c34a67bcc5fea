-- Document 01, "Files" and refusals 1 to 12, and document 02's refusal 20: what stands at an offset, by the kinds that are known.
-- Assumes nothing.
use Rattle.std.specs.Prelude.{Bool, true, false, not, List, [], ◌∷◌, ◌++◌, ℕ, ◌+◌, ◌-◌, eqb, ltb, length, Result, Ok, Err, Option, Some, None}
use Rattle.network.specs.declared.refusal.Refusal.{Refusal}
use Rattle.network.specs.declared.refusal.Rule.{Rule}
use Rattle.file_records.specs.declared.Record.{Record}
use Rattle.network.specs.declared.refusal.Rule.TheVariants.{RecordMissing, KindOutOfPlace, WrongLength, RecordCutOff}
use Rattle.file_stages.specs.declared.Stage.{Stage}
use Rattle.network.specs.Refusals.{Check, check, first_broken}
use Rattle.file_stages.specs.Stages.{next_stage, every_kind, next_known}
use Rattle.file_fields.specs.Views.{Seen}
use Rattle.file_fields.specs.Fields.{word, length_of, field_rules}

-- "A record is: its length in bytes (the length field included), its kind, its fields."
abbrev pub length_field : List ℕ → ℕ → ℕ
length_field s at = word s at

abbrev pub kind_field : List ℕ → ℕ → ℕ
kind_field s at = word s (at + 2)

-- a record that is found
abbrev pub recorded : ℕ → ℕ → Stage → Result Record Refusal
recorded kind long next = Ok (record { kind = kind; length = long; next = next })

abbrev pub is_refused : Option Stage → Bool
is_refused (Some s) = false
is_refused None = true

-- the stage that the table names, where it names one
abbrev pub named : Option Stage → Stage → Stage
named (Some s) other = s
named None other = other

-- Rules 1 to 4, where these kinds are known:
-- "Fewer than four bytes remain where a record is due." "The kind isn't one that may come here."
-- "The length isn't the kind's length." "Fewer bytes remain than the length."
unfoldable pub frame_rules_by : (ℕ → Bool) → List ℕ → ℕ → Stage → List Check
frame_rules_by known s at stage =
    check RecordMissing (ltb (length s - at) 4) ∷
    check KindOutOfPlace (is_refused (next_known known stage (kind_field s at))) ∷
    check WrongLength (not (eqb (length_field s at) (length_of (kind_field s at)))) ∷
    check RecordCutOff (ltb (length s - at) (length_field s at)) ∷ []

abbrev pub frame_rules : List ℕ → ℕ → Stage → List Check
frame_rules = frame_rules_by every_kind

-- Rules 1 to 12, "within each record", in document 01's order; rule 20 is one of its fields' rules
unfoldable pub record_rules_by : (ℕ → Bool) → List ℕ → Seen → ℕ → Stage → List Check
record_rules_by known s seen at stage = frame_rules_by known s at stage ++ field_rules s at (kind_field s at) seen

abbrev pub record_rules : List ℕ → Seen → ℕ → Stage → List Check
record_rules = record_rules_by every_kind

-- what a verdict on the record at an offset gives: the place is "the offset, in the whole input, of the record's first byte"
abbrev pub found_by : List ℕ → ℕ → Stage → Result Unit Rule → Result Record Refusal
found_by s at stage (Ok t) =
    recorded (kind_field s at) (length_field s at) (named (next_stage stage (kind_field s at)) stage)
found_by s at stage (Err r) = Err (record { rule = r; place = at })

-- the record at an offset by rules 1 to 4
unfoldable pub record_at : List ℕ → ℕ → Stage → Result Record Refusal
record_at s at stage = found_by s at stage (first_broken (frame_rules s at stage))

-- the record due at an offset, by what was read before it: rules 1 to 12 and 20
unfoldable pub due_by : (ℕ → Bool) → List ℕ → Seen → ℕ → Stage → Result Record Refusal
due_by known s seen at stage = found_by s at stage (first_broken (record_rules_by known s seen at stage))

abbrev pub due_at : List ℕ → Seen → ℕ → Stage → Result Record Refusal
due_at = due_by every_kind
