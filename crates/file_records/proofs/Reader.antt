-- What the record reader returns after each of its tests, and what the field rules add: one law for each way out.
-- Assumes nothing.
use mathlib.Core.List.{List}
use mathlib.Core.Path.{◌≡◌, refl, ap, sym, ◌∙◌}
use Prim.Native.Nat.{ℕ, ◌+◌, ◌-◌, ◌<◌, ◌≤◌}
use native.Mathlib.Omega.{arith}
use lib.ListN.{length}
use borrow.Author.Tests.{eq-eqb, ne_eqb, lt-ltb, le-ltb}
use Rattle.std.specs.Prelude.{Result, Ok, Err, Option, Some, None}
use Rattle.network.specs.declared.refusal.Refusal.{Refusal}
use Rattle.file_records.specs.declared.Record.{Record}
use Rattle.network.specs.declared.refusal.Rule.{Rule}
use Rattle.network.specs.declared.refusal.Rule.TheVariants.{RecordMissing, KindOutOfPlace, WrongLength, RecordCutOff}
use Rattle.file_stages.specs.declared.Stage.{Stage}
use Rattle.network.specs.Refusals.{first_broken}
use Rattle.file_stages.specs.Stages.{next_stage}
use Rattle.file_fields.specs.Views.{Seen}
use Rattle.file_fields.specs.Fields.{word, length_of, field_rules}
use Rattle.file_records.specs.Records.{kind_field, named, found_by, frame_rules_by, record_at, due_at, recorded}
use Rattle.file_records.proofs.Due.{frame_kept, due_fields}

abbrev pub refusal : Rule → ℕ → Result Record Refusal
refusal r p = Err (record { rule = r; place = p })

-- the values that the reader has at hand: the bytes left, the kind, what the table says, the length, the kind's length
module _ (s : List ℕ) (at : ℕ) (stage : Stage) (left kind : ℕ) (next : Option Stage) (hl : left ≡ length s - at) (hk : kind ≡ word s (at + 2))
    (hn : next ≡ next_stage stage kind) where
  pub missing : left < 4 → refusal RecordMissing at ≡ record_at s at stage
  unfolding record_at frame_rules_by
  missing h = simp (← hl, lt-ltb left 4 h)

  pub out_of_place : 4 ≤ left → next ≡ None → refusal KindOutOfPlace at ≡ record_at s at stage
  unfolding record_at frame_rules_by
  out_of_place h e = simp (← hl, le-ltb left 4 h, ← hk, ← hn, e)

  module _ (then : Stage) (long own : ℕ) (h : 4 ≤ left) (go : next ≡ Some then) (hlong : long ≡ word s at) (hown : own ≡ length_of kind) where
    pub wrong_length : (long ≡ own → ⊥) → refusal WrongLength at ≡ record_at s at stage
    unfolding record_at frame_rules_by
    wrong_length ne = simp (← hl, le-ltb left 4 h, ← hk, ← hn, go, ← hlong, ← hown, ne_eqb long own ne)

    pub cut_off : long ≡ own → left < long → refusal RecordCutOff at ≡ record_at s at stage
    unfolding record_at frame_rules_by
    cut_off e less = simp (← hl, le-ltb left 4 h, ← hk, ← hn, go, ← hlong, ← hown, eq-eqb long own e, lt-ltb left long less)

    pub whole : long ≡ own → long ≤ left → recorded kind long then ≡ record_at s at stage
    unfolding record_at frame_rules_by
    whole e fits = simp (← hl, le-ltb left 4 h, ← hk, ← hn, go, ← hlong, ← hown, eq-eqb long own e, le-ltb left long fits)

-- what a verdict on the fields makes of a record that the reader found
abbrev pub decided : ℕ → ℕ → Stage → ℕ → Result Unit Rule → Result Record Refusal
decided kind long next at (Ok t) = recorded kind long next
decided kind long next at (Err r) = refusal r at

pub due_decided :
    (s : List ℕ) (seen : Seen) (at : ℕ) (stage : Stage) (kind long : ℕ) (next : Stage) (v : Result Unit Rule) →
    record_at s at stage ≡ recorded kind long next →
    v ≡ first_broken (field_rules s at kind seen) →
    decided kind long next at v ≡ due_at s seen at stage
due_decided s seen at stage kind long next v h hv =
    same v ∙ ap (found_by s at stage) hv ∙ sym (due_fields s seen at stage kind long next h)
  where
    same : (w : Result Unit Rule) → decided kind long next at w ≡ found_by s at stage w
    same (Ok t) =
        let f = frame_kept s at stage h in
        let n : named (next_stage stage (kind_field s at)) stage ≡ next =
        ap (λ (k : ℕ). named (next_stage stage k) stage) (sym f.kind_is) ∙ ap (λ (x : Option Stage). named x stage) f.goes in
        cc (f.kind_is, f.long_is, n)
    same (Err r) = refl

-- a record of a kind that may come, whole, with fields that break no rule, is found
pub due_found :
    (s : List ℕ) (seen : Seen) (at kind long : ℕ) (stage next : Stage) →
    word s at ≡ long →
    word s (at + 2) ≡ kind →
    at + long ≤ length s →
    4 ≤ long →
    next_stage stage kind ≡ Some next →
    length_of kind ≡ long →
    first_broken (field_rules s at kind seen) ≡ Ok tt →
    due_at s seen at stage ≡ recorded kind long next
due_found s seen at kind long stage next hl hk fits least go hlen kept =
    let found = whole s at stage (length s - at) kind (next_stage stage kind) refl (sym hk) refl next long long (omega arith) go (sym hl) (sym hlen)
    refl (omega arith) in
    sym (due_decided s seen at stage kind long next (Ok tt) (sym found) (sym kept))
