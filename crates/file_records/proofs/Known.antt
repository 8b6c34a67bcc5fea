-- Where not every kind is known, a record is found and refused as ever, but that rule 2 refuses one of an unknown kind: by cases on whether its kind is known.
-- Assumes nothing.
use mathlib.Core.Path.{◌≡◌, refl}
use mathlib.Core.Bool.{Bool, true, false}
use mathlib.Core.List.{List}
use Prim.Native.Nat.{ℕ, ◌-◌}
use lib.Dec.{ltb}
use lib.ListN.{length}
use Rattle.std.specs.Prelude.{Err}
use Rattle.network.specs.declared.refusal.Rule.TheVariants.{KindOutOfPlace}
use Rattle.file_stages.specs.declared.Stage.{Stage}
use Rattle.file_fields.specs.Views.{Seen}
use Rattle.file_records.specs.Records.{kind_field, frame_rules_by, record_rules_by, due_by, due_at}

module _ (known : ℕ → Bool) (s : List ℕ) (seen : Seen) (at : ℕ) (stage : Stage) where
  -- a record of a kind that is known
  pub known_record : known (kind_field s at) ≡ true → due_by known s seen at stage ≡ due_at s seen at stage
  unfolding due_by record_rules_by frame_rules_by
  known_record h = rw h

  -- one of a kind that is not, of which four bytes stand there
  pub unknown_record :
      known (kind_field s at) ≡ false →
      ltb (length s - at) 4 ≡ false →
      due_by known s seen at stage ≡ Err (record { rule = KindOutOfPlace; place = at })
  unfolding due_by record_rules_by frame_rules_by
  unknown_record h four = simp (h, four)

  -- rule 1 asks for no kind
  missing_record : ltb (length s - at) 4 ≡ true → due_by known s seen at stage ≡ due_at s seen at stage
  unfolding due_by record_rules_by frame_rules_by
  missing_record short = simp short

  -- but for a refusal by rule 2 of an unknown kind nothing changes
  pub due_known :
      (known (kind_field s at) ≡ false → due_by known s seen at stage ≡ Err (record { rule = KindOutOfPlace; place = at }) → ⊥) →
      due_by known s seen at stage ≡ due_at s seen at stage
  due_known never = by_kind (known (kind_field s at)) refl
    where
      by_left : (t : Bool) → ltb (length s - at) 4 ≡ t → known (kind_field s at) ≡ false → due_by known s seen at stage ≡ due_at s seen at stage
      by_left true short h = missing_record short
      by_left false four h = absurd (never h (unknown_record h four))

      by_kind : (t : Bool) → known (kind_field s at) ≡ t → due_by known s seen at stage ≡ due_at s seen at stage
      by_kind true h = known_record h
      by_kind false h = by_left (ltb (length s - at) 4) refl h
