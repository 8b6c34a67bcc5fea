-- Document 01, "Files" and refusals 1 to 12, with document 02's items 1 and 2, in their own words: which rules the record that is due at an offset breaks. No test of the reader is cited.
-- Assumes nothing.
use Rattle.std.specs.Prelude.{◌≡◌, List, ◌⊎◌, ℕ, zero, suc, ◌+◌, ◌-◌, ◌<◌, ◌≤◌, length}
use Rattle.network.specs.declared.refusal.Rule.{Rule}
use Rattle.network.specs.declared.refusal.Rule.TheVariants.{RecordMissing, KindOutOfPlace, WrongLength, RecordCutOff, HeadOutOfRange, UnknownFlags, BadEnds, UnknownForm, UnsuitedCost, TooManySteps, UnknownLink, UnknownState, ByteAfterEnd, NotATree, TwoSources, FaultWithSource, Overloaded, TooManyOperable, BufferTooShort, BadGuard}
use Rattle.network.specs.Refusals.{Sooner}
use Rattle.file_stages.specs.declared.Stage.{Stage}
use Rattle.file_stages.specs.declared.Stage.TheVariants.{Head, Elements, Links, End, PlanHead, Steps, PlanEnd, Over}
use Rattle.file_fields.specs.Fields.{word, wide_word}
use Rattle.file_records.specs.Records.{length_field, kind_field}

-- how many bytes remain at an offset
abbrev pub remain : List ℕ → ℕ → ℕ
remain s at = length s - at

-- "One table says, for each stage of reading and each kind, which stage comes next."; E, K and the steps of the heads end a stage (`network_stages`)
pub data ComesNext : (stage : Stage) (kind : ℕ) (next : Stage) → Type 0 where
  behind_head : ComesNext Head 1 Elements
  behind_element : ComesNext Elements 2 Elements
  -- document 02: "Kind 7 .. may stand wherever kind 2 may"
  behind_wide_element : ComesNext Elements 7 Elements
  behind_link : ComesNext Links 3 Links
  -- document 02: "Kind 8 is a switch laid out as kind 3, in the same places"
  behind_guarded_link : ComesNext Links 8 Links
  behind_end : ComesNext End 4 PlanHead
  behind_plan_head : ComesNext PlanHead 5 Steps
  behind_step : ComesNext Steps 6 Steps
  behind_plan_end : ComesNext PlanEnd 4 Over

abbrev pub MayCome : Stage → ℕ → Type 0
MayCome stage kind = (next : Stage) × ComesNext stage kind next

-- "Kind 1, network head, length 8", "Kind 2, element, length 10", "Kind 3, link, length 12", and so on
pub data KindLength : ℕ → ℕ → Type 0 where
  network_head : KindLength 1 8
  element : KindLength 2 10
  link : KindLength 3 12
  end : KindLength 4 4
  plan_head : KindLength 5 6
  step : KindLength 6 8
  -- document 02: "Kind 7 is an element .., length 14"
  wide_element_lem : KindLength 7 14
  -- document 02: "Kind 8 .. with one more field, the number of its guard ..; length 14"
  guarded_link : KindLength 8 14

-- "Kind 2, element, length 10: own load, capacity, flags"; document 02: "Kind 7 is an element with load and capacity of four bytes each, then flags"
pub data StatesElement (s : List ℕ) (at : ℕ) : (load capacity flags : ℕ) → Type 0 where
  narrow : kind_field s at ≡ 2 → StatesElement s at (word s (at + 4)) (word s (at + 6)) (word s (at + 8))
  wide : kind_field s at ≡ 7 → StatesElement s at (wide_word s (at + 4)) (wide_word s (at + 8)) (word s (at + 12))

-- a link's record is of kind 3, or of document 02's kind 8
abbrev pub IsLink : List ℕ → ℕ → Type 0
IsLink s at = (kind_field s at ≡ 3) ⊎ (kind_field s at ≡ 8)

-- so many records stand one behind the other, by their lengths, from the first offset to the second
pub data Lead (s : List ℕ) : ℕ → ℕ → ℕ → Type 0 where
  none : {at : ℕ} → Lead s zero at at
  next : {n at end : ℕ} → Lead s n (at + length_field s at) end → Lead s (suc n) at end

-- "an earlier switch link": link g, whose record stands behind the head, E elements and g links, stands before the offset and is not fixed
pub record EarlierSwitch (s : List ℕ) (E at g : ℕ) : Type 0 where
  pub place : ℕ
  pub stands : Lead s (1 + E + g) 0 place
  pub earlier : place < at
  pub switch : ¬ (word s (place + 8) ≡ 0)

-- "element count E (1 to 64), link count K (0 to 96)"
pub record InRange (E K : ℕ) : Type 0 where
  pub some : 1 ≤ E
  pub elements_fit : E ≤ 64
  pub links_fit : K ≤ 96

-- "cost (0 for fixed, 1 to 65,535 for a switch)"; form 0 is fixed, and a number of two bytes is at most 65,535
pub record CostSuits (form cost : ℕ) : Type 0 where
  pub fixed : form ≡ 0 → cost ≡ 0
  pub switch : ¬ (form ≡ 0) → 1 ≤ cost

-- The record that is due at an offset and stage of the input s, in a network of E elements and K links, breaks the rule.
abbrev pub BreaksRule : (s : List ℕ) (E K at : ℕ) → Stage → Rule → Type 0
-- "1. Fewer than four bytes remain where a record is due."
BreaksRule s E K at stage RecordMissing = remain s at < 4
-- "2. The kind isn't one that may come here."
BreaksRule s E K at stage KindOutOfPlace = ¬ MayCome stage (kind_field s at)
-- "3. The length isn't the kind's length."
BreaksRule s E K at stage WrongLength = ¬ KindLength (kind_field s at) (length_field s at)
-- "4. Fewer bytes remain than the length."
BreaksRule s E K at stage RecordCutOff = remain s at < length_field s at
-- "5. A network head has E or K outside its range."
BreaksRule s E K at stage HeadOutOfRange = (kind_field s at ≡ 1) × ¬ InRange (word s (at + 4)) (word s (at + 6))
-- "6. An element's flags exceed 3."
BreaksRule s E K at stage UnknownFlags = (load : ℕ) × (capacity : ℕ) × (flags : ℕ) × StatesElement s at load capacity flags × (3 < flags)
-- "7. A link has an end of E or more, or two equal ends."
BreaksRule s E K at stage BadEnds =
    IsLink s at × ((E ≤ word s (at + 4)) ⊎ ((E ≤ word s (at + 6)) ⊎ (word s (at + 4) ≡ word s (at + 6))))
-- "8. A link's form exceeds 2."; document 02, of kind 8: "Form 0 breaks rule 8 here."
BreaksRule s E K at stage UnknownForm = (IsLink s at × (2 < word s (at + 8))) ⊎ ((kind_field s at ≡ 8) × (word s (at + 8) ≡ 0))
-- "9. A link's cost doesn't suit its form."
BreaksRule s E K at stage UnsuitedCost = IsLink s at × ¬ CostSuits (word s (at + 8)) (word s (at + 10))
-- document 02: "It refuses, after 9 in the same record and with the same place, with 20 a guard that isn't an earlier switch."
BreaksRule s E K at stage BadGuard = (kind_field s at ≡ 8) × ¬ EarlierSwitch s E at (word s (at + 12))
-- "10. A plan head has more than 255 steps."
BreaksRule s E K at stage TooManySteps = (kind_field s at ≡ 5) × (255 < word s (at + 4))
-- "11. A step's link number is K or more."
BreaksRule s E K at stage UnknownLink = (kind_field s at ≡ 6) × (K ≤ word s (at + 4))
-- "12. A step's state exceeds 1."
BreaksRule s E K at stage UnknownState = (kind_field s at ≡ 6) × (1 < word s (at + 6))
-- rules 13 to 19 speak of no record
BreaksRule s E K at stage ByteAfterEnd = ⊥
BreaksRule s E K at stage NotATree = ⊥
BreaksRule s E K at stage TwoSources = ⊥
BreaksRule s E K at stage FaultWithSource = ⊥
BreaksRule s E K at stage Overloaded = ⊥
BreaksRule s E K at stage TooManyOperable = ⊥
BreaksRule s E K at stage BufferTooShort = ⊥

-- it breaks none
abbrev pub Keeps : (s : List ℕ) (E K at : ℕ) → Stage → Type 0
Keeps s E K at stage = (r : Rule) → ¬ BreaksRule s E K at stage r

-- "rules 1 to 12 within each record", 20 "after 9": it breaks this rule, and none that is checked sooner
pub record BreaksFirst (s : List ℕ) (E K at : ℕ) (stage : Stage) (r : Rule) : Type 0 where
  pub broken : BreaksRule s E K at stage r
  pub sooner : (q : Rule) → Sooner q r → ¬ BreaksRule s E K at stage q
