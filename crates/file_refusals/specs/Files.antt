-- Document 01, "Files" and refusals 1 to 13, with document 02's rule 20, in its own words: the records of the files one behind the other, and the first rule that an input breaks.
-- Assumes nothing.
use Rattle.std.specs.Prelude.{List, [], ◌∷◌, ◌++◌, ℕ, ◌+◌, ◌<◌, length, replicate}
use Rattle.network.specs.declared.refusal.Rule.{Rule}
use Rattle.network.specs.declared.refusal.Rule.TheVariants.{ByteAfterEnd}
use Rattle.network.specs.declared.refusal.Refusal.{Refusal}
use Rattle.file_stages.specs.declared.Stage.{Stage}
use Rattle.file_stages.specs.declared.Stage.TheVariants.{Head, Elements, Links, End, PlanHead, Steps, PlanEnd}
use Rattle.file_fields.specs.Fields.{word}
use Rattle.file_records.specs.Records.{length_field}
use Rattle.file_refusals.specs.Breaking.{Keeps, BreaksFirst}

-- "A network file is one head, E elements, K links, one end."
abbrev pub network_stages : (E K : ℕ) → List Stage
network_stages E K = Head ∷ (replicate E Elements ++ (replicate K Links ++ (End ∷ [])))

-- "A plan file is one plan head, its steps, one end."
abbrev pub plan_stages : ℕ → List Stage
plan_stages steps = PlanHead ∷ (replicate steps Steps ++ (PlanEnd ∷ []))

-- records of these stages stand one behind the other, from the first offset to the second, and break none of rules 1 to 12 and 20
pub data Stand (s : List ℕ) (E K : ℕ) : List Stage → ℕ → ℕ → Type 0 where
  none : {at : ℕ} → Stand s E K [] at at
  next : {at end : ℕ} {stage : Stage} {rest : List Stage}
      → Keeps s E K at stage → Stand s E K rest (at + length_field s at) end → Stand s E K (stage ∷ rest) at end

-- "Records are read from the front, rules 1 to 12 within each record; the place for 1 to 12 is the offset, in the whole input, of the record's
-- first byte": of the records of these stages from an offset on, this one breaks a rule, or it breaks none and a later one does
pub data FirstBreak (s : List ℕ) (E K : ℕ) : List Stage → ℕ → Refusal → Type 0 where
  here : {at : ℕ} {stage : Stage} {rest : List Stage} {r : Rule}
      → BreaksFirst s E K at stage r → FirstBreak s E K (stage ∷ rest) at (record { rule = r; place = at })
  later : {at : ℕ} {stage : Stage} {rest : List Stage} {f : Refusal}
      → Keeps s E K at stage → FirstBreak s E K rest (at + length_field s at) f → FirstBreak s E K (stage ∷ rest) at f

-- the network file at the front of s, by the E and K of its head, and the plan file at an offset, by the steps of its head
abbrev pub NetworkStands : List ℕ → ℕ → Type 0
NetworkStands s end = Stand s (word s 4) (word s 6) (network_stages (word s 4) (word s 6)) 0 end

abbrev pub PlanStands : List ℕ → ℕ → ℕ → Type 0
PlanStands s at end = Stand s (word s 4) (word s 6) (plan_stages (word s (at + 4))) at end

abbrev pub NetworkBreaks : List ℕ → Refusal → Type 0
NetworkBreaks s f = FirstBreak s (word s 4) (word s 6) (network_stages (word s 4) (word s 6)) 0 f

abbrev pub PlanBreaks : List ℕ → ℕ → Refusal → Type 0
PlanBreaks s at f = FirstBreak s (word s 4) (word s 6) (plan_stages (word s (at + 4))) at f

-- "The planning program reads one network file": the first of rules 1 to 13 and 20 that s breaks, with its place
pub data FirstBroken (s : List ℕ) : Refusal → Type 0 where
  in_file : {f : Refusal} → NetworkBreaks s f → FirstBroken s f
  -- "13. A byte follows the last end record (the place is that byte)."
  behind : {end : ℕ} → NetworkStands s end → end < length s → FirstBroken s (record { rule = ByteAfterEnd; place = end })

-- "The judging program reads a network file with a plan file directly behind it."
pub data FirstBrokenBoth (s : List ℕ) : Refusal → Type 0 where
  in_network : {f : Refusal} → NetworkBreaks s f → FirstBrokenBoth s f
  in_plan : {at : ℕ} {f : Refusal} → NetworkStands s at → PlanBreaks s at f → FirstBrokenBoth s f
  behind_plan : {at end : ℕ} → NetworkStands s at → PlanStands s at end → end < length s
      → FirstBrokenBoth s (record { rule = ByteAfterEnd; place = end })

-- the planner's input keeps rules 1 to 13 and 20: the network file ends where s ends
abbrev pub KeepsNetwork : List ℕ → Type 0
KeepsNetwork s = NetworkStands s (length s)

-- the judge's input keeps rules 1 to 13 and 20
pub record KeepsBoth (s : List ℕ) : Type 0 where
  pub middle : ℕ
  pub network : NetworkStands s middle
  pub plan : PlanStands s middle (length s)
