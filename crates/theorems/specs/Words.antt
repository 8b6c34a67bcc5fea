-- Words of the demands and requests that the theorems use: what is printed, also where only some kinds are known; where a
-- record of kind 8 is refused; how a text begins; and what a plan does on its way.
-- Assumes nothing.
use Rattle.std.specs.Prelude.{◌≡◌, Bool, true, not, ◌&&◌, List, ◌∷◌, ◌++◌, ◌⊎◌, ℕ, ◌+◌, ◌<◌, ◌≤◌, eqb}
use Rattle.network.specs.declared.refusal.Rule.{Rule}
use Rattle.network.specs.declared.refusal.Rule.TheVariants.{UnknownForm, BadGuard}
use Rattle.network.specs.Refusals.{Sooner}
use Rattle.file_stages.specs.declared.Stage.{Stage}
use Rattle.file_fields.specs.Fields.{word}
use Rattle.file_records.specs.Records.{kind_field}
use Rattle.file_refusals.specs.Breaking.{Lead, BreaksRule, EarlierSwitch}
use Rattle.file_refusals.specs.Files.{network_stages, Stand}
use Rattle.feeding.specs.Networks.{Net}
use Rattle.feeding.specs.Parts.{Joined, Sound, Live}
use Rattle.feeding.specs.Loads.{Fed, load_at}
use Rattle.feeding.specs.Safety.{Tree}
use Rattle.feeding.specs.Restoration.{Restorable, Operable}
use Rattle.feeding.specs.Plans.{Step, run}
use Rattle.plan_outcome.specs.Outcomes.{outcome_by, outcome}
use Rattle.planner.specs.Replies.{lines_of}
use Rattle.judge_line.specs.MarkLines.{mark_line}
use Rattle.judge.specs.Judging.{mark_for_by, mark_for}
use Rattle.final_judge.specs.Finals.{final_for, files_for, decided_lines}

-- ---- what is printed, by the contracts of `plan_text`, `mark_text`, `final_text` and `files_text`

abbrev pub plan_text : List ℕ → List ℕ
plan_text s = lines_of (outcome s)

abbrev pub mark_text : List ℕ → List ℕ
mark_text s = mark_line (mark_for s)

abbrev pub final_text : List ℕ → List ℕ
final_text s = decided_lines (final_for s)

abbrev pub files_text : (network first second : List ℕ) → List ℕ
files_text network first second = decided_lines (files_for network first second)

-- the same where only some kinds of records are known
abbrev pub plan_text_by : (ℕ → Bool) → List ℕ → List ℕ
plan_text_by known s = lines_of (outcome_by known s)

abbrev pub mark_text_by : (ℕ → Bool) → List ℕ → List ℕ
mark_text_by known s = mark_line (mark_for_by known s)

-- the kinds that item 1 knows: those of the table but for item 2's; and those that document 01 knows: item 1's not either
abbrev pub item_one : ℕ → Bool
item_one kind = not (eqb kind 8)

abbrev pub document_one : ℕ → Bool
document_one kind = item_one kind && not (eqb kind 7)

-- no record of s, one behind the other by their lengths, is of this kind
abbrev pub Without : ℕ → List ℕ → Type 0
Without kind s = (n at : ℕ) → Lead s n 0 at → ¬ (kind_field s at ≡ kind)

-- the records of the network file stand up to this place, and the one there breaks no rule that is checked sooner
-- than r
pub record StandsTo (s : List ℕ) (place : ℕ) (r : Rule) : Type 0 where
  pub front : List Stage
  pub stage : Stage
  pub rest : List Stage
  pub whole : network_stages (word s 4) (word s 6) ≡ front ++ (stage ∷ rest)
  pub before : Stand s (word s 4) (word s 6) front 0 place
  pub sooner : (q : Rule) → Sooner q r → ¬ BreaksRule s (word s 4) (word s 6) place stage q

-- "Form 0 breaks rule 8 here.": the record there is of kind 8, and its form is 0, or above 2 as for any link
pub record FormRefused (s : List ℕ) (place : ℕ) : Type 0 where
  pub due : StandsTo s place UnknownForm
  pub kind : kind_field s place ≡ 8
  pub form : (word s (place + 8) ≡ 0) ⊎ (2 < word s (place + 8))

-- "It refuses, after 9 in the same record and with the same place, with 20 a guard that isn't an earlier switch.": the
-- record there is of kind 8, and names a guard that is no earlier switch
pub record GuardRefused (s : List ℕ) (place : ℕ) : Type 0 where
  pub due : StandsTo s place BadGuard
  pub kind : kind_field s place ≡ 8
  pub guard : ¬ EarlierSwitch s (word s 4) place (word s (place + 12))

-- a text begins with a word
abbrev pub Begins : List ℕ → List ℕ → Type 0
Begins word text = (rest : List ℕ) × (text ≡ word ++ rest)

-- "keeps every configuration on the way radial, clear of the fault and within capacity, and ends with every restorable element fed": the
-- configurations are those after each of its first steps, from none to all of them; radial: every part is a tree, with at most one sound source
pub record OnTheWay (net : Net) (q : List Step) : Type 0 where
  pub radial : (front rest : List Step) → q ≡ front ++ rest → (e : ℕ) → e < net.grid.E → Tree net.grid (run net.start_closed front) e
  pub one_source : (front rest : List Step) → q ≡ front ++ rest → (s t : ℕ) → Sound net.grid s → Sound net.grid t
      → Joined net.grid (run net.start_closed front) t s → s ≡ t
  pub clear : (front rest : List Step) → q ≡ front ++ rest → (e : ℕ) → e < net.grid.E → net.grid.faulty e ≡ true
      → ¬ Live net.grid (run net.start_closed front) e
  pub within : (front rest : List Step) → q ≡ front ++ rest → (e via : ℕ) → Fed net.grid (run net.start_closed front) e via
      → load_at net.grid (run net.start_closed front) e via ≤ net.grid.capacity e
  pub fed : (e : ℕ) → e < net.grid.E → Restorable net e → Live net.grid (run net.start_closed q) e

-- "Each step operates an operable switch that is not yet in the state wanted"
pub record Operates (net : Net) (q : List Step) : Type 0 where
  pub operable : (front rest : List Step) (s : Step) → q ≡ front ++ (s ∷ rest) → Operable net s.link
  pub changes : (front rest : List Step) (s : Step) → q ≡ front ++ (s ∷ rest) → run net.start_closed front s.link ≡ not s.want
