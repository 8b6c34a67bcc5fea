-- Document 02, item 2: what the record reader is handed of the links before a record, which rule 20 asks for.
-- Assumes nothing.
use Rattle.std.specs.Prelude.{◌≡◌, List, ℕ, ◌<◌, get_or}
use Rattle.file_fields.specs.Views.{Seen}
use Rattle.file_refusals.specs.Breaking.{EarlierSwitch}

-- what is seen has a link of this number, and it is not fixed
pub record SwitchSeen (seen : Seen) (g : ℕ) : Type 0 where
  pub below : g < seen.links
  pub switch : ¬ (get_or seen.form g 0 ≡ 0)

-- the switches that are seen are those that stand before the offset
pub record SeesSwitches (s : List ℕ) (E at : ℕ) (seen : Seen) : Type 0 where
  pub sees : (g : ℕ) → EarlierSwitch s E at g → SwitchSeen seen g
  pub stands : (g : ℕ) → SwitchSeen seen g → EarlierSwitch s E at g
