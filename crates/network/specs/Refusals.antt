-- Document 01, "Refusals, in the order they are checked": the number of each rule, the order, and the first broken of a list of rules. Document 02: rule 20
-- is checked "after 9 in the same record".
-- Assumes nothing.
use Rattle.std.specs.Prelude.{Bool, true, false, List, [], ◌∷◌, ℕ, suc, ◌<◌, eqb, Result, Ok, Err}
use Rattle.network.specs.declared.refusal.Rule.{Rule}
use Rattle.network.specs.declared.refusal.Rule.TheVariants.{RecordMissing, KindOutOfPlace, WrongLength, RecordCutOff, HeadOutOfRange, UnknownFlags, BadEnds, UnknownForm, UnsuitedCost, TooManySteps, UnknownLink, UnknownState, ByteAfterEnd, NotATree, TwoSources, FaultWithSource, Overloaded, TooManyOperable, BufferTooShort, BadGuard}

abbrev pub rule_number : Rule → ℕ
rule_number RecordMissing = 1
rule_number KindOutOfPlace = 2
rule_number WrongLength = 3
rule_number RecordCutOff = 4
rule_number HeadOutOfRange = 5
rule_number UnknownFlags = 6
rule_number BadEnds = 7
rule_number UnknownForm = 8
rule_number UnsuitedCost = 9
rule_number TooManySteps = 10
rule_number UnknownLink = 11
rule_number UnknownState = 12
rule_number ByteAfterEnd = 13
rule_number NotATree = 14
rule_number TwoSources = 15
rule_number FaultWithSource = 16
rule_number Overloaded = 17
rule_number TooManyOperable = 18
rule_number BufferTooShort = 19
rule_number BadGuard = 20

-- the rules in the order in which they are checked
abbrev pub checked_order : List Rule
checked_order =
    RecordMissing ∷ KindOutOfPlace ∷ WrongLength ∷ RecordCutOff ∷ HeadOutOfRange ∷ UnknownFlags ∷ BadEnds ∷
    UnknownForm ∷ UnsuitedCost ∷ BadGuard ∷ TooManySteps ∷ UnknownLink ∷ UnknownState ∷ ByteAfterEnd ∷ NotATree ∷ TwoSources ∷
    FaultWithSource ∷ Overloaded ∷ TooManyOperable ∷ BufferTooShort ∷ []

abbrev pub pick {ℓ} : {A : Type ℓ} → Bool → A → A → A
pick true a b = a
pick false a b = b

-- how many of a list's rules stand before the one of a number
abbrev pub count_before : List Rule → ℕ → ℕ
count_before [] n = 0
count_before (q ∷ qs) n = pick (eqb (rule_number q) n) 0 (suc (count_before qs n))

-- how many rules are checked before a rule
unfoldable pub position : Rule → ℕ
position r = count_before checked_order (rule_number r)

-- a rule is checked before another
abbrev pub Sooner : Rule → Rule → Type 0
Sooner q r = position q < position r

-- a rule with the test that says whether it is broken
pub record Check : Type 0 where
  pub rule : Rule
  pub broken : Bool

abbrev pub check : Rule → Bool → Check
check r b = record { rule = r; broken = b }

-- the first of the rules that is broken
abbrev pub first_broken : List Check → Result Unit Rule
first_broken [] = Ok tt
first_broken (c ∷ cs) = pick c.broken (Err c.rule) (first_broken cs)
