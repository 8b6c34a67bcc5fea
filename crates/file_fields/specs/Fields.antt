-- Document 01, "Files" and refusals 5 to 12, and document 02's kinds of element and link: the numbers in a record, how long its kind's records are, and what its fields must keep.
-- Assumes nothing.
use Rattle.std.specs.Prelude.{Bool, true, false, not, ◌&&◌, List, [], ◌∷◌, ◌++◌, ℕ, ◌+◌, ◌*◌, eqb, ltb, leb, get_or}
use Rattle.network.specs.declared.refusal.Rule.TheVariants.{HeadOutOfRange, UnknownFlags, BadEnds, UnknownForm, UnsuitedCost, TooManySteps, UnknownLink, UnknownState, BadGuard}
use Rattle.network.specs.Refusals.{Check, check, pick}
use Rattle.network.specs.Accepted.{suits}
use Rattle.file_fields.specs.Views.{Seen}

-- "Numbers are unsigned, two bytes, low byte first"
unfoldable pub word : List ℕ → ℕ → ℕ
word s at = get_or s at 0 + 256 * get_or s (at + 1) 0

-- document 02: "four bytes", low byte first
unfoldable pub wide_word : List ℕ → ℕ → ℕ
wide_word s at = word s at + 65536 * word s (at + 2)

-- the length of each kind's records: head 8, element 10, link 12, end 4, plan head 6, step 8, wide element 14, guarded switch 14; 0 for a number that is no kind
unfoldable pub length_of : ℕ → ℕ
length_of k =
    pick (eqb k 1) 8
    (pick (eqb k 2) 10 (pick (eqb k 3) 12 (pick (eqb k 4) 4 (pick (eqb k 5) 6 (pick (eqb k 6) 8 (pick (eqb k 7) 14 (pick (eqb k 8) 14 0)))))))

abbrev pub either : Bool → Bool → Bool
either true b = true
either false b = b

-- the rules that speak of a kind, where the record is of that kind
abbrev pub only : Bool → List Check → List Check
only true cs = cs
only false cs = []

-- Rule 5: "A network head has E or K outside its range." E is 1 to 64, K is 0 to 96.
unfoldable pub head_rules : List ℕ → ℕ → List Check
head_rules s at =
    check HeadOutOfRange (either (eqb (word s (at + 4)) 0) (either (ltb 64 (word s (at + 4))) (ltb 96 (word s (at + 6))))) ∷ []

-- an element is of kind 2, or of document 02's kind 7; where its flags stand
abbrev pub element_kind : ℕ → Bool
element_kind kind = either (eqb kind 2) (eqb kind 7)

abbrev pub flags_at : ℕ → ℕ
flags_at kind = pick (eqb kind 7) 12 8

-- Rule 6, of the flags at an offset: "An element's flags exceed 3."
unfoldable pub flags_rules : List ℕ → ℕ → List Check
flags_rules s at = check UnknownFlags (ltb 3 (word s at)) ∷ []

-- a link is of kind 3, or of document 02's kind 8
abbrev pub link_kind : ℕ → Bool
link_kind kind = either (eqb kind 3) (eqb kind 8)

-- "A link's form exceeds 2."; document 02, of kind 8: "Form 0 breaks rule 8 here."
abbrev pub unknown_form : (kind form : ℕ) → Bool
unknown_form kind form = either (ltb 2 form) (eqb kind 8 && eqb form 0)

-- a guard is not an earlier switch: its number is not below this link's own, or that link is fixed
abbrev pub bad_guard : Seen → ℕ → Bool
bad_guard seen guard = either (leb seen.links guard) (eqb (get_or seen.form guard 0) 0)

-- Rule 20: "a guard that isn't an earlier switch"
unfoldable pub guard_rules : List ℕ → ℕ → Seen → List Check
guard_rules s at seen = check BadGuard (bad_guard seen (word s (at + 12))) ∷ []

-- Rules 7 to 9, in a network of so many elements: "A link has an end of E or more, or two equal ends." "A link's form exceeds 2."
-- "A link's cost doesn't suit its form."
unfoldable pub plain_link_rules : List ℕ → ℕ → ℕ → ℕ → List Check
plain_link_rules s at kind elements =
    check BadEnds (either (leb elements (word s (at + 4))) (either (leb elements (word s (at + 6))) (eqb (word s (at + 4)) (word s (at + 6))))) ∷
    check UnknownForm (unknown_form kind (word s (at + 8))) ∷
    check UnsuitedCost (not (suits (word s (at + 8)) (word s (at + 10)))) ∷ []

-- "It refuses, after 9 in the same record": rule 20 of kind 8 behind these
unfoldable pub link_rules : List ℕ → ℕ → ℕ → Seen → List Check
link_rules s at kind seen = plain_link_rules s at kind seen.elements ++ only (eqb kind 8) (guard_rules s at seen)

-- Rule 10: "A plan head has more than 255 steps."
unfoldable pub plan_head_rules : List ℕ → ℕ → List Check
plan_head_rules s at = check TooManySteps (ltb 255 (word s (at + 4))) ∷ []

-- Rules 11 and 12, in a network of so many links: "A step's link number is K or more." "A step's state exceeds 1."
unfoldable pub step_rules : List ℕ → ℕ → ℕ → List Check
step_rules s at links =
    check UnknownLink (leb links (word s (at + 4))) ∷
    check UnknownState (ltb 1 (word s (at + 6))) ∷ []

-- Rules 5 to 12 and 20 of a record of a kind, by what was read before it
unfoldable pub field_rules : List ℕ → ℕ → ℕ → Seen → List Check
field_rules s at kind seen =
    only (eqb kind 1) (head_rules s at) ++
    only (element_kind kind) (flags_rules s (at + flags_at kind)) ++
    only (link_kind kind) (link_rules s at kind seen) ++
    only (eqb kind 5) (plan_head_rules s at) ++
    only (eqb kind 6) (step_rules s at seen.links)
