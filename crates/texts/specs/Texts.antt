-- Document 01, what all printed lines share: numbers, fields, the line feed, and the line of a refusal; and lines in a lent buffer.
-- Assumes nothing.
use Rattle.std.specs.Prelude.{◌≡◌, true, false, List, [], ◌∷◌, ◌++◌, ℕ, zero, suc, ◌+◌, ◌/◌, ◌%◌, ◌≤◌, ltb, ℤ, pos, negsuc, length, take, drop}
use Rattle.network.specs.declared.refusal.Refusal.{Refusal}
use Rattle.network.specs.Refusals.{rule_number}

-- "Printed numbers are in base ten without leading zeros". The depth d only bounds the recursion: with d = n it suffices.
unfoldable pub digits : ℕ → ℕ → List ℕ
digits zero n = (48 + n) ∷ []
digits (suc d) n = elim (ltb n 10) [ true ↦ (48 + n) ∷ [] | false ↦ digits d (n / 10) ++ ((48 + n % 10) ∷ []) ]

unfoldable pub decimal : ℕ → List ℕ
decimal n = digits n n

-- "one blank stands between fields"
unfoldable pub field : ℕ → List ℕ
field n = 32 ∷ decimal n

-- a signed number, with a minus sign in front where it is below 0, as a field
unfoldable pub signed_field : ℤ → List ℕ
signed_field (pos n) = field n
signed_field (negsuc n) = 32 ∷ 45 ∷ decimal (suc n)

-- "each line .. ends with one line feed"
abbrev pub feed : List ℕ
feed = 10 ∷ []

-- a line of a word and two numbers
unfoldable pub line_of : List ℕ → ℕ → ℕ → List ℕ
line_of word first second = word ++ field first ++ field second ++ feed

-- the word REFUSED
abbrev pub refused_word : List ℕ
refused_word = 82 ∷ 69 ∷ 70 ∷ 85 ∷ 83 ∷ 69 ∷ 68 ∷ []

-- "REFUSED number place as the only line"
unfoldable pub refused_line : Refusal → List ℕ
refused_line r = line_of refused_word (rule_number r.rule) r.place

-- the text in front of a buffer, whose later bytes keep their values
unfoldable pub in_front : List ℕ → List ℕ → List ℕ
in_front text buffer = text ++ drop (length text) buffer

-- n counts bytes in front of a buffer; the second part follows from the first, and is stated because the proof of `&buffer[..n]` looks for it
abbrev pub Counted : ℕ → List ℕ → Type 0
Counted n buffer = (n ≤ length buffer) × (n ≡ length (take n buffer))
