-- A text in a lent buffer, where it fits.
-- Assumes nothing.
use Rattle.std.specs.Prelude.{true, false, List, ℕ, ltb, length}
use Rattle.texts.specs.Texts.{in_front}

-- the text in front of a buffer that has room for it; any other buffer keeps its bytes
unfoldable pub text_in : List ℕ → List ℕ → List ℕ
text_in text buffer = elim (ltb (length buffer) (length text)) [ true ↦ buffer | false ↦ in_front text buffer ]
